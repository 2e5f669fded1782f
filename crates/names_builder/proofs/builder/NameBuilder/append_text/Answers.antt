use Rattle.std.proofs.Common.{rules, [], ◌∷◌, ◌++◌, ap, sym, refl, subst, ◌∙◌, append_assoc, inl, inr}
use Rattle.std.proofs.lemmas.List.{append-nil}
use Rattle.std.proofs.lemmas.Result.{err_from_is_err_and}
use Rattle.std.specs.Iterator.{Yields}
use Rattle.names_wire.specs.Spelled.{SpellsNothing}
use Rattle.names_wire.proofs.OnError.{on_err}
use Rattle.names_builder.specs.Building.{IsShort}
use Rattle.names_builder.specs.FromText.{text_behind, StopsInText}
use Rattle.names_builder.proofs.FromTexts.{yields_more, nothing_follows, no_text, whatever}
use Rattle.names_builder.proofs.PartText.{at_first, read_on, stops, stops_at_next, stops_within}
use Rattle.names_builder.proofs.builder.NameBuilder.append_text.Goals as goal

pub loop-ch-init : goal.loop-ch-init
loop-ch-init g c = record {
  can = search rules;
  finite = search rules;
  short = subst IsShort c.self.view_is c.self.invariant.short;
  begins = c.requires.begins;
  read = at_first c.args.reader c.args.self.now;
  onward = λ rest. refl;
}

pub loop-ch-preserved : goal.loop-ch-preserved
loop-ch-preserved g c = record {
  can = search rules;
  finite = search rules;
  short = c.push_char.ensures.limits;
  begins = c.push_char.ensures.begun;
  read = read_on c.args.reader c.loop-ch.yielded c.loop-ch.reader c.push_char.new.reader c.in-Some.ch c.args.self.now c.loop-ch.self c.push_char.new.self c.loop-ch.invariant.read c.in_ok-push_char.ensures.adds;
  onward = λ rest.
      ap (λ t. text_behind c.args.self.now (c.args.reader ++ t)) (append_assoc c.loop-ch.yielded (c.in-Some.ch ∷ []) rest)
      ∙ c.loop-ch.invariant.onward (c.in-Some.ch ∷ rest) ∙ c.in_ok-push_char.ensures.ok rest;
}

pub returns-in_err-push_char-clause-refused : goal.returns-in_err-push_char-clause-refused
returns-in_err-push_char-clause-refused g c =
    let p = err_from_is_err_and c.from_residual.result c.from_residual.ensures.1 in
    rw (p.1, p.2) (λ h. inl (
      c.loop-ch.yielded ++ c.in-Some.ch ∷ [],
      c.next.new.self,
      yields_more g.C.Iterator.next_gives c.args.chars c.loop-ch.yielded c.loop-ch.ch-iterator c.in-Some.ch c.next.new.self
          (subst (λ s. Yields g.C.Iterator.next_gives s c.loop-ch.yielded c.loop-ch.ch-iterator) c.into_iter-ch-iterator.ensures.into_iter_gives c.loop-ch.yielded_by)
          c.in-Some.ensures.steps,
      λ rest.
          ap (λ t. text_behind c.args.self.now (c.args.reader ++ t)) (append_assoc c.loop-ch.yielded (c.in-Some.ch ∷ []) rest)
          ∙ c.loop-ch.invariant.onward (c.in-Some.ch ∷ rest) ∙ c.in_err-push_char.ensures.refused h rest,
    ))

pub returns-in_err-push_char-clause-stands : goal.returns-in_err-push_char-clause-stands
returns-in_err-push_char-clause-stands g c =
    on_err {P = StopsInText g.C.Iterator.next_gives c.args.chars c.args.reader c.args.self.now c.push_char.new.self} _
    (stops g.C.Iterator.next_gives c.args.chars c.loop-ch.ch-iterator c.args.reader c.loop-ch.yielded c.loop-ch.reader c.args.self.now c.loop-ch.self c.push_char.new.self
    c.loop-ch.invariant.read c.loop-ch.invariant.short c.in_err-push_char.ensures.err c.loop-ch.invariant.begins
    (subst (λ s. Yields g.C.Iterator.next_gives s c.loop-ch.yielded c.loop-ch.ch-iterator) c.into_iter-ch-iterator.ensures.into_iter_gives c.loop-ch.yielded_by))

pub returns-in_err-finish-clause-refused : goal.returns-in_err-finish-clause-refused
returns-in_err-finish-clause-refused g c =
    whatever {P = SpellsNothing g.C.Iterator.next_gives c.args.chars (λ text. text_behind c.args.self.now (c.args.reader ++ text))} _
    (inr (
      c.loop-ch.yielded,
      (c.next.new.self, (c.loop-ch.ch-iterator, (subst (λ s. Yields g.C.Iterator.next_gives s c.loop-ch.yielded c.loop-ch.ch-iterator) c.into_iter-ch-iterator.ensures.into_iter_gives c.loop-ch.yielded_by), c.in-None.ensures.steps)),
      ap (λ t. text_behind c.args.self.now (c.args.reader ++ t)) (sym (append-nil c.loop-ch.yielded)) ∙ c.loop-ch.invariant.onward []
          ∙ ap (text_behind c.loop-ch.self) (append-nil c.loop-ch.reader) ∙ no_text c.loop-ch.self c.loop-ch.reader c.in_err-finish.ensures.err,
    ))

pub returns-in_err-finish-clause-stands : goal.returns-in_err-finish-clause-stands
returns-in_err-finish-clause-stands g c =
    on_err {P = StopsInText g.C.Iterator.next_gives c.args.chars c.args.reader c.args.self.now c.loop-ch.self} _
    (stops g.C.Iterator.next_gives c.args.chars c.loop-ch.ch-iterator c.args.reader c.loop-ch.yielded c.loop-ch.reader c.args.self.now c.loop-ch.self c.loop-ch.self
    c.loop-ch.invariant.read c.loop-ch.invariant.short refl c.loop-ch.invariant.begins
    (subst (λ s. Yields g.C.Iterator.next_gives s c.loop-ch.yielded c.loop-ch.ch-iterator) c.into_iter-ch-iterator.ensures.into_iter_gives c.loop-ch.yielded_by))

pub returns-clause-ok : goal.returns-clause-ok
returns-clause-ok g c = (
  c.loop-ch.yielded,
  (c.next.new.self, (c.loop-ch.ch-iterator, (subst (λ s. Yields g.C.Iterator.next_gives s c.loop-ch.yielded c.loop-ch.ch-iterator) c.into_iter-ch-iterator.ensures.into_iter_gives c.loop-ch.yielded_by), c.in-None.ensures.steps)),
  ap (λ t. text_behind c.args.self.now (c.args.reader ++ t)) (sym (append-nil c.loop-ch.yielded)) ∙ c.loop-ch.invariant.onward []
      ∙ ap (λ r. text_behind c.loop-ch.self (r ++ [])) c.in_ok-finish.ensures.ok ∙ nothing_follows c.loop-ch.self c.loop-ch.invariant.short,
)

pub returns-in_err-push_char-clause-fault : goal.returns-in_err-push_char-clause-fault
returns-in_err-push_char-clause-fault g c =
    let p = err_from_is_err_and c.from_residual.result c.from_residual.ensures.1 in
    rw (p.1, p.2) (stops_at_next g.C.Iterator.next_gives c.args.chars c.loop-ch.ch-iterator c.next.new.self c.args.reader c.loop-ch.yielded c.loop-ch.reader c.args.self.now c.loop-ch.self c.push_char.new.self c.in-Some.ch c.in_err-push_char.field-0.0
    c.loop-ch.invariant.read c.loop-ch.invariant.short c.in_err-push_char.ensures.err c.loop-ch.invariant.begins
    (subst (λ s. Yields g.C.Iterator.next_gives s c.loop-ch.yielded c.loop-ch.ch-iterator) c.into_iter-ch-iterator.ensures.into_iter_gives c.loop-ch.yielded_by)
    c.in-Some.ensures.steps c.in_err-push_char.ensures.fault)

pub returns-in_err-finish-clause-fault : goal.returns-in_err-finish-clause-fault
returns-in_err-finish-clause-fault g c =
    let p = err_from_is_err_and c.from_residual-in_err-finish.result c.from_residual-in_err-finish.ensures.1 in
    rw (p.1, p.2.1) (stops_within g.C.Iterator.next_gives c.args.chars c.loop-ch.ch-iterator c.next.new.self c.args.reader c.loop-ch.yielded c.loop-ch.reader c.args.self.now c.loop-ch.self _
    c.loop-ch.invariant.read c.loop-ch.invariant.short c.loop-ch.invariant.begins
    (subst (λ s. Yields g.C.Iterator.next_gives s c.loop-ch.yielded c.loop-ch.ch-iterator) c.into_iter-ch-iterator.ensures.into_iter_gives c.loop-ch.yielded_by)
    c.in-None.ensures.steps c.in_err-finish.ensures.err c.in_err-finish.ensures.kind)
