use Rattle.std.proofs.Common.{rules, ◌≡◌, ◌++◌, [], ◌∷◌, ap, sym, subst, ◌∙◌, inl, inr, IfSome, true}
use Rattle.definitions.specs.Text.{is_symbol, label_of_text, symbols_of}
use Rattle.names_wire.specs.Symbols.{symbol_of, followed_by, left_of}
use Rattle.names_wire.specs.Spelled.{SpellsNothing}
use Rattle.names_wire.specs.LabelFault.{named, FaultBehind}
use Rattle.names_wire.specs.Owned.{owned_octets}
use Rattle.names_wire.proofs.OnError.{on_err}
use Rattle.names_wire.proofs.PartLabel.{begun, took, spoilt, stopped, cut_short, empty, complete, yields_more, some_octets, not_both}
use Rattle.std.specs.Iterator.{Yields}
use Rattle.std.proofs.lemmas.Result.{err_from_is_err_and}
use Rattle.names_wire.proofs.LabelFaults.{none_begun, no_symbol, bad_symbol, ends_within, ends_empty}
use Rattle.names_wire.proofs.owned.OwnedLabel.from_chars.Goals as goal

pub loop-ch-init : goal.loop-ch-init
loop-ch-init g c = (search rules, search rules, begun _ _ c.new-reader.ensures (c.from_label-label.ensures ∙ c.root.ensures), none_begun _ c.new-reader.ensures)

pub returns-in_err-symbol-clause-err : goal.returns-in_err-symbol-clause-err
returns-in_err-symbol-clause-err g c =
    on_err {P = SpellsNothing g.C.Iterator.next_gives c.args.chars label_of_text} _
    (inl (
      c.loop-ch.yielded ++ c.in-Some.ch ∷ [],
      c.next.new.self,
      yields_more g.C.Iterator.next_gives c.args.chars c.loop-ch.yielded c.loop-ch.ch-iterator c.in-Some.ch c.next.new.self
          (subst (λ s. Yields g.C.Iterator.next_gives s c.loop-ch.yielded c.loop-ch.ch-iterator) c.into_iter-ch-iterator.ensures.into_iter_gives c.loop-ch.yielded_by)
          c.in-Some.ensures.steps,
      stopped _ _ _ _ c.loop-ch.invariant.2 c.in_err-symbol.ensures.err,
    ))

pub loop-ch-preserved-in-Continue-branch-3 : goal.loop-ch-preserved-in-Continue-branch-3
loop-ch-preserved-in-Continue-branch-3 g c = (
  search rules,
  search rules,
  took c.loop-ch.yielded c.loop-ch.reader c.push.new.self _ _ c.in-Some.ch (symbol_of c.in-Some-2.symbol) c.loop-ch.invariant.2
      (λ rest. c.in_ok-symbol.ensures.read rest ∙ ap (λ o. followed_by o (symbols_of (c.push.new.self ++ rest))) c.in-Some-2.is)
      (subst (λ o. IfSome o (λ s. is_symbol (symbol_of s) ≡ true)) c.in-Some-2.is c.in_ok-symbol.ensures.valid)
      c.in_ok-push.ensures.fits c.in_ok-push.ensures.ok (c.in_ok-symbol.ensures.left ∙ ap (λ o. left_of o (c.loop-ch.reader ++ c.in-Some.ch ∷ [])) c.in-Some-2.is),
  c.push.ensures.begun,
)

pub returns-in_err-push-clause-err : goal.returns-in_err-push-clause-err
returns-in_err-push-clause-err g c =
    on_err {P = SpellsNothing g.C.Iterator.next_gives c.args.chars label_of_text} _
    (inl (
      c.loop-ch.yielded ++ c.in-Some.ch ∷ [],
      c.next.new.self,
      yields_more g.C.Iterator.next_gives c.args.chars c.loop-ch.yielded c.loop-ch.ch-iterator c.in-Some.ch c.next.new.self
          (subst (λ s. Yields g.C.Iterator.next_gives s c.loop-ch.yielded c.loop-ch.ch-iterator) c.into_iter-ch-iterator.ensures.into_iter_gives c.loop-ch.yielded_by)
          c.in-Some.ensures.steps,
      spoilt _ _ c.push.new.self _ _ (symbol_of c.in-Some-2.symbol) c.loop-ch.invariant.2
          (λ rest. c.in_ok-symbol.ensures.read rest ∙ ap (λ o. followed_by o (symbols_of (c.push.new.self ++ rest))) c.in-Some-2.is)
          c.in_err-push.ensures.err,
    ))

pub returns-in_err-finish-clause-err : goal.returns-in_err-finish-clause-err
returns-in_err-finish-clause-err g c =
    on_err {P = SpellsNothing g.C.Iterator.next_gives c.args.chars label_of_text} _
    (inr (
      c.loop-ch.yielded,
      (c.next.new.self, (c.loop-ch.ch-iterator, (subst (λ s. Yields g.C.Iterator.next_gives s c.loop-ch.yielded c.loop-ch.ch-iterator) c.into_iter-ch-iterator.ensures.into_iter_gives c.loop-ch.yielded_by), c.in-None.ensures.steps)),
      cut_short _ _ _ c.loop-ch.invariant.2 c.in_err-finish.ensures.err,
    ))

pub returns-then-is_root-clause-err : goal.returns-then-is_root-clause-err
returns-then-is_root-clause-err g c =
    inr (
      c.loop-ch.yielded,
      (c.next.new.self, (c.loop-ch.ch-iterator, (subst (λ s. Yields g.C.Iterator.next_gives s c.loop-ch.yielded c.loop-ch.ch-iterator) c.into_iter-ch-iterator.ensures.into_iter_gives c.loop-ch.yielded_by), c.in-None.ensures.steps)),
      empty _ _ _ c.loop-ch.invariant.2 c.in_ok-finish.ensures.ok (sym c.as_label.ensures ∙ c.is_root.ensures.0 c.if-is_root.true),
    )

pub returns-clause-ok : goal.returns-clause-ok
returns-clause-ok g c = (
  c.loop-ch.yielded,
  (c.next.new.self, (c.loop-ch.ch-iterator, (subst (λ s. Yields g.C.Iterator.next_gives s c.loop-ch.yielded c.loop-ch.ch-iterator) c.into_iter-ch-iterator.ensures.into_iter_gives c.loop-ch.yielded_by), c.in-None.ensures.steps)),
  complete _ _ _ c.loop-ch.invariant.2 c.in_ok-finish.ensures.ok (some_octets (owned_octets c.loop-ch.label) (λ e. not_both c.is_root.result (c.is_root.ensures.1 (c.as_label.ensures ∙ e)) c.if-is_root.false)),
)

pub returns-in_err-symbol-clause-fault : goal.returns-in_err-symbol-clause-fault
returns-in_err-symbol-clause-fault g c =
    let p = err_from_is_err_and c.from_residual.result c.from_residual.ensures.1 in
    rw (p.1) (no_symbol g.C.Iterator.next_gives c.args.chars c.loop-ch.ch-iterator c.next.new.self c.loop-ch.yielded c.loop-ch.reader (owned_octets c.loop-ch.label) c.in-Some.ch c.in_err-symbol.field-0.0 _
    c.loop-ch.invariant.2 c.loop-ch.invariant.3
    (subst (λ s. Yields g.C.Iterator.next_gives s c.loop-ch.yielded c.loop-ch.ch-iterator) c.into_iter-ch-iterator.ensures.into_iter_gives c.loop-ch.yielded_by)
    c.in-Some.ensures.steps c.in_err-symbol.ensures.stops c.in_err-symbol.ensures.err c.in_err-symbol.ensures.kind p.2)

pub returns-in_err-push-clause-fault : goal.returns-in_err-push-clause-fault
returns-in_err-push-clause-fault g c =
    let p = err_from_is_err_and c.from_residual-in_err-push.result c.from_residual-in_err-push.ensures.1 in
    rw (p.1) (bad_symbol g.C.Iterator.next_gives c.args.chars c.loop-ch.ch-iterator c.next.new.self c.loop-ch.yielded c.loop-ch.reader c.push.new.self (owned_octets c.loop-ch.label) c.in-Some.ch (symbol_of c.in-Some-2.symbol) _
    c.loop-ch.invariant.2 c.loop-ch.invariant.3
    (subst (λ s. Yields g.C.Iterator.next_gives s c.loop-ch.yielded c.loop-ch.ch-iterator) c.into_iter-ch-iterator.ensures.into_iter_gives c.loop-ch.yielded_by)
    c.in-Some.ensures.steps (λ rest. c.in_ok-symbol.ensures.read rest ∙ ap (λ o. followed_by o (symbols_of (c.push.new.self ++ rest))) c.in-Some-2.is)
    (c.in_ok-symbol.ensures.left ∙ ap (λ o. left_of o (c.loop-ch.reader ++ c.in-Some.ch ∷ [])) c.in-Some-2.is)
    (subst (λ x. FaultBehind (owned_octets c.loop-ch.label) (symbol_of c.in-Some-2.symbol) (named x)) (sym p.2) c.in_err-push.ensures.fault))

pub returns-in_err-finish-clause-fault : goal.returns-in_err-finish-clause-fault
returns-in_err-finish-clause-fault g c =
    let p = err_from_is_err_and c.from_residual-in_err-finish.result c.from_residual-in_err-finish.ensures.1 in
    rw (p.1) (ends_within g.C.Iterator.next_gives c.args.chars c.loop-ch.ch-iterator c.next.new.self c.loop-ch.yielded c.loop-ch.reader (owned_octets c.loop-ch.label) c.in_err-finish.field-0.0 _
    c.loop-ch.invariant.2 c.loop-ch.invariant.3
    (subst (λ s. Yields g.C.Iterator.next_gives s c.loop-ch.yielded c.loop-ch.ch-iterator) c.into_iter-ch-iterator.ensures.into_iter_gives c.loop-ch.yielded_by)
    c.in-None.ensures.steps c.in_err-finish.ensures.err c.in_err-finish.ensures.kind p.2)

pub returns-then-is_root-clause-fault : goal.returns-then-is_root-clause-fault
returns-then-is_root-clause-fault g c =
    ends_empty g.C.Iterator.next_gives c.args.chars c.loop-ch.ch-iterator c.next.new.self c.loop-ch.yielded c.loop-ch.reader (owned_octets c.loop-ch.label)
    c.loop-ch.invariant.2 c.loop-ch.invariant.3
    (subst (λ s. Yields g.C.Iterator.next_gives s c.loop-ch.yielded c.loop-ch.ch-iterator) c.into_iter-ch-iterator.ensures.into_iter_gives c.loop-ch.yielded_by)
    c.in-None.ensures.steps c.in_ok-finish.ensures.ok (sym c.as_label.ensures ∙ c.is_root.ensures.0 c.if-is_root.true)
