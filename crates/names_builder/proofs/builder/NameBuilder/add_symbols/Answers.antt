use Rattle.std.proofs.Common.{rules, [], ◌∷◌, map, Some, IfSome, ap, sym, refl, subst, ◌∙◌}
use Rattle.std.proofs.lemmas.List.{append-nil}
use Rattle.std.proofs.lemmas.Result.{err_from_is_err_and}
use Rattle.std.specs.Iterator.{Yields}
use Rattle.names_wire.specs.Symbols.{symbol_of}
use Rattle.names_labels.specs.Open.{if_open_short}
use Rattle.names_builder.specs.Building.{IsShort}
use Rattle.names_builder.specs.Fault.{FaultAt, fault_of}
use Rattle.names_builder.specs.FromText.{continued, standing, symbols_behind}
use Rattle.names_builder.proofs.FromTexts.{map_more, yields_more, nothing_follows}
use Rattle.names_builder.proofs.builder.NameBuilder.add_symbols.Goals as goal

pub loop-symbol-init : goal.loop-symbol-init
loop-symbol-init g c = record { can = search rules; finite = search rules; short = subst IsShort c.self.view_is c.self.invariant.short; onward = λ ss. refl }

pub loop-symbol-preserved : goal.loop-symbol-preserved
loop-symbol-preserved g c = record {
  can = search rules;
  finite = search rules;
  short = c.push_symbol.ensures.limits;
  onward = λ ss.
      ap (continued c.args.self.now) (map_more symbol_of c.loop-symbol.yielded c.in-Some.symbol ss)
      ∙ c.loop-symbol.invariant.onward (symbol_of c.in-Some.symbol ∷ ss) ∙ c.in_ok-push_symbol.ensures.ok ss;
}

pub returns-in_err-push_symbol-clause-refused : goal.returns-in_err-push_symbol-clause-refused
returns-in_err-push_symbol-clause-refused g c =
    let p = err_from_is_err_and c.from_residual.result c.from_residual.ensures.1 in
    let old = c.args.self.now in
    rw (p.1, p.2) (record {
      read = c.loop-symbol.yielded;
      refused = c.in-Some.symbol;
      after = c.next.new.self;
      yields = yields_more g.S.Iterator.next_gives c.args.symbols c.loop-symbol.yielded c.loop-symbol.symbol-iterator c.in-Some.symbol c.next.new.self
          (subst (λ s. Yields g.S.Iterator.next_gives s c.loop-symbol.yielded c.loop-symbol.symbol-iterator) c.into_iter-symbol-iterator.ensures.into_iter_gives c.loop-symbol.yielded_by)
          c.in-Some.ensures.steps;
      stands = ap (symbols_behind old) (sym (append-nil (map symbol_of c.loop-symbol.yielded)))
          ∙ ap if_open_short (c.loop-symbol.invariant.onward []) ∙ nothing_follows c.loop-symbol.self c.loop-symbol.invariant.short
          ∙ ap (λ b. Some (standing b)) (sym c.in_err-push_symbol.ensures.err);
      fault = subst (λ b. IfSome (fault_of c.in_err-push_symbol.field-0.0) (FaultAt b (symbol_of c.in-Some.symbol))) (sym c.in_err-push_symbol.ensures.err) c.in_err-push_symbol.ensures.fault;
      text = λ h rest.
          ap (symbols_behind old) (map_more symbol_of c.loop-symbol.yielded c.in-Some.symbol rest)
          ∙ ap if_open_short (c.loop-symbol.invariant.onward (symbol_of c.in-Some.symbol ∷ rest)) ∙ c.in_err-push_symbol.ensures.refused h rest;
    })

pub returns-clause-ok : goal.returns-clause-ok
returns-clause-ok g c = (
  c.loop-symbol.yielded,
  (c.next.new.self, (c.loop-symbol.symbol-iterator, (subst (λ s. Yields g.S.Iterator.next_gives s c.loop-symbol.yielded c.loop-symbol.symbol-iterator) c.into_iter-symbol-iterator.ensures.into_iter_gives c.loop-symbol.yielded_by), c.in-None.ensures.steps)),
  ap (symbols_behind c.args.self.now) (sym (append-nil (map symbol_of c.loop-symbol.yielded)))
      ∙ ap if_open_short (c.loop-symbol.invariant.onward []) ∙ nothing_follows c.loop-symbol.self c.loop-symbol.invariant.short,
)
