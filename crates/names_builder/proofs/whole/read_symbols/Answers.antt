use Rattle.std.proofs.Common.{[], ◌∷◌, ◌++◌, ◌∙◌, ap, refl, sym, inl, inr, Some, map}
use Rattle.std.specs.Option.{option_map}
use Rattle.std.proofs.lemmas.Result.{err_from_is_err_and}
use Rattle.names_wire.specs.Symbols.{symbol_of}
use Rattle.names_labels.specs.Open.{without_empty}
use Rattle.names_builder.specs.Building.{all_labels}
use Rattle.names_builder.specs.Fault.{named}
use Rattle.names_builder.proofs.WholeTexts.{dot_symbol, symbol_first, symbol_behind, drains_first, lone, behind_dot, no_symbols, of_symbols, all_standing}
use Rattle.names_builder.proofs.whole.read_symbols.Goals as goal

pub returns-in-Some-next-clause-refused : goal.returns-in-Some-next-clause-refused
returns-in-Some-next-clause-refused g c = λ h.
    inl (
      c.in-Some.first ∷ c.in-Some-next.field-0 ∷ [],
      c.next-then-separates.new.self,
      (c.next.new.self, c.in-Some.ensures.steps, (c.next-then-separates.new.self, c.in-Some-next.ensures.steps, refl)),
      λ rest. behind_dot (symbol_of c.in-Some.first) (symbol_of c.in-Some-next.field-0) rest (sym c.separates.ensures ∙ c.if-separates.true),
    )

pub returns-in-None-clause-ok : goal.returns-in-None-clause-ok
returns-in-None-clause-ok g c = (
  c.in-Some.first ∷ [],
  (c.next-then-separates.new.self, (c.next.new.self, (c.next.new.self, c.in-Some.ensures.steps, refl), c.in-None.ensures.steps)),
  lone (symbol_of c.in-Some.first) (sym c.separates.ensures ∙ c.if-separates.true) ∙ ap (λ b. Some (all_labels b)) (sym c.new.ensures),
)

pub returns-in_err-push_symbol-clause-refused : goal.returns-in_err-push_symbol-clause-refused
returns-in_err-push_symbol-clause-refused g c =
    let p = err_from_is_err_and c.from_residual.result c.from_residual.ensures.1 in
    rw (p.1, p.2) (λ h. inl (
      c.in-Some.first ∷ [],
      c.next.new.self,
      (c.next.new.self, c.in-Some.ensures.steps, refl),
      no_symbols c.new-builder.result (symbol_of c.in-Some.first) (sym c.separates.ensures ∙ c.if-separates.false) c.new-builder.ensures (c.in_err-push_symbol.ensures.refused h),
    ))

pub returns-in_err-add_symbols-clause-refused : goal.returns-in_err-add_symbols-clause-refused
returns-in_err-add_symbols-clause-refused g c =
    let p = err_from_is_err_and c.from_residual-in_err-add_symbols.result c.from_residual-in_err-add_symbols.ensures.1 in
    let st = c.in_err-add_symbols.ensures.refused in
    rw (p.1, p.2) (λ h. inl (
      c.in-Some.first ∷ (st.read ++ st.refused ∷ []),
      st.after,
      (c.next.new.self, c.in-Some.ensures.steps, st.yields),
      λ rest.
          of_symbols c.new-builder.result c.push_symbol.new.self (symbol_of c.in-Some.first) (map symbol_of (st.read ++ st.refused ∷ []) ++ rest) (sym c.separates.ensures ∙ c.if-separates.false) c.new-builder.ensures c.in_ok-push_symbol.ensures.ok
          ∙ ap (option_map without_empty) (st.text h rest),
    ))

pub returns-clause-ok : goal.returns-clause-ok
returns-clause-ok g c =
    let r = c.in_ok-add_symbols.ensures.ok in (
      c.in-Some.first ∷ r.0,
      drains_first g.S.Iterator.next_gives c.args.symbols c.next.new.self c.in-Some.first r.0 c.in-Some.ensures.steps r.1,
      of_symbols c.new-builder.result c.push_symbol.new.self (symbol_of c.in-Some.first) (map symbol_of r.0) (sym c.separates.ensures ∙ c.if-separates.false) c.new-builder.ensures c.in_ok-push_symbol.ensures.ok
          ∙ ap (option_map without_empty) r.2 ∙ ap Some (all_standing c.add_symbols.new.self),
    )

pub returns-in-Some-next-clause-fault : goal.returns-in-Some-next-clause-fault
returns-in-Some-next-clause-fault g c =
    inr (_, dot_symbol g.S.Iterator.next_gives c.args.symbols c.next.new.self c.in-Some.first (named c.empty_label-in-Some-next.result) c.in-Some.ensures.steps (sym c.separates.ensures ∙ c.if-separates.true) c.empty_label-in-Some-next.ensures)

pub returns-in_err-push_symbol-clause-fault : goal.returns-in_err-push_symbol-clause-fault
returns-in_err-push_symbol-clause-fault g c =
    let p = err_from_is_err_and c.from_residual.result c.from_residual.ensures.1 in
    rw (p.1, p.2) (symbol_first g.S.Iterator.next_gives c.args.symbols c.next.new.self c.in-Some.first c.new-builder.result c.in_err-push_symbol.field-0.0 c.in-Some.ensures.steps c.new-builder.ensures c.in_err-push_symbol.ensures.fault)

pub returns-in_err-add_symbols-clause-fault : goal.returns-in_err-add_symbols-clause-fault
returns-in_err-add_symbols-clause-fault g c =
    let p = err_from_is_err_and c.from_residual-in_err-add_symbols.result c.from_residual-in_err-add_symbols.ensures.1 in
    rw (p.1, p.2) (symbol_behind g.S.Iterator.next_gives c.args.symbols c.next.new.self c.in-Some.first c.new-builder.result c.push_symbol.new.self c.add_symbols.new.self c.in_err-add_symbols.field-0.0 c.in-Some.ensures.steps c.new-builder.ensures c.in_ok-push_symbol.ensures.ok c.in_err-add_symbols.ensures.refused)
