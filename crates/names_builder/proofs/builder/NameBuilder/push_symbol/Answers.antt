use Rattle.std.proofs.Common.{◌∷◌, ◌≡◌, ◌<◌, ◌+◌, length, List, None, Err, ap, sym, subst, ◌∙◌, arith}
use Rattle.std.proofs.lemmas.Result.{err_from_is_err_and}
use Rattle.definitions.specs.Text.{Symbol}
use Rattle.names_wire.specs.Symbols.{symbol_of}
use Rattle.names_labels.specs.Open.{if_open_short}
use Rattle.names_builder.specs.Building.{IsShort}
use Rattle.names_builder.specs.FromText.{continued}
use Rattle.names_builder.proofs.FromTexts.{kept_fault, pushed_at, shut, shut_back, cannot, not_pushed, at_octet, at_dot, whatever}
use Rattle.names_builder.proofs.builder.NameBuilder.push_symbol.Goals as goal
use Rattle.names_builder.proofs.builder.NameBuilder.push_symbol.Goals.{in-Some+in_ok-push-in-Some, in-None}

pub returns-in_err-octet-clause-refused : goal.returns-in_err-octet-clause-refused
returns-in_err-octet-clause-refused g c =
    let b = c.args.self.now in
    let short : IsShort b = subst IsShort c.self.view_is c.self.invariant.short in
    whatever {P = (ss : List Symbol) → if_open_short (continued c.args.self.now (symbol_of c.args.symbol ∷ ss)) ≡ None} _
    (λ ss. ap if_open_short (cannot b (symbol_of c.args.symbol) c.in_label.result short.open_label c.in_err-octet.ensures.err (shut_back _ _ c.in_label.ensures) ss))

pub returns-in_err-push-in-Some-clause-refused : goal.returns-in_err-push-in-Some-clause-refused
returns-in_err-push-in-Some-clause-refused g c =
    let b = c.args.self.now in
    let short : IsShort b = subst IsShort c.self.view_is c.self.invariant.short in
    let on = rw c.in-Some.is at c.in_ok-octet.ensures.ok in
    let p = err_from_is_err_and c.from_residual-in_err-push-in-Some.result c.from_residual-in_err-push-in-Some.ensures.1 in
    rw p.1
    (λ t ss. not_pushed b (symbol_of c.args.symbol) c.in_label.result c.in-Some.octet c.in_err-push-in-Some.field-0.0 on (shut _ _ c.in_label.ensures) short.open_label
    (λ e. c.in_err-push-in-Some.ensures.long_label.0 (ap Err e)) (λ e. c.in_err-push-in-Some.ensures.long_name.0 (ap Err e)) (sym p.2.0 ∙ t) ss)

pub returns-in_err-octet-clause-fault : goal.returns-in_err-octet-clause-fault
returns-in_err-octet-clause-fault g c =
    let p = err_from_is_err_and c.from_residual.result c.from_residual.ensures.1 in
    rw (p.1, p.2) (kept_fault c.args.self.now (symbol_of c.args.symbol) c.in_label.result c.in_err-octet.field-0.0 (shut_back _ _ c.in_label.ensures) c.in_err-octet.ensures.fault)

pub returns-in_err-push-in-Some-clause-fault : goal.returns-in_err-push-in-Some-clause-fault
returns-in_err-push-in-Some-clause-fault g c =
    let b = c.args.self.now in
    let short : IsShort b = subst IsShort c.self.view_is c.self.invariant.short in
    let on = rw c.in-Some.is at c.in_ok-octet.ensures.ok in
    let p = err_from_is_err_and c.from_residual-in_err-push-in-Some.result c.from_residual-in_err-push-in-Some.ensures.1 in
    rw (p.1, p.2.1) (pushed_at b (symbol_of c.args.symbol) c.in_label.result c.in-Some.octet c.in_err-push-in-Some.field-0.0 on (shut _ _ c.in_label.ensures) short.open_label
    (λ e. c.in_err-push-in-Some.ensures.long_label.0 (ap Err e)) (λ e. c.in_err-push-in-Some.ensures.long_name.0 (ap Err e)))

pub returns-clause-ok : goal.returns-clause-ok
returns-clause-ok g c = λ ss.
    let b = c.args.self.now in
    let short : IsShort b = subst IsShort c.self.view_is c.self.invariant.short in
    elim c.match-branch-2.branch [
      | in-Some+in_ok-push-in-Some w ↦
          let on = rw w.in-Some.is at c.in_ok-octet.ensures.ok in
          let no : 63 < length b.open_label + 1 → ⊥ = λ k. let e = w.in_ok-push-in-Some.ensures.long_label.1 k in cc in
          let room : length b.open_label < 63 = omega (arith, no, short.open_label) in
          at_octet b (symbol_of c.args.symbol) c.in_label.result w.in-Some.octet on (shut _ _ c.in_label.ensures) room ss ∙ ap (λ x. continued x ss) (sym (w.self-is ∙ w.in_ok-push-in-Some.ensures.ok))
      | in-None w ↦
          let on = rw w.in-None.is at c.in_ok-octet.ensures.ok in
          at_dot b (symbol_of c.args.symbol) short.open_label on.0 (c.in_label.ensures.0 on.1) ss ∙ ap (λ x. continued x ss) (sym (w.self-is ∙ w.end_label.ensures))
    ]
