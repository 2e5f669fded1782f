use Rattle.std.proofs.Common.{◌≡◌, ◌==◌, true, false, rules, length, refl, sym, ◌∙◌}
use Rattle.std.specs.List.{list_any}
use Rattle.messages.specs.Record.{fields_of}
use Rattle.answer_extended_errors.specs.Extended.{has_expired}
use Rattle.answer_extended_errors.proofs.Untimely.{untimely_is}
use Rattle.answer_extended_errors.proofs.times.untimely.Goals as goal

pub returns-then-one_holds : goal.returns-then-one_holds
returns-then-one_holds c =
    let ss = c.args.signatures.now in
    let some : false ≡ (length ss == 0) = search rules in
    untimely_is c.args.now ss false true (list_any (λ s. has_expired c.args.now (fields_of s)) ss) some (sym c.if-one_holds.true ∙ c.one_holds.ensures) refl

pub returns-then-one_has_expired : goal.returns-then-one_has_expired
returns-then-one_has_expired c =
    let ss = c.args.signatures.now in
    let some : false ≡ (length ss == 0) = search rules in
    untimely_is c.args.now ss false false true some (sym c.if-one_holds.false ∙ c.one_holds.ensures) (sym c.if-one_has_expired.true ∙ c.one_has_expired.ensures)

pub returns : goal.returns
returns c =
    let ss = c.args.signatures.now in
    let some : false ≡ (length ss == 0) = search rules in
    untimely_is c.args.now ss false false false some (sym c.if-one_holds.false ∙ c.one_holds.ensures) (sym c.if-one_has_expired.false ∙ c.one_has_expired.ensures)
