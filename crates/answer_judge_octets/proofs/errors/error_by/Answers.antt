use Rattle.std.proofs.Common.{◌≡◌, refl, inl, ap, subst}
use Rattle.std.specs.Prelude.{IfOk}
use Rattle.definitions.specs.Limits.{pointer_limit}
use Rattle.answer_extended_errors.specs.Extended.{extended_error_of}
use Rattle.answer_findings.specs.Table.{answers_with, passes_in}
use Rattle.answer_judge_octets.proofs.errors.error_by.Goals as goal

pub returns : goal.returns
returns g c =
    let own = answers_with (passes_in c.new-checks.result.table.now) in
    let said = c.extended_error.ensures.exact own.verifies (inl refl) in
    let by_table = ap (λ t. extended_error_of (answers_with (passes_in t)) pointer_limit c.args.case.now c.args.refusal) c.new-checks.ensures in
    subst (λ x. IfOk c.extended_error.result (λ e. e ≡ x)) by_table said
