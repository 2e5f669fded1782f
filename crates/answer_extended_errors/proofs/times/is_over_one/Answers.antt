use Rattle.std.proofs.Common.{ℕ, sym, ap, ◌∙◌}
use Rattle.std.specs.List.{list_any}
use Rattle.answer_judge_facts.specs.Marked.{is_of}
use Rattle.answer_judge_facts.proofs.Waits.{passes_at}
use Rattle.answer_extended_errors.proofs.times.is_over_one.Goals as goal

pub returns-in-Some : goal.returns-in-Some
returns-in-Some c =
    let o = c.args.owner.now in
    let gs = c.args.groups.now in
    let there = passes_at (is_of o c.type_covered.result) gs c.in-Some.field-0 c.in-Some.ensures.within c.in-Some.ensures.found in
    sym there ∙ ap (λ (t : ℕ). list_any (is_of o t) gs) c.type_covered.ensures
