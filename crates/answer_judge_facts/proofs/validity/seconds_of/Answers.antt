use Rattle.std.proofs.Common.{map, ap, sym, ◌∙◌}
use Rattle.std.specs.List.{filter_map}
use Rattle.answer_judge_facts.specs.Validity.{held_for, least, wait_in}
use Rattle.answer_judge_facts.specs.Marked.{times_by}
use Rattle.messages.specs.Record.{spelled}
use Rattle.answer_judge_facts.proofs.LeastOf.{least_joined}
use Rattle.answer_judge_facts.proofs.validity.seconds_of.Goals as goal

pub returns : goal.returns
returns c =
    let gs = c.args.groups.now in
    let held = map (held_for c.args.moment) (filter_map times_by gs) in
    let waits = filter_map (wait_in c.args.moment c.args.message.now gs) (map spelled c.args.records.now) in
    c.least_wait.ensures ∙ ap (λ n. least n waits) c.least_held.ensures ∙ sym (least_joined 4294967295 held waits)
