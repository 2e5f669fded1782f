use Rattle.std.proofs.Common.{map, ap, sym, ◌∙◌}
use Rattle.std.specs.List.{filter_map}
use Rattle.answer_judge_facts.specs.Validity.{least, original_in, own_in}
use Rattle.messages.specs.Record.{spelled}
use Rattle.answer_judge_facts.proofs.LeastOf.{least_joined}
use Rattle.answer_judge_facts.proofs.validity.validity_of_groups.Goals as goal

pub returns-clause-ttl : goal.returns-clause-ttl
returns-clause-ttl c =
    let gs = c.args.groups.now in
    let originals = filter_map original_in gs in
    let own = filter_map (own_in gs) (map spelled c.args.records.now) in
    c.from_secs.ensures ∙ c.least_ttl.ensures ∙ ap (λ n. least n own) c.least_original.ensures ∙ sym (least_joined 4294967295 originals own)
