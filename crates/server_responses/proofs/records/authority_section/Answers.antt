use Rattle.std.proofs.Common.{◌∙◌, ap, drop, map, take}
use Rattle.messages.specs.Record.{spelled}
use Rattle.server_responses.proofs.Parts.{map_drop, map_take}
use Rattle.server_responses.proofs.records.authority_section.Goals as goal

pub returns-clause-records : goal.returns-clause-records
returns-clause-records c =
    let rs = c.args.records.now in
    let rest = c.behind.result.now in
    ap (map spelled) c.first.ensures.records ∙ map_take spelled c.pair_at-2.result rest
    ∙ ap (take c.pair_at-2.result) (ap (map spelled) c.behind.ensures ∙ map_drop spelled c.pair_at.result rs)
    ∙ (λ i. take (c.pair_at-2.ensures i) (drop (c.pair_at.ensures i) (map spelled rs)))
