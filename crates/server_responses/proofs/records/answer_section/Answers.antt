use Rattle.std.proofs.Common.{◌∙◌, ap, map, take}
use Rattle.messages.specs.Record.{spelled}
use Rattle.server_responses.proofs.Parts.{map_take}
use Rattle.server_responses.proofs.records.answer_section.Goals as goal

pub returns-clause-records : goal.returns-clause-records
returns-clause-records c =
    let rs = c.args.records.now in
    ap (map spelled) c.first.ensures.records ∙ map_take spelled c.pair_at.result rs ∙ ap (λ n. take n (map spelled rs)) c.pair_at.ensures
