use Rattle.std.proofs.Common.{◌∙◌}
use Rattle.answer_zone_records.proofs.Targets.{tells_name}
use Rattle.answer_zone_records.proofs.alias_faults.is_name.Goals as goal

pub returns : goal.returns
returns c = c.is_ok.ensures.value ∙ tells_name c.args.octets.now c.from_slice.result c.from_slice.ensures.accepts
