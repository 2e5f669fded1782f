use Rattle.std.proofs.Common.{◌≡◌, take}
use Rattle.std.specs.List.{flat_map}
use Rattle.names_rdata.specs.Composing.{with_length}
use Rattle.answer_judge_octets.proofs.reply.octets_of_data.Given as goal

abbrev pub invariant-loop-datum : goal.invariant-loop-datum
invariant-loop-datum l = l.octets.items ≡ flat_map (λ d. with_length d.items) (take l.datum-index l.datum-items)
