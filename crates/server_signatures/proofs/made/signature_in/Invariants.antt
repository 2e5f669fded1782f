use Rattle.std.proofs.Common.{◌≡◌, drop}
use Rattle.answer_publisher.specs.Inputs.{input}
use Rattle.server_signatures.specs.Table.{signature_in}
use Rattle.server_signatures.proofs.made.signature_in.Given as goal

abbrev pub invariant-loop-entry : goal.invariant-loop-entry
invariant-loop-entry l = signature_in (drop l.entry-index l.table) (input l.key l.octets) ≡ signature_in l.table (input l.key l.octets)
