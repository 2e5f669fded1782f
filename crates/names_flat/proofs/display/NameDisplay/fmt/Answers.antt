use Rattle.std.proofs.Common.{length, ap, arith}
use Rattle.names_labels.proofs.Checks.{length-spelled_sum}
use Rattle.names_flat.proofs.display.NameDisplay.fmt.Goals as goal

pub write_labels-requires-clause-short : goal.write_labels-requires-clause-short
write_labels-requires-clause-short g c =
    omega (arith, ap length c.relative_run.ensures.value, length-spelled_sum c.args.self.now, c.relative_run.ensures.name.short)
