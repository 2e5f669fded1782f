-- The exit status of a run.
use Rattle.std.specs.Prelude.{ℕ}
use Rattle.denialbench.specs.declared.status.Status.{Status}
use Rattle.denialbench.specs.declared.status.Status.TheVariants.{Done, BadLine, Fault}

abbrev pub exit_code : Status → ℕ
exit_code Done = 0
exit_code BadLine = 1
exit_code Fault = 2
