use Rattle.std.proofs.Common.{◌≡◌, ◌+◌, ◌≤◌, drop}
use Rattle.std.specs.Prelude.{sum}
use Rattle.names_rdata.proofs.long.LongRecordData.check_multi_len.Given as goal

abbrev pub invariant-loop-len : goal.invariant-loop-len
invariant-loop-len g l = record { short : l.sum ≤ 65535; total : l.sum + sum (drop l.len-index l.lens) ≡ sum l.lens }
