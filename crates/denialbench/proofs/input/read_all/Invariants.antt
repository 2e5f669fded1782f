use Rattle.std.proofs.Common.{◌≡◌, ◌+◌, ◌≤◌, length}
use Rattle.std.specs.Io.KnownBytes.{Consumes}
use Rattle.denialbench.proofs.input.read_all.Given as goal

-- what was read so far; each read gave some of it, and is one fewer that is left
abbrev pub invariant-loop-reads : goal.invariant-loop-reads
invariant-loop-reads g l = record {
  read : Consumes (g.R.LimitedRead.remaining l.initial.reader) (g.R.LimitedRead.remaining l.reader) l.input.items;
  each : l._reads ≤ length l.input.items;
  left : g.R.LimitedRead.left l.reader + l._reads ≡ g.R.LimitedRead.left l.initial.reader;
}
