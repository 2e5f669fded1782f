use Rattle.std.proofs.Common.{◌≡◌, ◌≤◌, ◌+◌, ◌++◌, Some, drop, length, vec_capacity}
use Rattle.denial_rrsets.specs.Starts.{starts_behind, starts_in}
use Rattle.denial_sorted.proofs.starts.fill.Given as goal

abbrev pub invariant-loop-index : goal.invariant-loop-index
invariant-loop-index g l = record {
  told : l.starts.items ++ starts_behind g.K.Alike.alike (Some l.last) (l.index + 1) (drop l.index l.behind) ≡ starts_in g.K.Alike.alike l.items;
  room : length (starts_in g.K.Alike.alike l.items) ≤ vec_capacity l.starts;
}
