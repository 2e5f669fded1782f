use Rattle.std.proofs.Common.{◌≡◌, ◌<◌, ◌≤◌, ◌-◌, true, false, drop, get_or, length, take}
use Rattle.std.specs.List.{AllByRecursion}
use Rattle.denial_sorted.specs.Owned.{is_before}
use Rattle.denial_sorted.proofs.search.count_before.Given as goal

abbrev pub invariant-loop-low : goal.invariant-loop-low
invariant-loop-low g l = record {
  order : l.low ≤ l.high;
  within : l.high ≤ length l.starts;
  onward : 0 < l.step;
  before : AllByRecursion (λ r. is_before g.N.Labels.name l.class (g.O.Labels.name l.owner) r ≡ true) (take (get_or l.starts l.low (length l.records)) l.records);
  behind : AllByRecursion (λ r. is_before g.N.Labels.name l.class (g.O.Labels.name l.owner) r ≡ false) (drop (get_or l.starts l.high (length l.records)) l.records);
}

abbrev pub decreases-loop-low : goal.decreases-loop-low
decreases-loop-low g l = l.high - l.low
