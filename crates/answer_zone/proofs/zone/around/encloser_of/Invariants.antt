use Rattle.std.proofs.Common.{◌≡◌, ◌-◌, ◌≤◌, drop, length}
use Rattle.answer_zone.specs.Placed.{shown_ancestor}
use Rattle.answer_zone.proofs.zone.around.encloser_of.Given as goal

abbrev pub invariant-loop-count : goal.invariant-loop-count
invariant-loop-count l = record {
  within : l.count ≤ length l.name;
  ancestor : shown_ancestor l.apex l.near l.name ≡ shown_ancestor l.apex l.near (drop (length l.name - l.count) l.name);
}

abbrev pub decreases-loop-count : goal.decreases-loop-count
decreases-loop-count l = l.count
