use Rattle.std.proofs.Common.{◌+◌, ◌-◌, ◌≤◌, length, drop}
use Rattle.names_builder.proofs.TextWalks.{Writing}
use Rattle.names_builder.proofs.walk.write_labels.Given as goal

abbrev pub invariant-loop-at : goal.invariant-loop-at
invariant-loop-at l = record {
  writing : Writing l.fn.text (drop l.at l.text) l.octets l.head l.place;
  within : l.at ≤ length l.text;
  room : l.place ≤ l.at + 1;
}

abbrev pub decreases-loop-at : goal.decreases-loop-at
decreases-loop-at l = length l.text - l.at
