use Rattle.std.proofs.Common.{◌≡◌, ℕ, length}
use Rattle.names_labels.proofs.Cuts.{Behind}
use Rattle.names_labels.proofs.flat.split_near_end.Given as goal

abbrev pub invariant-loop-near : goal.invariant-loop-near
invariant-loop-near l = record { behind : (k : ℕ) × Behind l.run l.near k; some : length l.near ≡ 0 → length l.run ≡ 0 }

abbrev pub decreases-loop-near : goal.decreases-loop-near
decreases-loop-near l = length l.near
