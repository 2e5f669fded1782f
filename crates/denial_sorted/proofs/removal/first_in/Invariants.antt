use Rattle.std.proofs.Common.{◌≡◌, ℕ, ◌<◌, false, get_or}
use Rattle.denial_sorted.specs.Removing.{is_asked}
use Rattle.denial_sorted.proofs.removal.first_in.Given as goal

abbrev pub invariant-loop-place : goal.invariant-loop-place
invariant-loop-place g l = (k : ℕ) (d : _) → k < l.place → is_asked g.N.Labels.name g.D.RecordData.type_of (g.N.Labels.name l.name) l.class l.rtype (get_or l.records k d) ≡ false
