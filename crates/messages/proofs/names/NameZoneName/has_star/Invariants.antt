use Rattle.std.proofs.Common.{◌≡◌, ◌∷◌, [], length}
use Rattle.std.specs.List.{list_any}
use Rattle.std.specs.Str.{bytes_eq}
use Rattle.names_labels.specs.Flat.{labels_in, IsRun}
use Rattle.messages.specs.HandedRr.{has_star}
use Rattle.messages.proofs.names.NameZoneName.has_star.Given as goal

abbrev pub invariant-loop-label : goal.invariant-loop-label
invariant-loop-label g l = record { row : IsRun l.rest; left : list_any (bytes_eq (42 ∷ [])) (labels_in l.rest) ≡ has_star l.self }

abbrev pub decreases-loop-label : goal.decreases-loop-label
decreases-loop-label g l = length (labels_in l.rest)
