-- Room for labels in a row.
use Rattle.std.proofs.Common.{◌≡◌, ℕ, [], ◌∷◌, ◌++◌, ◌∙◌, length, map, ap, sym, subst}
use Rattle.std.proofs.lemmas.List.{map-append}
use Rattle.definitions.specs.Name.{Name, Label}
use Rattle.names_wire.specs.Label.{wire_label}
use Rattle.names_wire.specs.Room.{LeavesRoom}
use Rattle.names_wire.proofs.Room.{left_by_two}
use Rattle.names_labels.specs.Flat.{spelled}
use Rattle.names_labels.proofs.Checks.{spelled-push}

pushed : (f : Label → Label) (done : Name) (l : Label) → spelled (map f (done ++ l ∷ [])) ≡ spelled (map f done) ++ wire_label (f l)
pushed f done l = ap spelled (map-append f done (l ∷ [])) ∙ spelled-push (map f done) (f l)

module _ {B : Type 0} (lacks_room : B → ℕ → Type 0) where
  -- another label was appended
  pub left_by_label : (old mid new : B) (f : Label → Label) (done : Name) (l : Label) → LeavesRoom lacks_room old mid (length (spelled (map f done))) → LeavesRoom lacks_room mid new (length (wire_label (f l))) → LeavesRoom lacks_room old new (length (spelled (map f (done ++ l ∷ []))))
  left_by_label old mid new f done l h k =
      subst (λ s. LeavesRoom lacks_room old new (length s)) (sym (pushed f done l))
      (left_by_two lacks_room old mid new (spelled (map f done)) (wire_label (f l)) h k)
