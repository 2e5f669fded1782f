-- Walking over a name in a message, from label to label.
use Rattle.std.proofs.Common.{◌≡◌, ◌⊎◌, inl, inr, ℕ, ◌+◌, ◌<◌, List, [], ◌∷◌, ◌++◌, length, drop, refl, sym, ap, ◌∙◌, arith, Some, length-drop}
use Rattle.std.specs.Prelude.{slice_get}
use Rattle.definitions.specs.Name.{Label}
use Rattle.names_labels.proofs.Runs.{there, drop-one}
use Rattle.names_parsed.specs.Standing.{name_from, labels_from}
use Rattle.names_parsed.specs.Walking.{StepsTo, Reaches}

-- a step gives the label there, and reaches the next one
pub reaches_next : (m : List ℕ) (start p next index : ℕ) (l : Label) → Reaches m start p index → index < length (labels_from m start) → StepsTo m p l next → (Some l ≡ slice_get (labels_from m start) index) × Reaches m start next (index + 1)
reaches_next m start p next index l r lt s = go s.labels
  where
    go : ((l ≡ []) × (name_from m p ≡ []) × (name_from m next ≡ [])) ⊎ ((0 < length l) × (name_from m p ≡ l ∷ name_from m next)) → (Some l ≡ slice_get (labels_from m start) index) × Reaches m start next (index + 1)
    go (inl x) =
        let ls = labels_from m start in
        let e : drop index ls ≡ l ∷ [] = sym (r.labels lt) ∙ ap (λ n. n ++ [] ∷ []) x.1 ∙ ap (λ k. k ∷ []) (sym x.0) in (
          there ls (l ∷ []) index l [] e refl,
          record { stands = s.stands; labels = λ more. absurd (omega (arith, more, ap length e, length-drop index ls)) },
        )
    go (inr x) =
        let ls = labels_from m start in
        let e : drop index ls ≡ l ∷ labels_from m next = sym (r.labels lt) ∙ ap (λ n. n ++ [] ∷ []) x.1 in (
          there ls (l ∷ labels_from m next) index l (labels_from m next) e refl,
          record { stands = s.stands; labels = λ more. sym (drop-one ls index l (labels_from m next) e) },
        )
