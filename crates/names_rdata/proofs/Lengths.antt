-- Lower case changes no length.
use Rattle.std.proofs.Common.{◌≡◌, ◌∷◌, [], length, length-append, refl, arith}
use Rattle.std.specs.List.{flat_map}
use Rattle.std.specs.Str.{str_to_ascii_lowercase}
use Rattle.std.specs.Char.{to_ascii_lowercase}
use Rattle.std.proofs.lemmas.List.{length-map}
use Rattle.definitions.specs.Name.{Name, wire, low}

labels_as_long : (n : Name) → length (flat_map (λ l. length l ∷ l) (low n)) ≡ length (flat_map (λ l. length l ∷ l) n)
labels_as_long [] = refl
labels_as_long (l ∷ n) = omega (
  arith,
  labels_as_long n,
  length-map l to_ascii_lowercase,
  length-append (str_to_ascii_lowercase l) (flat_map (λ l. length l ∷ l) (low n)),
  length-append l (flat_map (λ l. length l ∷ l) n),
)

pub lower_as_long : (n : Name) → length (wire (low n)) ≡ length (wire n)
lower_as_long n = omega (arith, labels_as_long n, length-append (flat_map (λ l. length l ∷ l) (low n)) (0 ∷ []), length-append (flat_map (λ l. length l ∷ l) n) (0 ∷ []))
