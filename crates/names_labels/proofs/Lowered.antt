-- Rows in lower case.
use Rattle.std.proofs.Common.{◌≡◌, ℕ, ◌+◌, ◌≤◌, true, cond, nat_lt, [], ◌∷◌, ◌++◌, length, refl, sym, ap, ◌∙◌, List, arith}
use Rattle.std.specs.Char.{to_ascii_lowercase}
use Rattle.std.specs.List.{AllByRecursion}
use Rattle.std.specs.Str.{str_to_ascii_lowercase}
use Rattle.std.proofs.lemmas.Bool.{lt-ltb}
use Rattle.std.proofs.lemmas.List.{map-append, length-map}
use Rattle.names_wire.specs.Name.{Name, low, same}
use Rattle.names_wire.proofs.NameLaws.{labels_decide}
use Rattle.names_labels.specs.Flat.{spelled, labels_in, IsRun}
use Rattle.names_labels.proofs.Runs.{spelled-injective}

one_lower : (k : ℕ) → k ≤ 63 → to_ascii_lowercase k ≡ k
one_lower k h = ap (λ b. cond b k (cond (nat_lt k 91) (k + 32) k)) (lt-ltb k 65 (omega (arith, h)))

-- a length octet is no letter
pub lower-spelled : (n : Name) → AllByRecursion (λ l. length l ≤ 63) n → str_to_ascii_lowercase (spelled n) ≡ spelled (low n)
lower-spelled [] a = refl
lower-spelled (l ∷ n) a =
    (λ i. one_lower (length l) a.0 i ∷ map-append to_ascii_lowercase l (spelled n) i)
    ∙ (λ i. sym (length-map l to_ascii_lowercase) i ∷ (str_to_ascii_lowercase l ++ lower-spelled n a.1 i))

run_lowered : (run : List ℕ) → IsRun run → str_to_ascii_lowercase run ≡ spelled (low (labels_in run))
run_lowered run r = ap str_to_ascii_lowercase r.whole ∙ lower-spelled (labels_in run) r.short

-- rows are the same up to case exactly where their labels are
pub lowered_same : (run other : List ℕ) → IsRun run → IsRun other → str_to_ascii_lowercase run ≡ str_to_ascii_lowercase other → same (labels_in run) (labels_in other) ≡ true
lowered_same run other r s e =
    (labels_decide (low (labels_in run)) (low (labels_in other))).1
    (spelled-injective (low (labels_in run)) (low (labels_in other)) (sym (run_lowered run r) ∙ e ∙ run_lowered other s))

pub same_lowered : (run other : List ℕ) → IsRun run → IsRun other → same (labels_in run) (labels_in other) ≡ true → str_to_ascii_lowercase run ≡ str_to_ascii_lowercase other
same_lowered run other r s h =
    run_lowered run r ∙ ap spelled ((labels_decide (low (labels_in run)) (low (labels_in other))).0 h) ∙ sym (run_lowered other s)
