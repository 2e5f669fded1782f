-- A name and its ancestors, from both ends.
use Rattle.std.proofs.Common.{◌≡◌, ℕ, zero, suc, ◌+◌, ◌-◌, ◌<◌, ◌≤◌, [], ◌∷◌, length, drop, take, refl, sym, ap, ◌∙◌, arith, Some, length-drop}
use Rattle.std.specs.Prelude.{slice_get}
use Rattle.definitions.specs.Name.{Name}
use Rattle.names_labels.specs.Suffixes.{suffixes}

-- the first of them, and those behind it
pub first_suffix : (n next : Name) (left : ℕ) → next ≡ drop 1 n → 0 < left → left ≤ length n + 1 → take left (suffixes n) ≡ n ∷ take (left - 1) (suffixes next)
first_suffix [] next left e some few =
    let one : left ≡ 1 = omega arith in
    ap (λ k. take k ([] ∷ [])) one ∙ (λ i. [] ∷ take (sym one i - 1) (suffixes next))
first_suffix (l ∷ n) next left e some few =
    let one : left ≡ suc (left - 1) = omega arith in
    ap (λ k. take k (suffixes (l ∷ n))) one ∙ ap (λ x. (l ∷ n) ∷ take (left - 1) (suffixes x)) (sym e)

pub left_behind : (n next : Name) (left : ℕ) → next ≡ drop 1 n → 0 < left → left ≤ length n + 1 → left - 1 ≤ length next + 1
left_behind n next left e some few = omega (arith, ap length e, length-drop 1 n)

-- the one without so many labels
pub suffix_at : (n : Name) (k : ℕ) → k ≤ length n → Some (drop k n) ≡ slice_get (suffixes n) k
suffix_at [] zero h = refl
suffix_at [] (suc k) h = absurd (omega arith)
suffix_at (l ∷ n) zero h = refl
suffix_at (l ∷ n) (suc k) h = suffix_at n k (omega arith)

pub length-suffixes : (n : Name) → length (suffixes n) ≡ length n + 1
length-suffixes [] = refl
length-suffixes (l ∷ n) = omega (arith, length-suffixes n)
