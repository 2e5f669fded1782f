-- Names without their first labels.
use Rattle.std.proofs.Common.{◌≡◌, ℕ, zero, suc, ◌+◌, ◌≤◌, min, List, [], ◌∷◌, ◌++◌, length, drop, refl, sym, ap, ◌∙◌, arith}
use Rattle.std.proofs.lemmas.List.{map-append}
use Rattle.std.specs.Str.{str_to_ascii_lowercase}
use Rattle.definitions.specs.Name.{Name, low, wire}
use Rattle.names_labels.specs.Flat.{spelled}
use Rattle.names_labels.proofs.Runs.{wire-spelled}

-- one more label passed over
pub behind_one : (k m : ℕ) (l : List ℕ) (ls rest : Name) → rest ≡ l ∷ ls → m + 1 ≡ k → drop m ls ≡ drop k rest
behind_one zero m l ls rest e h = absurd (omega arith)
behind_one (suc k) m l ls rest e h = let same : m ≡ k = omega arith in ap (λ j. drop j ls) same ∙ sym (ap (drop (suc k)) e)

pub past_end : (k : ℕ) (n : Name) → length n ≤ k → drop k n ≡ []
past_end zero [] h = refl
past_end (suc k) [] h = refl
past_end zero (l ∷ n) h = absurd (omega arith)
past_end (suc k) (l ∷ n) h = past_end k n (omega arith)

-- the root stays
pub skip_rooted : (s k : ℕ) (n : Name) → k ≡ min s (length n) → drop k (n ++ [] ∷ []) ≡ drop s n ++ [] ∷ []
skip_rooted s zero [] h = ap (λ m. m ++ [] ∷ []) (sym (past_end s [] (omega arith)))
skip_rooted s (suc k) [] h = absurd (omega arith)
skip_rooted zero zero (l ∷ n) h = refl
skip_rooted (suc s) zero (l ∷ n) h = absurd (omega arith)
skip_rooted zero (suc k) (l ∷ n) h = absurd (omega arith)
skip_rooted (suc s) (suc k) (l ∷ n) h = skip_rooted s k n (omega arith)

pub skipped_wire : (s k : ℕ) (n ls : Name) → ls ≡ n ++ [] ∷ [] → k ≡ min s (length n) → spelled (low (drop k ls)) ≡ wire (low (drop s n))
skipped_wire s k n ls e h =
    ap (λ m. spelled (low (drop k m))) e
    ∙ ap (λ m. spelled (low m)) (skip_rooted s k n h)
    ∙ ap spelled (map-append str_to_ascii_lowercase (drop s n) ([] ∷ []))
    ∙ sym (wire-spelled (low (drop s n)))
