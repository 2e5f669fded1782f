-- Rows that have the octets behind their first labels in common.
use Rattle.std.proofs.Common.{◌≡◌, ℕ, ◌+◌, ◌-◌, ◌≤◌, Bool, true, cond, List, ◌∷◌, ◌++◌, length, drop, refl, sym, ap, ◌∙◌, arith, length-append}
use Rattle.std.specs.Char.{to_ascii_lowercase}
use Rattle.std.specs.Str.{str_to_ascii_lowercase}
use Rattle.std.proofs.lemmas.List.{drop_at, drop-drop, drop-map}
use Rattle.definitions.specs.Name.{Label, same}
use Rattle.names_labels.specs.Flat.{spelled, labels_in, IsRun, SplitsLabel}
use Rattle.names_labels.specs.Order.{SameEnds}
use Rattle.names_labels.proofs.Lowered.{lowered_same}
use Rattle.denial_nsec3_names.specs.Differing.{differing}
use Rattle.denial_nsec3_names.proofs.Fresh.{beside, first_same}

split : (run rest : List ℕ) (l : Label) → IsRun run → SplitsLabel run l rest → run ≡ (length l ∷ l) ++ rest
split run rest l r s = r.whole ∙ ap spelled s.first ∙ ap (λ x. (length l ∷ l) ++ x) (sym s.behind.whole)

pub rest_fits : (run rest : List ℕ) (l : Label) → IsRun run → SplitsLabel run l rest → length rest ≤ length run
rest_fits run rest l r s = omega (arith, ap length (split run rest l r s), length-append (length l ∷ l) rest)

rest_is : (run rest : List ℕ) (l : Label) → IsRun run → SplitsLabel run l rest → drop (length run - length rest) run ≡ rest
rest_is run rest l r s =
    let e = split run rest l r s in
    let k : length run - length rest ≡ length (length l ∷ l) = omega (arith, ap length e, length-append (length l ∷ l) rest) in
    (λ i. drop (k i) (e i)) ∙ drop_at (length l ∷ l) rest (length (length l ∷ l)) refl

-- the last octets of more in lower case
last_of : (xs : List ℕ) (count less : ℕ) → count ≤ length xs → less ≤ count → str_to_ascii_lowercase (drop (length xs - less) xs) ≡ drop (count - less) (str_to_ascii_lowercase (drop (length xs - count) xs))
last_of xs count less fits h =
    let k : length xs - less ≡ length xs - count + (count - less) = omega (arith, fits, h) in
    ap (λ n. str_to_ascii_lowercase (drop n xs)) k
    ∙ ap str_to_ascii_lowercase (sym (drop-drop (count - less) (length xs - count) xs))
    ∙ sym (drop-map to_ascii_lowercase (count - less) (drop (length xs - count) xs))

pub rests_same : (run other x y : List ℕ) (a b : Label) (count : ℕ) → IsRun run → IsRun other → SplitsLabel run a x → SplitsLabel other b y → SameEnds run other count → length x ≡ length y → length x ≤ count → same (labels_in x) (labels_in y) ≡ true
rests_same run other x y a b count r t s w ends e h =
    lowered_same x y s.behind w.behind
    (ap str_to_ascii_lowercase (sym (rest_is run x a r s))
    ∙ last_of run count (length x) ends.0 h
    ∙ ap (drop (count - length x)) ends.2
    ∙ sym (last_of other count (length x) ends.1 h)
    ∙ ap (λ n. str_to_ascii_lowercase (drop (length other - n) other)) e
    ∙ ap str_to_ascii_lowercase (rest_is other y b t w))

-- how many labels differ where those behind the first ones are the same
pub rows_beside : (run other x y : List ℕ) (a b : Label) (count : ℕ) (t : Bool) → IsRun run → IsRun other → SplitsLabel run a x → SplitsLabel other b y → SameEnds run other count → length x ≡ length y → length x ≤ count
    → t ≡ same (labels_in run) (labels_in other)
    → (length (labels_in run) ≡ length (labels_in other)) × (cond t 0 1 ≡ differing (labels_in run) (labels_in other))
rows_beside run other x y a b count t r w s v ends e h is =
    let rest = rests_same run other x y a b count r w s v ends e h in
    beside (labels_in run) (labels_in other) (labels_in x) (labels_in y) a b t s.first v.first rest
    (first_same (labels_in run) (labels_in other) (labels_in x) (labels_in y) a b t s.first v.first rest is)
