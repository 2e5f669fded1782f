-- Lists of numbers, one behind another.
use Rattle.std.proofs.Common.{◌≡◌, ℕ, List, [], ◌++◌, sym, ap, ◌∙◌, append_assoc}
use Rattle.std.proofs.lemmas.List.{append-nil}

-- one list behind what is there
pub one_put : (old a : List ℕ) → old ++ a ≡ old ++ (a ++ [])
one_put old a = ap (λ (l : List ℕ). old ++ l) (sym (append-nil a))

pub two_put : (old a b : List ℕ) → (old ++ a) ++ b ≡ old ++ (a ++ (b ++ []))
two_put old a b = append_assoc old a b ∙ ap (λ (l : List ℕ). old ++ (a ++ l)) (sym (append-nil b))

pub three_put : (old a b c : List ℕ) → ((old ++ a) ++ b) ++ c ≡ old ++ (a ++ (b ++ (c ++ [])))
three_put old a b c = append_assoc (old ++ a) b c ∙ append_assoc old a (b ++ c) ∙ ap (λ (l : List ℕ). old ++ (a ++ (b ++ l))) (sym (append-nil c))
