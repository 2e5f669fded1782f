-- Octets that are all written over.
use Rattle.std.proofs.Common.{◌≡◌, ℕ, List, ◌++◌, length, take, drop, ap, ◌∙◌, arith}
use Rattle.std.proofs.lemmas.List.{drop_all, append-nil, take_all}

-- as many octets as before, so that none of the old is left
pub refilled : (n : ℕ) (old new : List ℕ) → n ≡ length old → length new ≡ length old → take n (new ++ drop (length new) old) ≡ new
refilled n old new e h =
    ap (take n) (ap (λ d. new ++ d) (drop_all (length new) old (omega (arith, h))) ∙ append-nil new) ∙ take_all n new (omega (arith, e, h))
