-- Items from the first one on that passes.
use Rattle.std.proofs.Common.{◌≡◌, Bool, true, if◌then◌else◌, List, [], ◌∷◌, Some, None, refl, sym, ap, ◌∙◌}
use Rattle.std.specs.List.{slice_get}
use Rattle.denial_rrsets.specs.Groups.{from_first}

pub first_passes : {A : Type 0} (p : A → Bool) (xs : List A) (x : A) → Some x ≡ slice_get xs 0 → p x ≡ true → xs ≡ from_first p xs
first_passes p [] x e h = absurd cc
first_passes p (y ∷ ys) x e h =
    let same : x ≡ y = cc in
    let there : p y ≡ true = ap p (sym same) ∙ h in
    ap (λ t. if t then y ∷ ys else from_first p ys) (sym there)

pub nothing_passes : {A : Type 0} (p : A → Bool) (xs : List A) → None ≡ slice_get xs 0 → xs ≡ from_first p xs
nothing_passes p [] e = refl
nothing_passes p (x ∷ xs) e = absurd cc
