-- How two names with the same number of labels differ.
use Rattle.std.specs.Prelude.{ℕ, zero, suc, Bool, true, false, ◌∷◌}
use Rattle.std.specs.Str.{bytes_eq, str_to_ascii_lowercase}
use Rattle.definitions.specs.Name.{Name}

-- the number of labels up to the last one that differs, with one more label in front
abbrev pub one_more : Bool → ℕ → ℕ
one_more true zero = zero
one_more false zero = suc zero
one_more true (suc n) = suc (suc n)
one_more false (suc n) = suc (suc n)

-- how many labels there are up to the last one that differs from its counterpart, up to ASCII case
abbrev pub differing : Name → Name → ℕ
differing (a ∷ x) (b ∷ y) = one_more (bytes_eq (str_to_ascii_lowercase a) (str_to_ascii_lowercase b)) (differing x y)
differing x y = 0
