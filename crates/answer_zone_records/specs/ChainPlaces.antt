-- Places of a chain's records.
use Rattle.std.specs.Prelude.{◌≡◌, ℕ, ◌<◌, ◌≤◌, Bool, true, false, List, Option, Some, None, length, nat_eq, nat_lt, slice_index_or}
use Rattle.std.specs.List.{list_any}

-- a place is among some
abbrev pub is_among : List ℕ → ℕ → Bool
is_among ks k = list_any (nat_eq k) ks

-- the items of a list that pass stand at these places, and no other
abbrev pub AreAt : {A : Type 0} → (A → Bool) → List A → List ℕ → Type 0
AreAt {A} p xs ks = (k : ℕ) (x : A) → k < length xs → x ≡ slice_index_or xs k x → p x ≡ is_among ks k

-- the least place from a bound on, if there is one
abbrev pub IsNextPlace : List ℕ → ℕ → Option ℕ → Type 0
IsNextPlace ks bound None = (k : ℕ) → bound ≤ k → is_among ks k ≡ false
IsNextPlace ks bound (Some n) = (bound ≤ n) × (is_among ks n ≡ true) × ((k : ℕ) → bound ≤ k → k < n → is_among ks k ≡ false)

abbrev pub is_less : ℕ → Option ℕ → Bool
is_less k None = true
is_less k (Some n) = nat_lt k n
