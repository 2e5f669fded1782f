-- Where the items that pass stand together.
use Rattle.std.specs.Prelude.{◌≡◌, ℕ, ◌<◌, ◌≤◌, ◌-◌, Bool, true, false, List, Option, length, take, drop, slice_index_or}
use Rattle.std.specs.declared.option.Option.TheVariants.{None, Some}
use Rattle.std.specs.List.{AllByRecursion}
use Rattle.denial_sorted.specs.declared.search.Span.{Span}

-- no item passes; or exactly the items from a place up to another pass, and there are some
abbrev pub IsSpan : {A : Type 0} → (A → Bool) → List A → Option Span → Type 0
IsSpan p xs None = AllByRecursion (λ x. p x ≡ false) xs
IsSpan p xs (Some s) =
    (s.start < s.end) × (s.end ≤ length xs)
    × AllByRecursion (λ x. p x ≡ false) (take s.start xs)
    × AllByRecursion (λ x. p x ≡ true) (take (s.end - s.start) (drop s.start xs))
    × AllByRecursion (λ x. p x ≡ false) (drop s.end xs)

-- no item passes; or none before a place, and none from another one on
abbrev pub HoldsAll : {A : Type 0} → (A → Bool) → List A → Option Span → Type 0
HoldsAll p xs None = AllByRecursion (λ x. p x ≡ false) xs
HoldsAll p xs (Some s) = (s.start ≤ s.end) × (s.end ≤ length xs) × AllByRecursion (λ x. p x ≡ false) (take s.start xs) × AllByRecursion (λ x. p x ≡ false) (drop s.end xs)

-- of groups that begin at some places, exactly the items of a number of first groups pass
abbrev pub IsParting : {A : Type 0} → (A → Bool) → List ℕ → List A → ℕ → Type 0
IsParting p starts xs count =
    (count ≤ length starts)
    × AllByRecursion (λ x. p x ≡ true) (take (slice_index_or starts count (length xs)) xs)
    × AllByRecursion (λ x. p x ≡ false) (drop (slice_index_or starts count (length xs)) xs)

-- a least and a greatest number of groups: those before the first bound pass, and none from the second on
abbrev pub AreBounds : {A : Type 0} → (A → Bool) → List ℕ → List A → ℕ → ℕ → Type 0
AreBounds p starts xs low high =
    (low ≤ high)
    × (high ≤ length starts)
    × AllByRecursion (λ x. p x ≡ true) (take (slice_index_or starts low (length xs)) xs)
    × AllByRecursion (λ x. p x ≡ false) (drop (slice_index_or starts high (length xs)) xs)
