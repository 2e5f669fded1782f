-- What the makers of chains ask of records: one class, and canonical order (RFC 4034, 6).
use Rattle.std.specs.Prelude.{◌≡◌, ℕ, Bool, true, ◌&&◌, List, [], ◌∷◌}
use Rattle.std.specs.declared.cmp.Ordering.{Ordering}
use Rattle.std.specs.Ordering.{is_lt, nat_cmp}
use Rattle.std.specs.Cmp.Lexicographic.{slice_cmp}
use Rattle.std.specs.List.{AllByRecursion}
use Rattle.std.specs.List.Sorted.{IsStrictlySortedBy}
use Rattle.definitions.specs.Name.{Name}
use Rattle.plain.specs.Records.{record_canonical_cmp}
use Rattle.plain.specs.ZoneData.{zone_type, zone_canonical}
use Rattle.plain.specs.declared.zone_data.ZoneRecordData.{ZoneRecordData}
use Rattle.plain.specs.declared.record.Record.{Record}

-- all records have the class of the first
abbrev pub IsOneClass : {N D : Type 0} → List (Record N D) → Type 0
IsOneClass [] = Unit {0}
IsOneClass (r ∷ rs) = AllByRecursion (λ s. s.class ≡ r.class) rs

-- Records ascend strictly by owner, type and data, as canonical order has them. Where there are several classes, those
-- of each class do by themselves (RFC 4034, 6.1 and 6.3).
abbrev pub IsCanonicalOrder : {N D : Type 0} → (N → Name) → (D → ℕ) → (D → D → Ordering) → List (Record N D) → Type 0
IsCanonicalOrder name rtype by_data rs = IsStrictlySortedBy (record_canonical_cmp name rtype by_data) rs

-- records of a zone are in canonical order, by data whose order is that of their octets in canonical form
abbrev pub IsZoneOrder : {O N : Type 0} → (N → Name) → List (Record N (ZoneRecordData O N)) → Type 0
IsZoneOrder name rs = IsCanonicalOrder name zone_type (λ a b. slice_cmp nat_cmp (zone_canonical name a) (zone_canonical name b)) rs

-- each item strictly before the next
abbrev pub climbs : {A : Type 0} → (A → A → Ordering) → List A → Bool
climbs cmp [] = true
climbs cmp (a ∷ []) = true
climbs cmp (a ∷ b ∷ bs) = is_lt (cmp a b) && climbs cmp (b ∷ bs)
