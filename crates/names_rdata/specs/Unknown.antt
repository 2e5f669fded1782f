-- Record data of any type, kept as octets (RFC 3597).
use Rattle.std.specs.Prelude.{◌≡◌, ℕ, ◌+◌, ◌/◌, ◌%◌, ◌&&◌, Bool, List, [], ◌∷◌, ◌++◌, length, if◌then◌else◌, nat_lt, nat_eq, codes, Some, IsTrue}
use Rattle.std.specs.List.{flat_map}
use Rattle.std.specs.Fmt.{decimal}
use Rattle.std.specs.Hash.{HashWrites, u8, u16, slice}
use Rattle.std.specs.Ordering.{nat_cmp, ordering_then, eq_by_cmp}
use Rattle.std.specs.Cmp.{IsEquivalence, IsTotalOrder, IsPartialOrder, nat_eq_equiv, nat_cmp_total, unsigned_ties, unsigned_Decides, on_equiv, on_total, and_equiv, then_total, both_tied, partial_order_from_total, partial_order_from_own_ties}
use Rattle.std.specs.Cmp.Lexicographic.{slice_cmp, texts_ties}
use Rattle.std.specs.declared.cmp.Ordering.{Ordering}
use Rattle.std.proofs.lemmas.Bool.{and_parts}
use Rattle.std.proofs.lemmas.Cmp.{nat_list_eq_equiv, nat_list_cmp_total}
use Rattle.std.proofs.lemmas.Slice.Eq.{bytes_eq-Decides}
use lib.Pointwise.{pointwise}

-- the number of the type, and the octets
pub record Opaque : Type 0 where
  pub rtype : ℕ
  pub octets : List ℕ

-- a digit of hexadecimal: 0 to 9, then a to f
abbrev pub hex_digit : ℕ → ℕ
hex_digit n = if nat_lt n 10 then 48 + n else 87 + n

-- each octet in two digits, the upper half first
abbrev pub hex : List ℕ → List ℕ
hex octets = flat_map (λ o. hex_digit (o / 16) ∷ hex_digit (o % 16) ∷ []) octets

-- octets behind a blank, if there are any
abbrev pub hex_field : List ℕ → List ℕ
hex_field [] = []
hex_field (o ∷ octets) = 32 ∷ hex (o ∷ octets)

-- the number of octets, and the octets (RFC 3597, 5)
abbrev pub opaque_text : List ℕ → List ℕ
opaque_text octets = codes "\\# " ++ decimal (length octets) ++ hex_field octets

-- data of one type with the same octets
abbrev pub opaque_eq : Opaque → Opaque → Bool
opaque_eq a b = nat_eq a.rtype b.rtype && pointwise nat_eq a.octets b.octets

-- the order of two data: by type, and then by the octets
abbrev pub opaque_cmp : Opaque → Opaque → Ordering
opaque_cmp a b = ordering_then (nat_cmp a.rtype b.rtype) (slice_cmp nat_cmp a.octets b.octets)

-- what opaque data feed a hasher
abbrev pub opaque_feed : Opaque → HashWrites
opaque_feed a = u16 a.rtype ++ slice u8 a.octets

pub opaque_equivalence : IsEquivalence opaque_eq
opaque_equivalence = and_equiv (on_equiv (λ (d : Opaque). d.rtype) nat_eq_equiv) (on_equiv (λ (d : Opaque). d.octets) nat_list_eq_equiv)

pub opaque_total : IsTotalOrder opaque_cmp
opaque_total = then_total (on_total (λ (d : Opaque). d.rtype) nat_cmp_total) (on_total (λ (d : Opaque). d.octets) nat_list_cmp_total)

pub opaque_ties : (a b : Opaque) → opaque_eq a b ≡ eq_by_cmp opaque_cmp a b
opaque_ties a b = both_tied (nat_eq a.rtype b.rtype) (pointwise nat_eq a.octets b.octets) (nat_cmp a.rtype b.rtype) (slice_cmp nat_cmp a.octets b.octets) (unsigned_ties a.rtype b.rtype) (texts_ties a.octets b.octets)

pub opaque_partial : IsPartialOrder opaque_eq (λ a b. Some (opaque_cmp a b))
opaque_partial = partial_order_from_own_ties (partial_order_from_total opaque_total) opaque_ties

pub opaque_feed-same : (a b : Opaque) → IsTrue (opaque_eq a b) → opaque_feed a ≡ opaque_feed b
opaque_feed-same a b h =
    let p = and_parts (nat_eq a.rtype b.rtype) (pointwise nat_eq a.octets b.octets) h in
    let t = (unsigned_Decides a.rtype b.rtype).0 p.0 in
    let o = (bytes_eq-Decides a.octets b.octets).0 p.1 in
    λ i. u16 (t i) ++ slice u8 (o i)
