-- The order in which a judge searches keys.
use Rattle.std.specs.Prelude.{◌≡◌, Bool, ◌&&◌, ◌||◌, ◌==◌, List, nat_lt}
use Rattle.std.specs.List.{find}
use Rattle.std.specs.List.Sorted.{IsPermutation, IsSortedBy}
use Rattle.std.specs.Ordering.{is_lt, nat_cmp, ordering_then}
use Rattle.std.specs.declared.cmp.Ordering.{Ordering}
use Rattle.definitions.specs.Dnskey.{Dnskey, key_tag}
use Rattle.definitions.specs.Signing.{Fields}
use Rattle.answer_judge_keys.specs.Trusted.{fits_key}

-- by tag, and then by algorithm
abbrev pub key_cmp : Dnskey → Dnskey → Ordering
key_cmp a b = ordering_then (nat_cmp (key_tag a) (key_tag b)) (nat_cmp a.algorithm b.algorithm)

-- a key of a lesser tag, or of a lesser algorithm and the tag
abbrev pub is_before : Fields → Dnskey → Bool
is_before f k = nat_lt (key_tag k) f.tag || ((key_tag k == f.tag) && nat_lt k.algorithm f.algorithm)

-- keys in this order; of each tag and algorithm the first is that of the list
pub record IsRanking (ks vs : List Dnskey) : Type 0 where
  pub sorted : IsSortedBy (λ a b. is_lt (key_cmp a b)) vs
  pub moved : IsPermutation ks vs
  pub found : (f : Fields) → find (fits_key f) vs ≡ find (fits_key f) ks
