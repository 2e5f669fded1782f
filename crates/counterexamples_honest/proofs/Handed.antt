-- What each row has: names, records, octets that are short.
use Rattle.std.proofs.Common.{◌≡◌, ℕ, ◌<◌, Bool, true, false, not, ◌&&◌, List, [], ◌∷◌, length, refl, sym, ap, inl, inr}
use Rattle.std.specs.Prelude.{nat_le, nat_lt}
use Rattle.std.specs.List.{AllByRecursion, list_any}
use Rattle.std.proofs.lemmas.Bool.{and_parts, leb-false, leb-true, ltb-true}
use Rattle.definitions.specs.Dnskey.{Dnskey, key_tag}
use Rattle.definitions.specs.Laws.{IsSignable}
use Rattle.definitions.specs.Name.{IsLabel, IsName, Name, low, wire, wire_len}
use Rattle.messages.specs.Handed.{IsHanded}
use Rattle.messages.specs.WrittenLaws.{IsQuestion}
use Rattle.messages.proofs.Lists.{all_fail, all_more, all_pass}
use Rattle.counterexamples_honest.specs.World.{delegation_of, example, fields, handed, own_key, soa}

-- ---- names

abbrev is_label : List ℕ → Bool
is_label l = nat_lt 0 (length l) && nat_le (length l) 63

label : (l : List ℕ) → is_label l ≡ true → IsLabel l
label l e =
    let parts = and_parts (nat_lt 0 (length l)) (nat_le (length l) 63) e in
    record { some = ltb-true 0 (length l) parts.0; short = leb-true (length l) 63 parts.1 }

pub name : (n : Name) → list_any (λ l. not (is_label l)) n ≡ false → nat_le (wire_len n) 255 ≡ true → IsName n
name n labels short = record {
  labels = all_more (λ l. is_label l ≡ true) IsLabel n label (all_pass is_label n labels);
  short = leb-true (wire_len n) 255 short;
}

pub question : (n : Name) (t : ℕ) → IsName n → nat_lt t 65536 ≡ true → IsQuestion (record { name = n; rtype = t; class = 1 })
question n t is fits = record { name = is; rtype = ltb-true t 65536 fits; class = ltb-true 1 65536 refl }

-- ---- records

pub opaque : (n : Name) (t : ℕ) (octets : List ℕ) → IsName n → nat_lt t 65536 ≡ true → IsHanded (handed n t octets)
opaque n t octets is fits = record { owner = is; rtype = ltb-true t 65536 fits; ttl = ltb-true 3600 4294967296 refl; spells = refl }

root : IsName []
root = name [] refl refl

pub soa_handed : (is : IsName soa.owner) → IsHanded soa
soa_handed is = record {
  owner = is;
  rtype = ltb-true 6 65536 refl;
  ttl = ltb-true 3600 4294967296 refl;
  spells = inr (
    refl,
    record {
      mname = [];
      rname = [];
      numbers = 0 ∷ 0 ∷ 0 ∷ 1 ∷ 0 ∷ 0 ∷ 0 ∷ 0 ∷ 0 ∷ 0 ∷ 0 ∷ 0 ∷ 0 ∷ 0 ∷ 0 ∷ 0 ∷ 0 ∷ 0 ∷ 0 ∷ 0 ∷ [];
      mname_is = root;
      rname_is = root;
      five = refl;
      written_is = refl;
      canonical_is = refl;
    },
  );
}

-- a delegation to a server
pub delegation : (n server : Name) → IsName n → IsName server → low server ≡ server → IsHanded (delegation_of n server)
delegation n server is there lower = record {
  owner = is;
  rtype = ltb-true 2 65536 refl;
  ttl = ltb-true 3600 4294967296 refl;
  spells = inl (refl, record { name = server; is = there; written_is = refl; canonical_is = ap wire (sym lower) });
}

-- ---- what is signed

-- fields of a signature by the zone's key over an RRset
pub signable : (t labels ttl inception expiration : ℕ) (key : Dnskey) (n : Name) (ds : List (List ℕ)) → IsName n → nat_lt t 65536 ≡ true → nat_lt ttl 4294967296 ≡ true → nat_lt inception 4294967296 ≡ true → nat_lt expiration 4294967296 ≡ true → nat_lt (key_tag key) 65536 ≡ true → nat_lt 0 (length ds) ≡ true
    → list_any (λ d. nat_le 65536 (length d)) ds ≡ false → IsSignable (fields t labels ttl inception expiration key) n 1 ds
signable t labels ttl inception expiration key n ds is a b c d e f g = record {
  covered = ltb-true t 65536 a;
  ttl = ltb-true ttl 4294967296 b;
  expiration = ltb-true expiration 4294967296 d;
  inception = ltb-true inception 4294967296 c;
  tag = ltb-true (key_tag key) 65536 e;
  signer = name example refl refl;
  named = is;
  classed = ltb-true 1 65536 refl;
  some = ltb-true 0 (length ds) f;
  short = all_more (λ d. nat_le 65536 (length d) ≡ false) (λ d. length d < 65536) ds (λ d h. leb-false 65536 (length d) h) (all_fail (λ d. nat_le 65536 (length d)) ds g);
}

pub own_flags : AllByRecursion (λ (k : Dnskey). k.flags < 65536) (own_key ∷ [])
own_flags = (ltb-true 257 65536 refl, tt)
