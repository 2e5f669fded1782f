-- Which keys a DS set trusts, and which signatures count (RFC 4034, 3 and 4; RFC 4035, 5; RFC 4592).
use Rattle.std.specs.Prelude.{ℕ, ◌/◌, ◌%◌, Bool, true, false, not, ◌&&◌, ◌||◌, ◌==◌, List, length, Some, None, nat_eq, nat_le, nat_lt}
use Rattle.std.specs.List.{find, list_any}
use Rattle.std.specs.Str.{bytes_eq}
use Rattle.definitions.specs.Name.{Name, same}
use Rattle.definitions.specs.Dnskey.{Dnskey, Ds, key_tag, digested}
use Rattle.definitions.specs.Signing.{Fields, in_time, label_count, signed_octets}
use Rattle.answer_scheme.specs.Answers.{Answers}
use Rattle.messages.specs.Message.{Spelled}

-- ---- keys

-- a zone's key for DNSSEC (RFC 4034, 2.1.1 and 2.1.2)
abbrev pub is_usable : Dnskey → Bool
is_usable k = (k.flags / 256 % 2 == 1) && (k.protocol == 3)

-- a DS record names a key: tag, algorithm and digest agree (RFC 4034, 5.1.4); a digest that fails names none
abbrev pub digests_to : Answers → Name → Dnskey → Ds → Bool
digests_to a apex k d = elim (a.digest d.digest_type (digested apex k)) [ None ↦ false | Some octets ↦ bytes_eq octets d.digest ]

abbrev pub matches_key : Answers → Name → Dnskey → Ds → Bool
matches_key a apex k d = (d.tag == key_tag k) && (d.algorithm == k.algorithm) && digests_to a apex k d

-- a usable key that a DS record names
abbrev pub is_trusted : Answers → Name → List Ds → Dnskey → Bool
is_trusted a apex ds k = is_usable k && list_any (matches_key a apex k) ds

-- ---- signatures

-- Records of a chain stand under their own owner alone: a wildcard's, replayed under another name, would pass for a record
-- of that name (RFC 4035, 3.1.3.2 and 5.4).
abbrev pub may_expand : ℕ → Bool
may_expand t = not (t == 47) && not (t == 50)

-- The labels of the owner, or fewer: then the RRset is a wildcard's, which does not stand above the apex (RFC 4035, 5.3.1 and
-- 5.3.2).
abbrev pub labels_fit : Name → Name → Fields → Bool
labels_fit apex owner f =
    (f.labels == label_count owner)
    || (may_expand f.covered && nat_lt f.labels (label_count owner) && nat_le (length apex) f.labels)

-- the apex's signature, in time, with labels that fit the owner (RFC 4035, 5.3.1)
abbrev pub is_due : Name → ℕ → Name → Fields → Bool
is_due apex now owner f = labels_fit apex owner f && in_time f now && same f.signer apex

abbrev pub fits_key : Fields → Dnskey → Bool
fits_key f k = (key_tag k == f.tag) && (k.algorithm == f.algorithm)

-- a signature verifies an RRset that isn't empty, under the key of its tag and algorithm (RFC 4035, 5.3.3)
abbrev pub signs : Answers → Name → List Dnskey → ℕ → Name → List (List ℕ) → Fields → List ℕ → Bool
signs a apex keys now owner items f signature =
    elim (not (length items == 0) && is_due apex now owner f) [
      | false ↦ false
      | true ↦ elim (find (fits_key f) keys) [ None ↦ false | Some k ↦ a.verifies k (signed_octets f owner 1 items) signature ]
    ]

-- a record of a signature (RFC 4034, 3)
abbrev pub is_signature : Spelled → Bool
is_signature s = nat_eq s.rtype 46
