-- Signatures that a caller has checked, and what a judge takes from them.
use Rattle.std.specs.Prelude.{◌≡◌, ℕ, Bool, true, false, ◌&&◌, List, Option, Some, None, unwrap_or, nat_eq, if◌then◌else◌}
use Rattle.std.specs.List.{find}
use Rattle.std.specs.Option.{option_map}
use Rattle.std.specs.Str.{bytes_eq}
use Rattle.sha2.specs.Sha256.{sha256}
use Rattle.sha2.specs.Sha512.{sha384}
use Rattle.definitions.specs.Dnskey.{Dnskey, same_key}
use Rattle.answer_hasher.specs.Iterated.{answered}
use Rattle.answer_scheme.specs.Answers.{Answers, SignatureTest}

-- a signature, and the key and the octets that it is checked with
pub record Tried : Type 0 where
  pub key : Dnskey
  pub octets : List ℕ
  pub signature : List ℕ

abbrev pub tried : Dnskey → List ℕ → List ℕ → Tried
tried key octets signature = record { key = key; octets = octets; signature = signature }

-- an entry of a table
pub record Checked : Type 0 where
  pub tried : Tried
  pub passes : Bool

abbrev pub checked : Tried → Bool → Checked
checked t passes = record { tried = t; passes = passes }

-- one signature, key and octets alike
abbrev pub is_same_try : Tried → Tried → Bool
is_same_try t u = bytes_eq u.signature t.signature && bytes_eq u.octets t.octets && same_key u.key t.key

abbrev pub is_entry_of : Tried → Checked → Bool
is_entry_of t c = is_same_try t c.tried

-- what the first entry of a signature says; None where the table doesn't have it
abbrev pub told : List Checked → Tried → Option Bool
told table t = option_map (λ c. c.passes) (find (is_entry_of t) table)

-- a signature that the table has, and that passes there
abbrev pub passes_in : List Checked → Tried → Bool
passes_in table t = unwrap_or (told table t) false

-- the same, and each that the table doesn't have
abbrev pub may_pass_in : List Checked → Tried → Bool
may_pass_in table t = unwrap_or (told table t) true

-- what passes by one also passes by another
abbrev pub AreTrue : (Tried → Bool) → (Tried → Bool) → Type 0
AreTrue fewer passes = (t : Tried) → fewer t ≡ true → passes t ≡ true

-- digests of type 2, SHA-256, and of type 4, SHA-384 (RFC 4509; RFC 6605, 2)
abbrev pub digest_by : ℕ → List ℕ → Option (List ℕ)
digest_by t octets = if nat_eq t 2 then Some (sha256 octets) else if nat_eq t 4 then Some (sha384 octets) else None

-- Answers to a judge under which these signatures pass; names are hashed by SHA-1 (RFC 5155, 11).
abbrev pub answers_with : (Tried → Bool) → Answers
answers_with passes = record {
  verifies = λ key octets signature. passes (tried key octets signature);
  digest = digest_by;
  hash = answered;
}

-- what passes says of each signature in a table what the table says
abbrev pub AgreesWith : List Checked → (Tried → Bool) → Type 0
AgreesWith table passes = (t : Tried) (b : Bool) → told table t ≡ Some b → passes t ≡ b

-- a test of signatures, as one of such
abbrev pub passes_by : SignatureTest → Tried → Bool
passes_by test t = test t.key t.octets t.signature
