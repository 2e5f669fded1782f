-- Signatures that a caller has made, and what a publisher signs by them.
use Rattle.std.specs.Prelude.{◌≡◌, ℕ, Bool, true, false, ◌&&◌, List, Option, Some, None, filter, is_none}
use Rattle.std.specs.List.{find}
use Rattle.std.specs.Option.{option_map}
use Rattle.std.specs.Str.{bytes_eq}
use Rattle.definitions.specs.Dnskey.{Dnskey, same_key}
use Rattle.answer_publisher.specs.Inputs.{Input, input}

-- an entry of a table: a signature, and the key and the octets that it was made with
pub record Made : Type 0 where
  pub input : Input
  pub signature : List ℕ

abbrev pub made : Input → List ℕ → Made
made i signature = record { input = i; signature = signature }

-- an entry of this key and these octets
abbrev pub is_of : Input → Made → Bool
is_of i m = bytes_eq m.input.octets i.octets && same_key m.input.key i.key

-- the first signature of a table with this key and these octets; None where it lacks one
abbrev pub signature_in : List Made → Input → Option (List ℕ)
signature_in table i = option_map (λ m. m.signature) (find (is_of i) table)

abbrev pub is_missing : List Made → Input → Bool
is_missing table i = is_none (signature_in table i)

-- those that a table lacks, in their order
abbrev pub missing : List Made → List Input → List Input
missing table is = filter (is_missing table) is

-- a table as a scheme: what it signs, and what verifies
abbrev pub sign_by : List Made → Dnskey → List ℕ → Option (List ℕ)
sign_by table key octets = signature_in table (input key octets)

abbrev pub is_signature : Option (List ℕ) → List ℕ → Bool
is_signature None signature = false
is_signature (Some s) signature = bytes_eq s signature

abbrev pub verify_by : List Made → Dnskey → List ℕ → List ℕ → Bool
verify_by table key octets signature = is_signature (sign_by table key octets) signature

-- A scheme signs as the entries of a table say: the first entry of a key and octets has the signature that it makes, which
-- passes.
abbrev pub SignsAs : List Made → (Dnskey → List ℕ → Option (List ℕ)) → (Dnskey → List ℕ → List ℕ → Bool) → Type 0
SignsAs table sign verifies = (key : Dnskey) (octets signature : List ℕ) → sign_by table key octets ≡ Some signature
    → (sign key octets ≡ Some signature) × (verifies key octets signature ≡ true)
