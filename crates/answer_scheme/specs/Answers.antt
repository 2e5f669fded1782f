-- What a scheme and a hasher answer a judge.
use Rattle.std.specs.Prelude.{◌≡◌, ◌⊎◌, ℕ, Bool, List, Option}
use Rattle.definitions.specs.Dnskey.{Dnskey}

-- functions of their arguments; None for a failure. `hash` takes a name's lower-case wire form, algorithm, iterations and salt
pub record Answers : Type 0 where
  pub verifies : Dnskey → List ℕ → List ℕ → Bool
  pub digest : ℕ → List ℕ → Option (List ℕ)
  pub hash : List ℕ → ℕ → ℕ → List ℕ → Option (List ℕ)

-- those of a scheme and a hasher
abbrev pub answers_by : {S H : Type 0} → (S → Dnskey → List ℕ → List ℕ → Bool) → (S → ℕ → List ℕ → Option (List ℕ)) → (H → List ℕ → ℕ → ℕ → List ℕ → Option (List ℕ)) → S → H → Answers
answers_by verifies digest hash s h = record { verifies = verifies s; digest = digest s; hash = hash h }

-- ---- answers that agree

-- a test of signatures, each with its key and the octets that it is made over
abbrev pub SignatureTest : Type 0
SignatureTest = Dnskey → List ℕ → List ℕ → Bool

-- the same answers, but that the signatures verify that pass a test
abbrev pub with_test : Answers → SignatureTest → Answers
with_test a test = record { verifies = test; digest = a.digest; hash = a.hash }

-- whichever of these signatures verify: those of the answers themselves, or those of a test that agrees
abbrev pub EachAgreeing : Answers → (SignatureTest → Type 0) → (Answers → Type 0) → Type 0
EachAgreeing own agrees P = (test : SignatureTest) → (test ≡ own.verifies) ⊎ agrees test → P (with_test own test)

-- No signature was verified in between: whatever test agreed and agrees now did so before, and what held of all that were
-- verified holds of them.
abbrev pub NoneVerified : {C : Type 0} → (C → SignatureTest → Type 0) → (C → SignatureTest → Type 0) → C → C → Type 0
NoneVerified agrees asked_only old new = ((test : SignatureTest) → agrees new test → agrees old test) × ((test : SignatureTest) → asked_only old test → asked_only new test)
