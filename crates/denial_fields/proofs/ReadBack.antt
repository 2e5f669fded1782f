-- Salts are read back from their texts.
use Rattle.std.proofs.Common.{◌≡◌, ℕ, zero, suc, ◌/◌, ◌%◌, ◌<◌, inl, inr, Bool, true, false, List, [], ◌∷◌, length, Ok, Err, refl, sym, ap, ◌∙◌, arith}
use Rattle.std.specs.Prelude.{slice_index, ◌==◌, ◌&&◌}
use Rattle.std.specs.List.{AllByRecursion}
use Rattle.std.proofs.lemmas.Bool.{and_parts, cases_lt, eqb-true}
use Rattle.hex.specs.Hex.{decode_of, decode_pairs, encode_with, encode_lower, lower_digits, IsBytes}
use Rattle.hex.proofs.HexLemmas.{decode_of-encode_lower}
use Rattle.names_rdata.specs.Unknown.{hex, hex_digit}
use Rattle.denial_fields.specs.Texts.{salt_text, salt_digits}
use Rattle.denial_fields.specs.TextLaws.{SaltsAreReadBack}
use Rattle.denial_fields.specs.declared.error.Nsec3SaltFromStrError.TheVariants.{DecodeError, Nsec3SaltError, Memory}

-- a digit as the table has it
abbrev agree : ℕ → Bool
agree d = hex_digit d == slice_index lower_digits d

abbrev all_agree : ℕ → Bool
all_agree zero = true
all_agree (suc n) = agree n && all_agree n

agrees : (n d : ℕ) → all_agree n ≡ true → d < n → agree d ≡ true
agrees zero d h lt = absurd (omega arith)
agrees (suc n) d h lt =
    let parts = and_parts (agree n) (all_agree n) h in
    elim (cases_lt d n) [
      | inl below ↦ agrees n d parts.1 below
      | inr top ↦
          let e : d ≡ n = omega arith in
          rw e parts.0
    ]

digit_there : (d : ℕ) → d < 16 → hex_digit d ≡ slice_index lower_digits d
digit_there d h = eqb-true (hex_digit d) (slice_index lower_digits d) (agrees 16 d refl h)

hex_is : (o : List ℕ) → AllByRecursion (λ x. x < 256) o → hex o ≡ encode_lower o
unfolding encode_with
hex_is [] h = refl
hex_is (a ∷ o) h =
    let top : a / 16 < 16 = omega (arith, h.0) in
    let low : a % 16 < 16 = omega arith in
    λ i. digit_there (a / 16) top i ∷ digit_there (a % 16) low i ∷ hex_is o h.1 i

bytes : (o : List ℕ) → AllByRecursion (λ x. x < 256) o → IsBytes o
bytes [] h i = omega arith
bytes (a ∷ o) h zero = h.0
bytes (a ∷ o) h (suc i) = bytes o h.1 i

never : (b : Bool) → (b && false) ≡ false
never true = refl
never false = refl

no_digits : decode_of [] ≡ Ok []
unfolding decode_pairs
no_digits = refl

-- two digits and more are no hyphen
are_digits : (c d : ℕ) (text : List ℕ) → salt_digits (c ∷ d ∷ text) ≡ c ∷ d ∷ text
are_digits c d text = rw (never (c == 45)) refl

read_back : (o : List ℕ) → AllByRecursion (λ x. x < 256) o → decode_of (salt_digits (salt_text o)) ≡ Ok o
read_back [] h = no_digits
read_back (a ∷ o) h =
    ap decode_of (are_digits (hex_digit (a / 16)) (hex_digit (a % 16)) (hex o) ∙ hex_is (a ∷ o) h) ∙ decode_of-encode_lower (a ∷ o) (bytes (a ∷ o) h)

pub salts_back : SaltsAreReadBack
salts_back o (Ok s) h few r =
    let same : Ok s ≡ Ok o = sym r.0 ∙ read_back o h in
    let e : s ≡ o = cc in
    inl (ap Ok e)
salts_back o (Err (DecodeError e)) h few r = absurd (contradict (sym (read_back o h) ∙ r))
  where
    contradict : {E : Type 0} {e : E} {xs : List ℕ} → Ok xs ≡ Err e → ⊥
    contradict k = cc k
salts_back o (Err (Nsec3SaltError e)) h few r =
    let same : Ok r.0 ≡ Ok o = sym r.1 ∙ read_back o h in
    let e : r.0 ≡ o = cc in
    absurd (omega (arith, ap length e, few, r.2))
salts_back o (Err Memory) h few r = inr refl
