-- Signatures that were made, in front of octets.
use Rattle.std.proofs.Common.{◌≡◌, ℕ, ◌+◌, ◌<◌, List, ◌∷◌, ◌++◌, length, Some, None, sym, ap, ◌∙◌, append_assoc, length-append, arith}
use Rattle.std.specs.Int.{w16, to_be_bytes}
use Rattle.names_rdata.specs.Composing.{with_length}
use Rattle.definitions.specs.Dnskey.{Dnskey, dnskey_data, dnskey_of_data}
use Rattle.answer_terms.proofs.KeyData.{key_read_back}
use Rattle.server_answers.specs.Inputs.{input}
use Rattle.answer_judge_octets.specs.EntryLaws.{key_back, once_long, once_short}
use Rattle.answer_judge_octets.specs.Written.{IsLong, IsShort, Splits, with_long_length}
use Rattle.answer_judge_octets.proofs.EntriesSplit.{IsKey}
use Rattle.server_answers.specs.Table.{Made, made}
use Rattle.server_zone_octets.specs.Entries.{FitsMade, made_octets}

pub short_key : (m : Made) → FitsMade m → IsShort (dnskey_data m.input.key)
short_key m fits =
    let k = m.input.key in
    let n : length (dnskey_data k) ≡ 4 + length k.octets = omega (arith, length-append (to_be_bytes w16 k.flags) (k.protocol ∷ k.algorithm ∷ k.octets)) in
    omega (arith, n, fits.short)

-- the parts of an entry, one in front of the next
pub parted : (m : Made) (x : List ℕ) → made_octets m ++ x ≡ with_length (dnskey_data m.input.key) ++ (with_long_length m.input.octets ++ (with_length m.signature ++ x))
parted m x =
    let k = with_length (dnskey_data m.input.key) in
    let o = with_long_length m.input.octets in
    let s = with_length m.signature in
    append_assoc (k ++ o) s x ∙ append_assoc k o (s ++ x)

pub once_made : (a b : Made) (x y : List ℕ) → FitsMade a → FitsMade b → made_octets a ++ x ≡ made_octets b ++ y → (a ≡ b) × (x ≡ y)
once_made a b x y fa fb e =
    let whole = sym (parted a x) ∙ e ∙ parted b y in
    let k = once_short (dnskey_data a.input.key) (dnskey_data b.input.key) _ _ (short_key a fa) (short_key b fb) whole in
    let o = once_long a.input.octets b.input.octets _ _ fa.octets fb.octets k.1 in
    let s = once_short a.signature b.signature x y fa.signature fb.signature o.1 in
    let key = key_back a.input.key b.input.key fa.flags fb.flags k.0 in
    (λ i. made (input (key i) (o.0 i)) (s.0 i), s.1)

pub some_made : (m : Made) → 0 < length (made_octets m)
some_made m =
    let k = with_length (dnskey_data m.input.key) in
    let o = with_long_length m.input.octets in
    let n = length-append (to_be_bytes w16 (length m.signature)) m.signature in
    omega (arith, length-append (k ++ o) (with_length m.signature), n)

no_some : (k : Dnskey) → None ≡ Some k → ⊥
no_some k e = cc

pub no_key_part : (octets : List ℕ) → Splits IsShort with_length octets None → Splits FitsMade made_octets octets None
no_key_part octets none m behind fits e = none (dnskey_data m.input.key) _ (short_key m fits) (e ∙ parted m behind)

module _ (octets rdata rest : List ℕ) (short : IsShort rdata) (is : octets ≡ with_length rdata ++ rest) where
  -- what stands behind the key of an entry
  behind_key : (m : Made) (behind : List ℕ) → FitsMade m → octets ≡ made_octets m ++ behind
      → (rdata ≡ dnskey_data m.input.key) × (rest ≡ with_long_length m.input.octets ++ (with_length m.signature ++ behind))
  behind_key m behind fits e = once_short rdata (dnskey_data m.input.key) rest _ short (short_key m fits) (sym is ∙ e ∙ parted m behind)

  pub no_key : None ≡ dnskey_of_data rdata → Splits FitsMade made_octets octets None
  no_key none m behind fits e =
      let p = behind_key m behind fits e in
      no_some m.input.key (none ∙ ap dnskey_of_data p.0 ∙ key_read_back m.input.key fits.flags)

  pub no_octets_part : Splits IsLong with_long_length rest None → Splits FitsMade made_octets octets None
  no_octets_part none m behind fits e = none m.input.octets _ fits.octets (behind_key m behind fits e).1

  module _ (signed second : List ℕ) (long : IsLong signed) (second_is : rest ≡ with_long_length signed ++ second) where
    behind_octets : (m : Made) (behind : List ℕ) → FitsMade m → octets ≡ made_octets m ++ behind
        → (signed ≡ m.input.octets) × (second ≡ with_length m.signature ++ behind)
    behind_octets m behind fits e = once_long signed m.input.octets second _ long fits.octets (sym second_is ∙ (behind_key m behind fits e).1)

    pub no_signature_part : Splits IsShort with_length second None → Splits FitsMade made_octets octets None
    no_signature_part none m behind fits e = none m.signature behind fits.signature (behind_octets m behind fits e).1

    -- an entry, part by part
    pub some_made_part : (signature behind : List ℕ) (key : Dnskey) → IsShort signature → second ≡ with_length signature ++ behind → IsKey rdata key
        → Splits FitsMade made_octets octets (Some (made (input key signed) signature, behind))
    some_made_part signature behind key small third_is is_key =
        let m : Made = made (input key signed) signature in
        let whole : with_length rdata ++ rest ≡ with_length (dnskey_data key) ++ (with_long_length signed ++ (with_length signature ++ behind)) =
        ap (λ (r : List ℕ). with_length r ++ rest) is_key.data_are
        ∙ ap (λ (r : List ℕ). with_length (dnskey_data key) ++ r) (second_is ∙ ap (λ (r : List ℕ). with_long_length signed ++ r) third_is)
        in
        (record { flags = is_key.flags; short = is_key.few; octets = long; signature = small }, is ∙ whole ∙ sym (parted m behind))
