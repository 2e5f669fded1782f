-- What stands in front of lists in octets.
use Rattle.std.proofs.Common.{◌≡◌, ℕ, ◌+◌, ◌-◌, ◌*◌, ◌<◌, ◌≤◌, Bool, List, [], ◌∷◌, ◌++◌, length, Some, None, refl, sym, ap, ◌∙◌, append_assoc, length-append, get_or, subst, arith}
use Rattle.std.proofs.Math.ListN.{get_or-append}
use Rattle.std.proofs.lemmas.List.{get_or-append_right}
use Rattle.answer_judge_keys.proofs.JudgeKeys.{data_spelled}
use Rattle.std.specs.Prelude.{⊤}
use Rattle.std.specs.Int.{w16, to_be_bytes}
use Rattle.names_rdata.specs.Composing.{with_length}
use Rattle.definitions.specs.Dnskey.{Dnskey, Ds, dnskey_data, dnskey_of_data}
use Rattle.denial_keys.specs.Keys.{ds_data}
use Rattle.answer_terms.proofs.KeyData.{key_read_back}
use Rattle.answer_judge_octets.specs.EntryLaws.{once_long, once_short, parted, short_ds, short_key}
use Rattle.answer_findings.specs.Table.{Checked, tried}
use Rattle.answer_judge_octets.specs.Written.{FitsChecked, FitsDs, IsLong, IsShort, Splits, checked_octets, ds_octets, passes_octets, with_long_length}

-- ---- DS records

pub no_ds_part : (octets : List ℕ) → Splits IsShort with_length octets None → Splits FitsDs ds_octets octets None
no_ds_part octets none d behind fits e = none (ds_data d) behind (short_ds d fits) e

pub no_ds : (octets rdata behind : List ℕ) → IsShort rdata → octets ≡ with_length rdata ++ behind → ((d : Ds) → rdata ≡ ds_data d → ⊥) → Splits FitsDs ds_octets octets None
no_ds octets rdata behind short is none d others fits e =
    let p = once_short rdata (ds_data d) behind others short (short_ds d fits) (sym is ∙ e) in
    none d p.0

pub some_ds_part : (octets rdata behind : List ℕ) (d : Ds) → octets ≡ with_length rdata ++ behind → FitsDs d → rdata ≡ ds_data d → Splits FitsDs ds_octets octets (Some (d, behind))
some_ds_part octets rdata behind d is fits spelled = (fits, is ∙ ap (λ (r : List ℕ). with_length r ++ behind) spelled)

-- ---- checked signatures

-- octets of a part are octets
part_small : (octets rdata rest : List ℕ) → ((i : ℕ) → get_or octets i 0 < 256) → octets ≡ with_length rdata ++ rest → (i : ℕ) → i < length rdata → get_or rdata i 0 < 256
part_small octets rdata rest small is i low =
    let head = to_be_bytes w16 (length rdata) in
    let behind = get_or-append_right head (rdata ++ rest) 2 (i + 2) 0 refl (omega arith) in
    let back : i + 2 - 2 ≡ i = omega arith in
    let here = get_or-append rdata rest 0 i low in
    let whole : octets ≡ head ++ (rdata ++ rest) = is ∙ append_assoc head rdata rest in
    let at : get_or octets (i + 2) 0 ≡ get_or rdata i 0 = ap (λ (l : List ℕ). get_or l (i + 2) 0) whole ∙ behind ∙ ap (λ (j : ℕ). get_or (rdata ++ rest) j 0) back ∙ here in
    subst (λ (n : ℕ). n < 256) at (small (i + 2))

-- a key that data spell, of so many octets
pub record IsKey (rdata : List ℕ) (key : Dnskey) : Type 0 where
  pub flags : key.flags < 65536
  pub few : 4 + length key.octets ≤ 65535
  pub data_are : rdata ≡ dnskey_data key

key_small : (rdata : List ℕ) (key : Dnskey) → ((i : ℕ) → i < length rdata → get_or rdata i 0 < 256) → Some key ≡ dnskey_of_data rdata → key.flags < 65536
key_small [] key small e = cc
key_small (a ∷ []) key small e = cc
key_small (a ∷ b ∷ []) key small e = cc
key_small (a ∷ b ∷ p ∷ []) key small e = cc
key_small (a ∷ b ∷ p ∷ g ∷ octets) key small e =
    let is : key ≡ record { flags = a * 256 + b; protocol = p; algorithm = g; octets = octets } = cc in
    let first : a < 256 = small 0 (omega arith) in
    let second : b < 256 = small 1 (omega arith) in
    subst (λ (k : Dnskey). k.flags < 65536) (sym is) (omega arith)

pub key_is : (octets rdata rest : List ℕ) (key : Dnskey) → ((i : ℕ) → get_or octets i 0 < 256) → IsShort rdata → octets ≡ with_length rdata ++ rest → Some key ≡ dnskey_of_data rdata → IsKey rdata key
key_is octets rdata rest key small short is spelled =
    let octets_small = part_small octets rdata rest small is in
    let data_are = data_spelled rdata key octets_small spelled in
    let counted = ap length data_are in
    record {
      flags = key_small rdata key octets_small spelled;
      few = omega (arith, counted, length-append (to_be_bytes w16 key.flags) (key.protocol ∷ key.algorithm ∷ key.octets));
      data_are = data_are;
    }

no_some : (k : Dnskey) → None ≡ Some k → ⊥
no_some k e = cc

pub no_key_part : (octets : List ℕ) → Splits IsShort with_length octets None → Splits FitsChecked checked_octets octets None
no_key_part octets none c behind fits e = none (dnskey_data c.tried.key) _ (short_key c fits) (e ∙ parted c behind)

module _ (octets rdata rest : List ℕ) (short : IsShort rdata) (is : octets ≡ with_length rdata ++ rest) where
  -- what stands behind the key of an entry
  behind_key : (c : Checked) (behind : List ℕ) → FitsChecked c → octets ≡ checked_octets c ++ behind
      → (rdata ≡ dnskey_data c.tried.key) × (rest ≡ with_long_length c.tried.octets ++ (with_length c.tried.signature ++ (passes_octets c.passes ++ behind)))
  behind_key c behind fits e = once_short rdata (dnskey_data c.tried.key) rest _ short (short_key c fits) (sym is ∙ e ∙ parted c behind)

  pub no_key : None ≡ dnskey_of_data rdata → Splits FitsChecked checked_octets octets None
  no_key none c behind fits e =
      let p = behind_key c behind fits e in
      no_some c.tried.key (none ∙ ap dnskey_of_data p.0 ∙ key_read_back c.tried.key fits.flags)

  pub no_octets_part : Splits IsLong with_long_length rest None → Splits FitsChecked checked_octets octets None
  no_octets_part none c behind fits e = none c.tried.octets _ fits.octets (behind_key c behind fits e).1

  module _ (signed second : List ℕ) (long : IsLong signed) (second_is : rest ≡ with_long_length signed ++ second) where
    behind_octets : (c : Checked) (behind : List ℕ) → FitsChecked c → octets ≡ checked_octets c ++ behind
        → (signed ≡ c.tried.octets) × (second ≡ with_length c.tried.signature ++ (passes_octets c.passes ++ behind))
    behind_octets c behind fits e = once_long signed c.tried.octets second _ long fits.octets (sym second_is ∙ (behind_key c behind fits e).1)

    pub no_signature_part : Splits IsShort with_length second None → Splits FitsChecked checked_octets octets None
    no_signature_part none c behind fits e = none c.tried.signature _ fits.signature (behind_octets c behind fits e).1

    module _ (signature third : List ℕ) (small : IsShort signature) (third_is : second ≡ with_length signature ++ third) where
      behind_signature : (c : Checked) (behind : List ℕ) → FitsChecked c → octets ≡ checked_octets c ++ behind
          → (signature ≡ c.tried.signature) × (third ≡ passes_octets c.passes ++ behind)
      behind_signature c behind fits e = once_short signature c.tried.signature third _ small fits.signature (sym third_is ∙ (behind_octets c behind fits e).1)

      pub no_passes_part : Splits (λ _. ⊤) passes_octets third None → Splits FitsChecked checked_octets octets None
      no_passes_part none c behind fits e = none c.passes behind tt (behind_signature c behind fits e).1

      -- an entry, part by part
      pub some_checked_part : (key : Dnskey) (passes : Bool) (behind : List ℕ) → IsKey rdata key → third ≡ passes_octets passes ++ behind → Splits FitsChecked checked_octets octets (Some (record { tried = tried key signed signature; passes = passes }, behind))
      some_checked_part key passes behind is_key last_is =
          let c : Checked = record { tried = tried key signed signature; passes = passes } in
          let whole : with_length rdata ++ rest ≡ with_length (dnskey_data key) ++ (with_long_length signed ++ (with_length signature ++ (passes_octets passes ++ behind))) =
          ap (λ (r : List ℕ). with_length r ++ rest) is_key.data_are
          ∙ ap (λ (r : List ℕ). with_length (dnskey_data key) ++ r) (second_is ∙ ap (λ (r : List ℕ). with_long_length signed ++ r) (third_is ∙ ap (λ (r : List ℕ). with_length signature ++ r) last_is))
          in
          (record { flags = is_key.flags; short = is_key.few; octets = long; signature = small }, is ∙ whole ∙ sym (parted c behind))
