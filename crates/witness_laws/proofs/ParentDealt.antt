-- Nothing is forged in the messages of the parent.
use Rattle.std.proofs.Common.{◌≡◌, ℕ, true, List, [], ◌∷◌, Ok, refl, inl}
use Rattle.std.specs.List.{AllByRecursion}
use Rattle.definitions.specs.Bitmap.{octet_of, window_count, window_size}
use Rattle.definitions.specs.Dnskey.{Dnskey}
use Rattle.definitions.specs.Limits.{pointer_limit}
use Rattle.definitions.specs.Name.{IsName, Name}
use Rattle.definitions.specs.Reading.{most_heads}
use Rattle.definitions.specs.ZoneChain.{Nsec3, hashed_names}
use Rattle.messages.specs.Message.{message, owner_at}
use Rattle.answer_judge.specs.Honest.{Signing, SignedOfKeys}
use Rattle.answer_judge.specs.Versions.{OfChain, OfZone}
use Rattle.answer_terms.specs.Hashing.{hash_in}
use Rattle.witness_laws.specs.Evidence.{no_ds, open_referral, parent_answer, referral}
use Rattle.witness_laws.specs.Signed.{child_ds_set, early, fields, hashed_p, hashed_s, parent_keys, passes, signed}
use Rattle.witness_laws.specs.Zones.{c_s, p, parent_key, parent_version, s, y_d, y_e}
use Rattle.witness_laws.proofs.Names.{is_name}
use Rattle.witness_laws.proofs.Ordered.{at_place, p_is, parent_zone, s_is}
use Rattle.witness_laws.proofs.Ready.{ready}
use Rattle.witness_laws.proofs.Unforged.{IsDealt, IsUnforged, OfOctet, WereSigned, is_unforged, item, made_over, no_signature, of_key, of_version, read_of}

abbrev pub signing : Signing
signing = record { version = parent_version; times = early }

abbrev pub keys : List Dnskey
keys = parent_key ∷ []

abbrev pub signings : List Signing
signings = signing ∷ []

abbrev Were : List ℕ → Type 0
Were = WereSigned p keys signings

abbrev Dealt : List ℕ → Type 0
Dealt m = AllByRecursion (IsDealt p keys signings m) (read_of m).records

there : AllByRecursion (OfOctet p keys signings 48) keys
there = ((48, refl, inl refl), tt)

-- ---- what was signed

keys_signed : Were (signed parent_key parent_keys)
keys_signed = SignedOfKeys (record {
  present = keys;
  published_are = (at_place keys parent_key 0 refl refl, tt);
  fields = fields parent_key parent_keys;
  over = made_over parent_key parent_keys refl p_is p_is refl;
})

ds_signed : Were (signed parent_key child_ds_set)
ds_signed = of_version p keys signings parent_key child_ds_set signing refl (at_place signings signing 0 refl refl) refl (OfZone refl refl) (made_over parent_key child_ds_set refl p_is s_is refl)

hashed_p_is : IsName hashed_p.source
hashed_p_is = is_name hashed_p.source refl refl

hashed_s_is : IsName hashed_s.source
hashed_s_is = is_name hashed_s.source refl refl

abbrev hash : Name → List ℕ
hash = hash_in (ready passes).hash (Nsec3 0 [] true)

hashed_p_signed : Were (signed parent_key hashed_p)
unfolding octet_of window_size window_count
hashed_p_signed =
    of_version p keys signings parent_key hashed_p signing refl (at_place signings signing 0 refl refl) refl
    (OfChain (record { name = p; there = at_place (hashed_names hash parent_zone true) p 0 refl refl; owner_is = refl; rtype_is = refl; datas_are = refl }))
    (made_over parent_key hashed_p refl p_is hashed_p_is refl)

hashed_s_signed : Were (signed parent_key hashed_s)
unfolding octet_of window_size window_count
hashed_s_signed =
    of_version p keys signings parent_key hashed_s signing refl (at_place signings signing 0 refl refl) refl
    (OfChain (record { name = s; there = at_place (hashed_names hash parent_zone true) s 1 refl refl; owner_is = refl; rtype_is = refl; datas_are = refl }))
    (made_over parent_key hashed_s refl p_is hashed_s_is refl)

-- ---- the messages

abbrev Unforged : List ℕ → Type 0
Unforged m = IsUnforged p keys signings m

answer_dealt : Dealt parent_answer
unfolding pointer_limit most_heads owner_at
answer_dealt = (
  no_signature p keys signings parent_answer (item parent_answer 0) refl,
  (
    of_key p keys signings 48 (signed parent_key parent_keys) parent_answer (item parent_answer 1) (fields parent_key parent_keys) there refl keys_signed,
    (no_signature p keys signings parent_answer (item parent_answer 2) refl, tt),
  ),
)

answer_read : message pointer_limit parent_answer ≡ Ok (read_of parent_answer)
unfolding pointer_limit most_heads owner_at
answer_read = refl

pub answer_unforged : Unforged parent_answer
answer_unforged = is_unforged p keys signings parent_answer (read_of parent_answer) refl answer_read answer_dealt

alias_dealt : Dealt (referral c_s)
unfolding pointer_limit most_heads owner_at
alias_dealt = (
  no_signature p keys signings (referral c_s) (item (referral c_s) 0) refl,
  (
    no_signature p keys signings (referral c_s) (item (referral c_s) 1) refl,
    (
      of_key p keys signings 48 (signed parent_key child_ds_set) (referral c_s) (item (referral c_s) 2) (fields parent_key child_ds_set) there refl ds_signed,
      (no_signature p keys signings (referral c_s) (item (referral c_s) 3) refl, tt),
    ),
  ),
)

alias_read : message pointer_limit (referral c_s) ≡ Ok (read_of (referral c_s))
unfolding pointer_limit most_heads owner_at
alias_read = refl

pub alias_unforged : Unforged (referral c_s)
alias_unforged = is_unforged p keys signings (referral c_s) (read_of (referral c_s)) refl alias_read alias_dealt

redirect_dealt : Dealt (referral y_d)
unfolding pointer_limit most_heads owner_at
redirect_dealt = (
  no_signature p keys signings (referral y_d) (item (referral y_d) 0) refl,
  (
    no_signature p keys signings (referral y_d) (item (referral y_d) 1) refl,
    (
      of_key p keys signings 48 (signed parent_key child_ds_set) (referral y_d) (item (referral y_d) 2) (fields parent_key child_ds_set) there refl ds_signed,
      (no_signature p keys signings (referral y_d) (item (referral y_d) 3) refl, tt),
    ),
  ),
)

redirect_read : message pointer_limit (referral y_d) ≡ Ok (read_of (referral y_d))
unfolding pointer_limit most_heads owner_at
redirect_read = refl

pub redirect_unforged : Unforged (referral y_d)
redirect_unforged = is_unforged p keys signings (referral y_d) (read_of (referral y_d)) refl redirect_read redirect_dealt

star_dealt : Dealt (referral y_e)
unfolding pointer_limit most_heads owner_at
star_dealt = (
  no_signature p keys signings (referral y_e) (item (referral y_e) 0) refl,
  (
    no_signature p keys signings (referral y_e) (item (referral y_e) 1) refl,
    (
      of_key p keys signings 48 (signed parent_key child_ds_set) (referral y_e) (item (referral y_e) 2) (fields parent_key child_ds_set) there refl ds_signed,
      (no_signature p keys signings (referral y_e) (item (referral y_e) 3) refl, tt),
    ),
  ),
)

star_read : message pointer_limit (referral y_e) ≡ Ok (read_of (referral y_e))
unfolding pointer_limit most_heads owner_at
star_read = refl

pub star_unforged : Unforged (referral y_e)
star_unforged = is_unforged p keys signings (referral y_e) (read_of (referral y_e)) refl star_read star_dealt

open_dealt : Dealt open_referral
unfolding pointer_limit most_heads owner_at octet_of window_size window_count
open_dealt = (
  no_signature p keys signings open_referral (item open_referral 0) refl,
  (
    no_signature p keys signings open_referral (item open_referral 1) refl,
    (
      of_key p keys signings 48 (signed parent_key hashed_p) open_referral (item open_referral 2) (fields parent_key hashed_p) there refl hashed_p_signed,
      (
        no_signature p keys signings open_referral (item open_referral 3) refl,
        (
          of_key p keys signings 48 (signed parent_key hashed_s) open_referral (item open_referral 4) (fields parent_key hashed_s) there refl hashed_s_signed,
          (no_signature p keys signings open_referral (item open_referral 5) refl, tt),
        ),
      ),
    ),
  ),
)

open_read : message pointer_limit open_referral ≡ Ok (read_of open_referral)
unfolding pointer_limit most_heads owner_at octet_of window_size window_count
open_read = refl

pub open_unforged : Unforged open_referral
unfolding octet_of window_size window_count
open_unforged = is_unforged p keys signings open_referral (read_of open_referral) refl open_read open_dealt

no_ds_dealt : Dealt no_ds
unfolding pointer_limit most_heads owner_at octet_of window_size window_count
no_ds_dealt = (
  no_signature p keys signings no_ds (item no_ds 0) refl,
  (
    of_key p keys signings 48 (signed parent_key hashed_p) no_ds (item no_ds 1) (fields parent_key hashed_p) there refl hashed_p_signed,
    (
      no_signature p keys signings no_ds (item no_ds 2) refl,
      (
        of_key p keys signings 48 (signed parent_key hashed_s) no_ds (item no_ds 3) (fields parent_key hashed_s) there refl hashed_s_signed,
        (no_signature p keys signings no_ds (item no_ds 4) refl, tt),
      ),
    ),
  ),
)

no_ds_read : message pointer_limit no_ds ≡ Ok (read_of no_ds)
unfolding pointer_limit most_heads owner_at octet_of window_size window_count
no_ds_read = refl

pub no_ds_unforged : Unforged no_ds
unfolding octet_of window_size window_count
no_ds_unforged = is_unforged p keys signings no_ds (read_of no_ds) refl no_ds_read no_ds_dealt
