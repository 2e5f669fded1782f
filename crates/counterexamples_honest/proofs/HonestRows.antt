-- Rows that are honest.
use Rattle.std.proofs.Common.{[], ◌∷◌, ◌++◌, refl, inl}
use Rattle.std.specs.Prelude.{Contains}
use Rattle.definitions.specs.Bitmap.{octet_of, window_count, window_size}
use Rattle.definitions.specs.Dnskey.{dnskey_data}
use Rattle.definitions.specs.Limits.{pointer_limit}
use Rattle.definitions.specs.Reading.{most_heads}
use Rattle.definitions.specs.Signing.{Fields, signed_octets}
use Rattle.definitions.specs.Zone.{Records}
use Rattle.definitions.specs.ZoneChain.{nsec_names}
use Rattle.messages.specs.Message.{owner_at}
use Rattle.answer_judge.specs.Judging.{Says, Refuses}
use Rattle.answer_judge.specs.declared.verdict.Refusal.TheVariants.{NoTrustedKey, NotProven}
use Rattle.answer_judge.specs.Honest.{NoStranger, sought_of_answer, sought_of_keys}
use Rattle.answer_judge.specs.Versions.{OfChain, OfZone, zone_in}
use Rattle.counterexamples_honest.specs.Premises.{IsHonestCase, Premises, all}
use Rattle.counterexamples_honest.specs.Rows.{forged_late, next_of_b, of_strangers, own, own_keys, small, spliced, spliced_answer, starred, stranger_keys}
use Rattle.counterexamples_honest.specs.World.{a, address, b, ds, example, false_address, fields, own_key, plain, star, stranger, x_b}
use Rattle.counterexamples_honest.proofs.Dealt.{at_place, foreign, late, no_signature, signed, unforged}
use Rattle.counterexamples_honest.proofs.Known.{foreign_known, no_stranger}
use Rattle.counterexamples_honest.proofs.OwnKeys.{a_is, b_is, in_order, item, own_keys_known, own_keys_unforged, read_of, signed_from, small_is, small_served, star_is, starred_is, starred_served, where_all, x_b_is}
use Rattle.counterexamples_honest.proofs.Premises.{all_honest}
use Rattle.counterexamples_honest.proofs.Row.{AnswerUnforged, IsInOrder, IsRow, KeysUnforged, Row, SignedOf, handed_in, honest_in, of_version, own_published}

-- ---- a zone's own two answers

abbrev own_at : Row
own_at = record {
  set = ds ∷ [];
  keys = own_keys;
  answer = own.answer_bytes;
  name = a;
  rtype = 1;
  versions = small ∷ [];
  signed_keys = own_key ∷ [];
  signings = signed_from small 1000 2000 ∷ [];
}

pub small_row : (p : Premises) → IsInOrder p small
small_row p = record { records_are = small_is; in_order = in_order p (zone_in example small) small_served; few = tt; chain = tt; truly = λ _. where_all p.denials_true tt }

own_is : IsRow all own_at
own_is = record { name_is = a_is; type_fits = refl; keys_octets = refl; answer_octets = refl; some = λ e. cc; versions_are = (small_row all, tt); of_versions = (at_place (small ∷ []) small 0 refl refl, tt) }

-- the fields of the signature of the address
abbrev address_fields : Fields
address_fields = fields 1 2 3600 1000 2000 own_key

own_unforged : AnswerUnforged own_at
unfolding pointer_limit most_heads owner_at
own_unforged =
    let m = own_at.answer in
    unforged plain (handed_in own_at) (own_key ∷ []) (SignedOf own_at) (sought_of_answer pointer_limit (handed_in own_at)) m (read_of m) refl (
      no_signature plain 1500 (own_key ∷ []) (SignedOf own_at) m (item m 0) refl,
      (
        signed 1500 (SignedOf own_at) m (item m 1) address_fields (signed_octets address_fields a 1 (address ∷ [])) refl
            (of_version own_at small a 1 2 3600 1000 2000 (address ∷ []) (at_place own_at.signings (signed_from small 1000 2000) 0 refl refl) a_is refl (OfZone refl refl) refl refl refl refl refl refl),
        tt,
      ),
    )

pub own_row : IsHonestCase plain own (small ∷ []) (Says (Records (address ∷ [])))
unfolding pointer_limit most_heads owner_at
own_row = record {
  honest = all_honest plain own (small ∷ [])
      (honest_in all own_at own_is (λ e. cc) own_published (inl refl) (own_keys_unforged (handed_in own_at) refl own_at.signings) (own_keys_known own_at.answer a 1) own_unforged (tt, tt));
  answers = refl;
}

-- ---- a splice of two answers

abbrev spliced_at : Row
spliced_at = record {
  set = ds ∷ [];
  keys = own_keys;
  answer = spliced_answer;
  name = x_b;
  rtype = 1;
  versions = starred ∷ [];
  signed_keys = own_key ∷ [];
  signings = signed_from starred 1000 2000 ∷ [];
}

starred_row : IsInOrder all starred
starred_row = record { records_are = starred_is; in_order = in_order all (zone_in example starred) starred_served; few = tt; chain = tt; truly = λ _. tt }

spliced_is : IsRow all spliced_at
unfolding octet_of window_size window_count
spliced_is = record { name_is = x_b_is; type_fits = refl; keys_octets = refl; answer_octets = refl; some = λ e. cc; versions_are = (starred_row, tt); of_versions = (at_place (starred ∷ []) starred 0 refl refl, tt) }

abbrev star_fields : Fields
star_fields = fields 1 1 3600 1000 2000 own_key

abbrev next_fields : Fields
next_fields = fields 47 2 0 1000 2000 own_key

starred_signed : Contains spliced_at.signings (signed_from starred 1000 2000)
starred_signed = at_place spliced_at.signings (signed_from starred 1000 2000) 0 refl refl

spliced_unforged : AnswerUnforged spliced_at
unfolding pointer_limit most_heads owner_at octet_of window_size window_count
spliced_unforged =
    let m = spliced_answer in
    unforged plain (handed_in spliced_at) (own_key ∷ []) (SignedOf spliced_at) (sought_of_answer pointer_limit (handed_in spliced_at)) m (read_of m) refl (
      no_signature plain 1500 (own_key ∷ []) (SignedOf spliced_at) m (item m 0) refl,
      (
        signed 1500 (SignedOf spliced_at) m (item m 1) star_fields (signed_octets star_fields star 1 (address ∷ [])) refl
            (of_version spliced_at starred star 1 1 3600 1000 2000 (address ∷ []) starred_signed star_is refl (OfZone refl refl) refl refl refl refl refl refl),
        (
          no_signature plain 1500 (own_key ∷ []) (SignedOf spliced_at) m (item m 2) refl,
          (
            signed 1500 (SignedOf spliced_at) m (item m 3) next_fields (signed_octets next_fields b 1 (next_of_b ∷ [])) refl
                (of_version spliced_at starred b 47 2 0 1000 2000 (next_of_b ∷ []) starred_signed b_is refl
                (OfChain (record { there = at_place (nsec_names (zone_in example starred)) b 2 refl refl; rtype_is = refl; next = example; next_is = refl; datas_are = refl })) refl refl refl refl refl refl),
            tt,
          ),
        ),
      ),
    )

pub spliced_row : IsHonestCase plain spliced (starred ∷ []) (Refuses NotProven)
unfolding pointer_limit most_heads owner_at octet_of window_size window_count
spliced_row = record {
  honest = all_honest plain spliced (starred ∷ [])
      (honest_in all spliced_at spliced_is (λ e. cc) own_published (inl refl) (own_keys_unforged (handed_in spliced_at) refl spliced_at.signings) (own_keys_known spliced_answer x_b 1) spliced_unforged (tt, tt));
  answers = refl;
}

-- ---- a stranger's key and what it signed

abbrev strangers_at : Row
strangers_at = record {
  set = ds ∷ [];
  keys = stranger_keys stranger;
  answer = of_strangers.answer_bytes;
  name = a;
  rtype = 1;
  versions = small ∷ [];
  signed_keys = [];
  signings = [];
}

strangers_is : IsRow all strangers_at
strangers_is = record { name_is = a_is; type_fits = refl; keys_octets = refl; answer_octets = refl; some = λ e. cc; versions_are = (small_row all, tt); of_versions = tt }

abbrev stranger_fields : Fields
stranger_fields = fields 48 1 3600 1000 2000 stranger

strangers_keys_unforged : KeysUnforged strangers_at
unfolding pointer_limit most_heads owner_at
strangers_keys_unforged =
    let m = strangers_at.keys in
    unforged plain (handed_in strangers_at) (own_key ∷ []) (SignedOf strangers_at) (sought_of_keys (handed_in strangers_at)) m (read_of m) refl (
      no_signature plain 1500 (own_key ∷ []) (SignedOf strangers_at) m (item m 0) refl,
      (foreign 1500 (SignedOf strangers_at) m (item m 1) stranger_fields (stranger.octets ++ signed_octets stranger_fields example 1 (dnskey_data stranger ∷ [])) refl refl, tt),
    )

strangers_known : NoStranger plain pointer_limit (handed_in strangers_at) (own_key ∷ [])
unfolding pointer_limit most_heads owner_at
strangers_known = no_stranger (handed_in strangers_at) (read_of strangers_at.keys) refl refl refl (foreign_known stranger refl, tt)

abbrev strange_address_fields : Fields
strange_address_fields = fields 1 2 3600 1000 2000 stranger

strangers_unforged : AnswerUnforged strangers_at
unfolding pointer_limit most_heads owner_at
strangers_unforged =
    let m = strangers_at.answer in
    unforged plain (handed_in strangers_at) (own_key ∷ []) (SignedOf strangers_at) (sought_of_answer pointer_limit (handed_in strangers_at)) m (read_of m) refl (
      no_signature plain 1500 (own_key ∷ []) (SignedOf strangers_at) m (item m 0) refl,
      (foreign 1500 (SignedOf strangers_at) m (item m 1) strange_address_fields (stranger.octets ++ signed_octets strange_address_fields a 1 (false_address ∷ [])) refl refl, tt),
    )

pub strangers_row : IsHonestCase plain of_strangers (small ∷ []) (Refuses NoTrustedKey)
unfolding pointer_limit most_heads owner_at
strangers_row = record {
  honest = all_honest plain of_strangers (small ∷ []) (honest_in all strangers_at strangers_is (λ e. cc) tt (inl refl) strangers_keys_unforged strangers_known strangers_unforged (tt, tt));
  answers = refl;
}

-- ---- a signature whose time is over

abbrev late_at : Row
late_at = record {
  set = ds ∷ [];
  keys = own_keys;
  answer = forged_late.answer_bytes;
  name = a;
  rtype = 1;
  versions = small ∷ [];
  signed_keys = own_key ∷ [];
  signings = [];
}

late_is : IsRow all late_at
late_is = record { name_is = a_is; type_fits = refl; keys_octets = refl; answer_octets = refl; some = λ e. cc; versions_are = (small_row all, tt); of_versions = tt }

abbrev late_fields : Fields
late_fields = fields 1 2 3600 1000 1499 own_key

late_unforged : AnswerUnforged late_at
unfolding pointer_limit most_heads owner_at
late_unforged =
    let m = late_at.answer in
    unforged plain (handed_in late_at) (own_key ∷ []) (SignedOf late_at) (sought_of_answer pointer_limit (handed_in late_at)) m (read_of m) refl (
      no_signature plain 1500 (own_key ∷ []) (SignedOf late_at) m (item m 0) refl,
      (late plain 1500 (own_key ∷ []) (SignedOf late_at) m (item m 1) late_fields (own_key.octets ++ signed_octets late_fields a 1 (false_address ∷ [])) refl refl, tt),
    )

pub late_row : IsHonestCase plain forged_late (small ∷ []) (Refuses NotProven)
unfolding pointer_limit most_heads owner_at
late_row = record {
  honest = all_honest plain forged_late (small ∷ [])
      (honest_in all late_at late_is (λ e. cc) own_published (inl refl) (own_keys_unforged (handed_in late_at) refl []) (own_keys_known late_at.answer a 1) late_unforged (tt, tt));
  answers = refl;
}
