-- Rows of which a judge says what the zone does not say, each with one premise left out.
use Rattle.std.proofs.Common.{◌≡◌, ℕ, false, List, [], ◌∷◌, ◌++◌, refl, sym, ◌∙◌, inl, inr}
use Rattle.std.specs.Prelude.{Contains}
use Rattle.std.proofs.lemmas.Bool.{ltb-true}
use Rattle.definitions.specs.Base32hex.{base32hex}
use Rattle.definitions.specs.Bitmap.{octet_of, window_count, window_size}
use Rattle.definitions.specs.Dnskey.{Dnskey, dnskey_data}
use Rattle.definitions.specs.Limits.{pointer_limit}
use Rattle.definitions.specs.Name.{IsName, Name}
use Rattle.definitions.specs.Reading.{most_heads}
use Rattle.definitions.specs.Signing.{Fields, signed_octets}
use Rattle.definitions.specs.Zone.{NoType, Records, Unsigned}
use Rattle.definitions.specs.ZoneChain.{hashed_names, nsec3_names}
use Rattle.messages.specs.Message.{owner_at}
use Rattle.answer_terms.specs.Chainable.{IsChainable}
use Rattle.answer_judge.specs.Honest.{NoStranger, NothingForged, SignedOfKeys, sought_of_answer, sought_of_keys}
use Rattle.answer_judge.specs.Versions.{OfChain, zone_in}
use Rattle.answer_judge.proofs.GivenLists.{has_contained}
use Rattle.counterexamples_honest.specs.Premises.{SaysFalsely, without_answer_unforged, without_ds, without_hashes_apart, without_keys_known, without_keys_published, without_keys_unforged}
use Rattle.counterexamples_honest.specs.Rows.{bare, forged_answer, forged_keys, hashed_answer, hashed_apex, mixed_keys, next_of_apex, no_ds, own_keys, shared_hash, small, stranger_keys, twin_keys}
use Rattle.counterexamples_honest.specs.World.{a, ds, example, false_address, fields, other, own_key, plain, twin}
use Rattle.counterexamples_honest.proofs.Dealt.{at_place, foreign, no_signature, signed, unforged}
use Rattle.counterexamples_honest.proofs.Handed.{name, signable}
use Rattle.counterexamples_honest.proofs.HonestRows.{small_row}
use Rattle.counterexamples_honest.proofs.Known.{foreign_known, no_stranger, own_known}
use Rattle.counterexamples_honest.proofs.OwnKeys.{a_is, bare_is, bare_served, example_is, in_order, item, keys_over, own_keys_known, own_keys_unforged, read_of, signed_from}
use Rattle.counterexamples_honest.proofs.Row.{AnswerUnforged, IsInOrder, IsRow, KeysUnforged, Row, SignedOf, handed_in, honest_in, not_one, of_version, own_published}

-- ---- no DS record

abbrev no_ds_at : Row
no_ds_at = record { set = []; keys = []; answer = []; name = a; rtype = 1; versions = small ∷ []; signed_keys = []; signings = [] }

no_ds_is : IsRow without_ds no_ds_at
no_ds_is = record { name_is = a_is; type_fits = refl; keys_octets = refl; answer_octets = refl; some = λ e. cc; versions_are = (small_row without_ds, tt); of_versions = tt }

-- no message has no octets
no_keys_forged : KeysUnforged no_ds_at
no_keys_forged read r f signature key is used inside usable some passes = cc

no_answer_forged : AnswerUnforged no_ds_at
no_answer_forged read r f signature key is used inside usable some passes = cc

no_key_known : NoStranger plain pointer_limit (handed_in no_ds_at) (own_key ∷ [])
no_key_known read key is there trusted = cc

pub no_ds_row : SaysFalsely without_ds
no_ds_row = record {
  answers = plain;
  judge_input = no_ds;
  versions = small ∷ [];
  honest = honest_in without_ds no_ds_at no_ds_is tt tt (inl refl) no_keys_forged no_key_known no_answer_forged (tt, tt);
  said = Unsigned;
  says = refl;
  otherwise = not_one no_ds small Unsigned (λ e. cc);
}

-- ---- a set that the zone's key did not sign

-- an answer that a stranger's key signed
abbrev other_fields : Fields
other_fields = fields 1 2 3600 1000 2000 other

abbrev mixed_at : Row
mixed_at = record {
  set = ds ∷ [];
  keys = mixed_keys;
  answer = forged_keys.answer_bytes;
  name = a;
  rtype = 1;
  versions = small ∷ [];
  signed_keys = [];
  signings = [];
}

mixed_is : IsRow without_keys_unforged mixed_at
mixed_is = record { name_is = a_is; type_fits = refl; keys_octets = refl; answer_octets = refl; some = λ e. cc; versions_are = (small_row without_keys_unforged, tt); of_versions = tt }

mixed_known : NoStranger plain pointer_limit (handed_in mixed_at) (own_key ∷ [])
unfolding pointer_limit most_heads owner_at
mixed_known = no_stranger (handed_in mixed_at) (read_of mixed_keys) refl refl refl (foreign_known other refl, (own_known, tt))

-- whatever was signed
other_unforged : (Signed : List ℕ → Type 0) → NothingForged plain pointer_limit (handed_in mixed_at) (own_key ∷ []) Signed (sought_of_answer pointer_limit (handed_in mixed_at)) forged_keys.answer_bytes
unfolding pointer_limit most_heads owner_at
other_unforged Signed =
    let m = forged_keys.answer_bytes in
    unforged plain (handed_in mixed_at) (own_key ∷ []) Signed (sought_of_answer pointer_limit (handed_in mixed_at)) m (read_of m) refl (
      no_signature plain 1500 (own_key ∷ []) Signed m (item m 0) refl,
      (foreign 1500 Signed m (item m 1) other_fields (other.octets ++ signed_octets other_fields a 1 (false_address ∷ [])) refl refl, tt),
    )

pub forged_keys_row : SaysFalsely without_keys_unforged
unfolding pointer_limit most_heads owner_at
forged_keys_row = record {
  answers = plain;
  judge_input = forged_keys;
  versions = small ∷ [];
  honest = honest_in without_keys_unforged mixed_at mixed_is (λ e. cc) tt (inl refl) tt mixed_known (other_unforged (SignedOf mixed_at)) (tt, tt);
  said = Records (false_address ∷ []);
  says = refl;
  otherwise = not_one forged_keys small (Records (false_address ∷ [])) (λ e. cc);
}

-- ---- a set that it signed, though one key of it is a stranger's

abbrev both_keys : List Dnskey
both_keys = other ∷ own_key ∷ []

abbrev signed_keys_at : Row
signed_keys_at = record mixed_at { signed_keys = both_keys }

signed_keys_is : IsRow without_keys_published signed_keys_at
signed_keys_is = record { name_is = a_is; type_fits = refl; keys_octets = refl; answer_octets = refl; some = λ e. cc; versions_are = (small_row without_keys_published, tt); of_versions = tt }

abbrev mixed_fields : Fields
mixed_fields = fields 48 1 3600 1000 2000 own_key

both_signed : SignedOf signed_keys_at (keys_over (dnskey_data other ∷ dnskey_data own_key ∷ []))
both_signed = SignedOfKeys (record {
  present = both_keys;
  published_are = (at_place both_keys other 0 refl refl, (at_place both_keys own_key 1 refl refl, tt));
  fields = mixed_fields;
  over = record { covered = refl; labels = refl; signer = refl; fits = signable 48 1 3600 1000 2000 own_key example (dnskey_data other ∷ dnskey_data own_key ∷ []) example_is refl refl refl refl refl refl refl; is = refl };
})

mixed_unforged : KeysUnforged signed_keys_at
unfolding pointer_limit most_heads owner_at
mixed_unforged =
    let m = mixed_keys in
    unforged plain (handed_in signed_keys_at) (own_key ∷ []) (SignedOf signed_keys_at) (sought_of_keys (handed_in signed_keys_at)) m (read_of m) refl (
      no_signature plain 1500 (own_key ∷ []) (SignedOf signed_keys_at) m (item m 0) refl,
      (
        no_signature plain 1500 (own_key ∷ []) (SignedOf signed_keys_at) m (item m 1) refl,
        (signed 1500 (SignedOf signed_keys_at) m (item m 2) mixed_fields (keys_over (dnskey_data other ∷ dnskey_data own_key ∷ [])) refl both_signed, tt),
      ),
    )

pub signed_keys_row : SaysFalsely without_keys_published
unfolding pointer_limit most_heads owner_at
signed_keys_row = record {
  answers = plain;
  judge_input = forged_keys;
  versions = small ∷ [];
  honest = honest_in without_keys_published signed_keys_at signed_keys_is (λ e. cc) tt (inl refl) mixed_unforged mixed_known (other_unforged (SignedOf signed_keys_at)) (tt, tt);
  said = Records (false_address ∷ []);
  says = refl;
  otherwise = not_one forged_keys small (Records (false_address ∷ [])) (λ e. cc);
}

-- ---- a key that has the digest of the zone's

abbrev twin_at : Row
twin_at = record {
  set = ds ∷ [];
  keys = stranger_keys twin;
  answer = twin_keys.answer_bytes;
  name = a;
  rtype = 1;
  versions = small ∷ [];
  signed_keys = [];
  signings = [];
}

twin_is : IsRow without_keys_known twin_at
twin_is = record { name_is = a_is; type_fits = refl; keys_octets = refl; answer_octets = refl; some = λ e. cc; versions_are = (small_row without_keys_known, tt); of_versions = tt }

abbrev twin_fields : Fields
twin_fields = fields 48 1 3600 1000 2000 twin

twin_keys_unforged : KeysUnforged twin_at
unfolding pointer_limit most_heads owner_at
twin_keys_unforged =
    let m = twin_at.keys in
    unforged plain (handed_in twin_at) (own_key ∷ []) (SignedOf twin_at) (sought_of_keys (handed_in twin_at)) m (read_of m) refl (
      no_signature plain 1500 (own_key ∷ []) (SignedOf twin_at) m (item m 0) refl,
      (foreign 1500 (SignedOf twin_at) m (item m 1) twin_fields (twin.octets ++ signed_octets twin_fields example 1 (dnskey_data twin ∷ [])) refl refl, tt),
    )

abbrev twin_address_fields : Fields
twin_address_fields = fields 1 2 3600 1000 2000 twin

twin_unforged : AnswerUnforged twin_at
unfolding pointer_limit most_heads owner_at
twin_unforged =
    let m = twin_at.answer in
    unforged plain (handed_in twin_at) (own_key ∷ []) (SignedOf twin_at) (sought_of_answer pointer_limit (handed_in twin_at)) m (read_of m) refl (
      no_signature plain 1500 (own_key ∷ []) (SignedOf twin_at) m (item m 0) refl,
      (foreign 1500 (SignedOf twin_at) m (item m 1) twin_address_fields (twin.octets ++ signed_octets twin_address_fields a 1 (false_address ∷ [])) refl refl, tt),
    )

pub twin_row : SaysFalsely without_keys_known
unfolding pointer_limit most_heads owner_at
twin_row = record {
  answers = plain;
  judge_input = twin_keys;
  versions = small ∷ [];
  honest = honest_in without_keys_known twin_at twin_is (λ e. cc) tt (inl refl) twin_keys_unforged tt twin_unforged (tt, tt);
  said = Records (false_address ∷ []);
  says = refl;
  otherwise = not_one twin_keys small (Records (false_address ∷ [])) (λ e. cc);
}

-- ---- an answer that the zone's key did not sign

abbrev forged_at : Row
forged_at = record {
  set = ds ∷ [];
  keys = own_keys;
  answer = forged_answer.answer_bytes;
  name = a;
  rtype = 1;
  versions = small ∷ [];
  signed_keys = own_key ∷ [];
  signings = [];
}

forged_is : IsRow without_answer_unforged forged_at
forged_is = record { name_is = a_is; type_fits = refl; keys_octets = refl; answer_octets = refl; some = λ e. cc; versions_are = (small_row without_answer_unforged, tt); of_versions = tt }

pub forged_answer_row : SaysFalsely without_answer_unforged
unfolding pointer_limit most_heads owner_at
forged_answer_row = record {
  answers = plain;
  judge_input = forged_answer;
  versions = small ∷ [];
  honest = honest_in without_answer_unforged forged_at forged_is (λ e. cc) own_published (inl refl) (own_keys_unforged (handed_in forged_at) refl []) (own_keys_known forged_at.answer a 1) tt (tt, tt);
  said = Records (false_address ∷ []);
  says = refl;
  otherwise = not_one forged_answer small (Records (false_address ∷ [])) (λ e. cc);
}

-- ---- names that share a hash

abbrev hashed_at : Row
hashed_at = record {
  set = ds ∷ [];
  keys = own_keys;
  answer = hashed_answer;
  name = a;
  rtype = 16;
  versions = bare ∷ [];
  signed_keys = own_key ∷ [];
  signings = signed_from bare 1000 2000 ∷ [];
}

-- the chain has one name
one_name : (n : Name) → Contains (nsec3_names (zone_in example bare) false) n → n ≡ example
one_name n c = elim (has_contained (example ∷ []) n c) [ inl e ↦ e | inr none ↦ absurd none ]

bare_chain : IsChainable plain.hash 0 [] false (zone_in example bare)
bare_chain = record {
  hashed = λ n c. (5 ∷ [], refl);
  octets = λ n c. (ltb-true 5 256 refl, tt);
  fit = λ n c. name (base32hex (5 ∷ []) ∷ example) refl refl;
  apart = λ m n c d e. one_name m c ∙ sym (one_name n d);
}

bare_row : IsInOrder without_hashes_apart bare
bare_row = record { records_are = bare_is; in_order = in_order without_hashes_apart (zone_in example bare) bare_served; few = ltb-true 0 65536 refl; chain = bare_chain; truly = λ _. tt }

hashed_is : IsRow without_hashes_apart hashed_at
unfolding octet_of window_size window_count
hashed_is = record { name_is = a_is; type_fits = refl; keys_octets = refl; answer_octets = refl; some = λ e. cc; versions_are = (bare_row, tt); of_versions = (at_place (bare ∷ []) bare 0 refl refl, tt) }

abbrev hashed_fields : Fields
hashed_fields = fields 50 2 0 1000 2000 own_key

hashed_owner : IsName hashed_apex
hashed_owner = name hashed_apex refl refl

hashed_unforged : AnswerUnforged hashed_at
unfolding pointer_limit most_heads owner_at octet_of window_size window_count
hashed_unforged =
    let m = hashed_answer in
    unforged plain (handed_in hashed_at) (own_key ∷ []) (SignedOf hashed_at) (sought_of_answer pointer_limit (handed_in hashed_at)) m (read_of m) refl (
      no_signature plain 1500 (own_key ∷ []) (SignedOf hashed_at) m (item m 0) refl,
      (
        signed 1500 (SignedOf hashed_at) m (item m 1) hashed_fields (signed_octets hashed_fields hashed_apex 1 (next_of_apex ∷ [])) refl
            (of_version hashed_at bare hashed_apex 50 2 0 1000 2000 (next_of_apex ∷ []) (at_place hashed_at.signings (signed_from bare 1000 2000) 0 refl refl) hashed_owner refl
            (OfChain (record { name = example; there = at_place (hashed_names (λ n. 5 ∷ []) (zone_in example bare) false) example 0 refl refl; owner_is = refl; rtype_is = refl; datas_are = refl })) refl refl refl refl refl refl),
        tt,
      ),
    )

pub shared_hash_row : SaysFalsely without_hashes_apart
unfolding pointer_limit most_heads owner_at octet_of window_size window_count
shared_hash_row = record {
  answers = plain;
  judge_input = shared_hash;
  versions = bare ∷ [];
  honest = honest_in without_hashes_apart hashed_at hashed_is (λ e. cc) own_published (inl refl) (own_keys_unforged (handed_in hashed_at) refl hashed_at.signings) (own_keys_known hashed_answer a 16) hashed_unforged (tt, tt);
  said = NoType;
  says = refl;
  otherwise = not_one shared_hash bare NoType (λ e. cc);
}
