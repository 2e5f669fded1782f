-- Honest rows that a judge refuses, and that a judge which looks away would not.
use Rattle.std.proofs.Common.{◌≡◌, ℕ, true, false, List, [], ◌∷◌, ◌++◌, eqb, refl, sym, ap, subst, ◌∙◌, inl, inr, arith}
use Rattle.std.specs.Prelude.{◌==◌, Contains}
use Rattle.std.specs.List.{AllByRecursion}
use Rattle.std.proofs.lemmas.Bool.{and_parts, eqb-true, false_from_ne_true, false≢true, ltb-true}
use Rattle.definitions.specs.Bitmap.{octet_of, window_count, window_size}
use Rattle.definitions.specs.Dnskey.{Dnskey, dnskey_data}
use Rattle.definitions.specs.Limits.{pointer_limit}
use Rattle.definitions.specs.Name.{Name, labels_eq, low, strictly_above, wire}
use Rattle.definitions.specs.Reading.{most_heads}
use Rattle.definitions.specs.Signing.{Fields, signed_octets}
use Rattle.definitions.specs.Zone.{NoName, NoType, Records, Rr, Zone, apex_of, has, is_delegation, is_of, owners}
use Rattle.definitions.specs.ZoneChain.{nsec_names}
use Rattle.definitions.proofs.Members.{any_of}
use Rattle.denial_laws.specs.Truth.{IsServable}
use Rattle.messages.specs.Message.{owner_at}
use Rattle.messages.proofs.Lists.{Has}
use Rattle.messages.proofs.ZoneNames.{same_labels}
use Rattle.answer_judge.specs.Honest.{NoStranger, NothingForged, OneAtATime, Signing, SignedOfKeys, WasSigned, sought_of_answer, sought_of_keys}
use Rattle.answer_judge.specs.Versions.{OfChain, Version, zone_in}
use Rattle.answer_judge_facts.specs.Times.{Times}
use Rattle.answer_judge.specs.Judging.{Refuses}
use Rattle.answer_judge_keys.specs.Trusted.{is_usable}
use Rattle.answer_judge.specs.declared.verdict.Refusal.TheVariants.{MixedVersions, NotProven}
use Rattle.answer_judge_keys.proofs.GivenSorted.{in_has}
use Rattle.answer_judge.proofs.GivenLists.{has_contained}
use Rattle.counterexamples_honest.specs.Premises.{IsHonestCase, RefusesFalsehood, all}
use Rattle.counterexamples_honest.specs.Rows.{aliased, at_alias, begun_at_once, below_redirected, first_version, idle_keys, mixed_until, next_of_alias, next_of_apex_later, next_of_b, next_of_redirect, of_idle, of_other_signer, other_signer, own_keys, redirected, second_version, small}
use Rattle.counterexamples_honest.specs.World.{a, b, ds, example, false_address, fields, idle, own_key, plain, x, x_b}
use Rattle.counterexamples_honest.proofs.Dealt.{IsDealtHere, at_place, foreign, here, no_signature, of_another, signed, small_octets, unforged, unforged_here}
use Rattle.counterexamples_honest.proofs.Handed.{opaque, question, signable}
use Rattle.counterexamples_honest.proofs.HonestRows.{small_row}
use Rattle.counterexamples_honest.proofs.Known.{foreign_known, no_stranger, own_known}
use Rattle.counterexamples_honest.proofs.Mixtures.{both, first_row, neither, of_first, of_second, second_row}
use Rattle.counterexamples_honest.proofs.OwnKeys.{a_is, b_is, example_is, in_order, item, keys_over, no_type, own_keys_known, own_keys_unforged, read_of, signed_from, soa_is, x_b_is, x_is}
use Rattle.counterexamples_honest.proofs.Premises.{all_honest}
use Rattle.counterexamples_honest.proofs.Row.{AnswerUnforged, IsInOrder, IsRow, Row, SignedOf, alias_in_one, handed_in, honest_in, not_one, of_version, own_published}

-- ---- another signer

abbrev signer_at : Row
signer_at = record {
  set = ds ∷ [];
  keys = own_keys;
  answer = of_other_signer.answer_bytes;
  name = a;
  rtype = 1;
  versions = small ∷ [];
  signed_keys = own_key ∷ [];
  signings = [];
}

signer_is : IsRow all signer_at
signer_is = record { name_is = a_is; type_fits = refl; keys_octets = refl; answer_octets = refl; some = λ e. cc; versions_are = (small_row all, tt); of_versions = tt }

signer_unforged : AnswerUnforged signer_at
unfolding pointer_limit most_heads owner_at
signer_unforged =
    let m = signer_at.answer in
    unforged_here plain (handed_in signer_at) (own_key ∷ []) (SignedOf signer_at) (sought_of_answer pointer_limit (handed_in signer_at)) m (read_of m) refl (
      here plain (handed_in signer_at) (own_key ∷ []) (SignedOf signer_at) m (item m 0) (no_signature plain 1500 (own_key ∷ []) (SignedOf signer_at) m (item m 0) refl),
      (of_another plain (handed_in signer_at) (own_key ∷ []) (SignedOf signer_at) m (item m 1) other_signer (own_key.octets ++ signed_octets other_signer a 1 (false_address ∷ [])) refl refl, tt),
    )

pub signer_row : IsHonestCase plain of_other_signer (small ∷ []) (Refuses NotProven)
unfolding pointer_limit most_heads owner_at
signer_row = record {
  honest = all_honest plain of_other_signer (small ∷ [])
      (honest_in all signer_at signer_is (λ e. cc) own_published (inl refl) (own_keys_unforged (handed_in signer_at) refl []) (own_keys_known signer_at.answer a 1) signer_unforged (tt, tt));
  answers = refl;
}

-- ---- a key that is no zone key

abbrev two_keys : List Dnskey
two_keys = own_key ∷ idle ∷ []

abbrev idle_signed : List ℕ → Type 0
idle_signed = WasSigned plain example two_keys []

keys_signed : idle_signed (keys_over (dnskey_data idle ∷ dnskey_data own_key ∷ []))
keys_signed = SignedOfKeys (record {
  present = idle ∷ own_key ∷ [];
  published_are = (at_place two_keys idle 1 refl refl, (at_place two_keys own_key 0 refl refl, tt));
  fields = fields 48 1 3600 1000 2000 own_key;
  over = record { covered = refl; labels = refl; signer = refl; fits = signable 48 1 3600 1000 2000 own_key example (dnskey_data idle ∷ dnskey_data own_key ∷ []) example_is refl refl refl refl refl refl refl; is = refl };
})

-- what the zone's own key signs, where the other may not
own_alone : (Signed : List ℕ → Type 0) (m : List ℕ) (i : ℕ) → IsDealtHere plain of_idle (own_key ∷ []) Signed m (item m i) → IsDealtHere plain of_idle two_keys Signed m (item m i)
own_alone Signed m i dealt f signature octets key kind reads time signer inside usable passes = elim inside [
  | inl e ↦ dealt f signature octets key kind reads time signer (inl e) usable passes
  | inr (inl e) ↦ absurd (false≢true (ap is_usable (sym e) ∙ usable))
  | inr (inr none) ↦ absurd none
]

idle_keys_unforged : NothingForged plain pointer_limit of_idle two_keys idle_signed (sought_of_keys of_idle) idle_keys
unfolding pointer_limit most_heads owner_at
idle_keys_unforged =
    let m = idle_keys in
    unforged_here plain of_idle two_keys idle_signed (sought_of_keys of_idle) m (read_of m) refl (
      here plain of_idle two_keys idle_signed m (item m 0) (no_signature plain 1500 two_keys idle_signed m (item m 0) refl),
      (
        here plain of_idle two_keys idle_signed m (item m 1) (no_signature plain 1500 two_keys idle_signed m (item m 1) refl),
        (
          own_alone idle_signed m 2
              (here plain of_idle (own_key ∷ []) idle_signed m (item m 2) (signed 1500 idle_signed m (item m 2) (fields 48 1 3600 1000 2000 own_key) (keys_over (dnskey_data idle ∷ dnskey_data own_key ∷ [])) refl keys_signed)),
          tt,
        ),
      ),
    )

abbrev idle_fields : Fields
idle_fields = fields 1 2 3600 1000 2000 idle

idle_unforged : NothingForged plain pointer_limit of_idle two_keys idle_signed (sought_of_answer pointer_limit of_idle) of_idle.answer_bytes
unfolding pointer_limit most_heads owner_at
idle_unforged =
    let m = of_idle.answer_bytes in
    unforged_here plain of_idle two_keys idle_signed (sought_of_answer pointer_limit of_idle) m (read_of m) refl (
      here plain of_idle two_keys idle_signed m (item m 0) (no_signature plain 1500 two_keys idle_signed m (item m 0) refl),
      (
        own_alone idle_signed m 1
            (here plain of_idle (own_key ∷ []) idle_signed m (item m 1) (foreign 1500 idle_signed m (item m 1) idle_fields (idle.octets ++ signed_octets idle_fields a 1 (false_address ∷ [])) refl refl)),
        tt,
      ),
    )

idle_known : NoStranger plain pointer_limit of_idle two_keys
unfolding pointer_limit most_heads owner_at
idle_known read key is there trusted =
    let own : Contains (own_key ∷ []) key = no_stranger of_idle (read_of idle_keys) refl refl refl (foreign_known idle refl, (own_known, tt)) read key is there trusted in
    elim (has_contained (own_key ∷ []) key own) as (λ _. Contains two_keys key) [
      | inl e ↦ subst (Contains two_keys) (sym e) (at_place two_keys own_key 0 refl refl)
      | inr none ↦ absurd none
    ]

pub idle_row : IsHonestCase plain of_idle (small ∷ []) (Refuses NotProven)
unfolding pointer_limit most_heads owner_at
idle_row = record {
  honest = all_honest plain of_idle (small ∷ []) (record {
    published = two_keys;
    signed_keys = two_keys;
    signings = [];
    apex_is = example_is;
    one = λ e. cc;
    versions_are = (record { records_are = (small_row all).records_are; in_order = (small_row all).in_order; few = tt; chain = tt; apart = tt; truly = tt }, tt);
    asked_is = question a 1 a_is refl;
    flags_are = (ltb-true 257 65536 refl, (ltb-true 0 65536 refl, tt));
    keys_octets = small_octets idle_keys refl;
    answer_octets = small_octets of_idle.answer_bytes refl;
    of_versions = tt;
    ds_some = λ e. cc;
    keys_published = (at_place two_keys own_key 0 refl refl, (at_place two_keys idle 1 refl refl, tt));
    settled = inl refl;
    keys_unforged = idle_keys_unforged;
    keys_known = idle_known;
    answer_unforged = idle_unforged;
  });
  answers = refl;
}

-- ---- an alias

-- the one owner of an alias
only_alias : (o : Name) → has (zone_in example aliased) o 5 ≡ true → o ≡ a
only_alias o h =
    let z : Zone = zone_in example aliased in
    let r = any_of (is_of o 5) z.records h in
    let parts = and_parts (labels_eq (low r.0.spelled) o) (r.0.rtype == 5) r.1.1 in
    go r.0 (in_has z.records r.0 r.1.0) parts.1 (same_labels (low r.0.spelled) o parts.0)
  where
    go : (r : Rr) → Has (zone_in example aliased).records r → (r.rtype == 5) ≡ true → low r.spelled ≡ o → o ≡ a
    go r (inl e) k n = absurd (false≢true (ap (λ (y : Rr). y.rtype == 5) (sym e) ∙ k))
    go r (inr (inl e)) k n = sym n ∙ ap (λ (y : Rr). low y.spelled) e
    go r (inr (inr none)) k n = absurd none

-- it has that alone
alone_at_a : (t : ℕ) → has (zone_in example aliased) a t ≡ true → t ≡ 5
alone_at_a t h =
    let z : Zone = zone_in example aliased in
    let r = any_of (is_of a t) z.records h in
    let parts = and_parts (labels_eq (low r.0.spelled) a) (r.0.rtype == t) r.1.1 in
    go r.0 (in_has z.records r.0 r.1.0) (eqb-true r.0.rtype t parts.1) parts.0
  where
    go : (r : Rr) → Has (zone_in example aliased).records r → r.rtype ≡ t → labels_eq (low r.spelled) a ≡ true → t ≡ 5
    go r (inl e) k n = absurd (false≢true (ap (λ (y : Rr). labels_eq (low y.spelled) a) (sym e) ∙ n))
    go r (inr (inl e)) k n = sym k ∙ ap (λ (y : Rr). y.rtype) e
    go r (inr (inr none)) k n = absurd none

aliased_served : IsServable (zone_in example aliased)
aliased_served =
    let z : Zone = zone_in example aliased in
    record {
      apex = at_place (owners z) (apex_of z) 0 refl refl;
      typed = (omega arith, (omega arith, tt));
      ordinary = (refl, (refl, tt));
      real = (refl, (refl, tt));
      stars = (refl, (refl, tt));
      aliases = record {
        alone = λ o t h k. alone_at_a t (ap (λ n. has z n t) (sym (only_alias o h)) ∙ k);
        uncut = λ o h. absurd (no_type z 39 refl o h);
        childless = λ o below h c. absurd (no_type z 39 refl o h);
      };
    }

abbrev alias_at : Row
alias_at = record {
  set = ds ∷ [];
  keys = own_keys;
  answer = at_alias.answer_bytes;
  name = a;
  rtype = 1;
  versions = aliased ∷ [];
  signed_keys = own_key ∷ [];
  signings = signed_from aliased 1000 2000 ∷ [];
}

alias_is : IsRow all alias_at
unfolding octet_of window_size window_count
alias_is = record {
  name_is = a_is;
  type_fits = refl;
  keys_octets = refl;
  answer_octets = refl;
  some = λ e. cc;
  versions_are = (record { records_are = (soa_is, (opaque a 5 (wire x) a_is refl, tt)); in_order = in_order all (zone_in example aliased) aliased_served; few = tt; chain = tt; truly = λ _. tt }, tt);
  of_versions = (at_place (aliased ∷ []) aliased 0 refl refl, tt);
}

abbrev chain_fields : Fields
chain_fields = fields 47 2 0 1000 2000 own_key

alias_unforged : AnswerUnforged alias_at
unfolding pointer_limit most_heads owner_at octet_of window_size window_count
alias_unforged =
    let m = alias_at.answer in
    unforged plain (handed_in alias_at) (own_key ∷ []) (SignedOf alias_at) (sought_of_answer pointer_limit (handed_in alias_at)) m (read_of m) refl (
      no_signature plain 1500 (own_key ∷ []) (SignedOf alias_at) m (item m 0) refl,
      (
        signed 1500 (SignedOf alias_at) m (item m 1) chain_fields (signed_octets chain_fields a 1 (next_of_alias ∷ [])) refl
            (of_version alias_at aliased a 47 2 0 1000 2000 (next_of_alias ∷ []) (at_place alias_at.signings (signed_from aliased 1000 2000) 0 refl refl) a_is refl
            (OfChain (record { there = at_place (nsec_names (zone_in example aliased)) a 1 refl refl; rtype_is = refl; next = example; next_is = refl; datas_are = refl })) refl refl refl refl refl refl),
        tt,
      ),
    )

pub alias_row : IsHonestCase plain at_alias (aliased ∷ []) (Refuses NotProven)
unfolding pointer_limit most_heads owner_at octet_of window_size window_count
alias_row = record {
  honest = all_honest plain at_alias (aliased ∷ [])
      (honest_in all alias_at alias_is (λ e. cc) own_published (inl refl) (own_keys_unforged (handed_in alias_at) refl alias_at.signings) (own_keys_known alias_at.answer a 1) alias_unforged (tt, tt));
  answers = refl;
}

-- ---- a DNAME

-- the one owner of a DNAME
only_redirect : (o : Name) → has (zone_in example redirected) o 39 ≡ true → o ≡ b
only_redirect o h =
    let z : Zone = zone_in example redirected in
    let r = any_of (is_of o 39) z.records h in
    let parts = and_parts (labels_eq (low r.0.spelled) o) (r.0.rtype == 39) r.1.1 in
    go r.0 (in_has z.records r.0 r.1.0) parts.1 (same_labels (low r.0.spelled) o parts.0)
  where
    go : (r : Rr) → Has (zone_in example redirected).records r → (r.rtype == 39) ≡ true → low r.spelled ≡ o → o ≡ b
    go r (inl e) k n = absurd (false≢true (ap (λ (y : Rr). y.rtype == 39) (sym e) ∙ k))
    go r (inr (inl e)) k n = sym n ∙ ap (λ (y : Rr). low y.spelled) e
    go r (inr (inr none)) k n = absurd none

none_below : (below : Name) → Contains (owners (zone_in example redirected)) below → strictly_above b below ≡ false
none_below below c = go (has_contained (owners (zone_in example redirected)) below c)
  where
    go : Has (owners (zone_in example redirected)) below → strictly_above b below ≡ false
    go (inl e) = ap (strictly_above b) e
    go (inr (inl e)) = ap (strictly_above b) e
    go (inr (inr none)) = absurd none

redirected_served : IsServable (zone_in example redirected)
redirected_served =
    let z : Zone = zone_in example redirected in
    record {
      apex = at_place (owners z) (apex_of z) 0 refl refl;
      typed = (omega arith, (omega arith, tt));
      ordinary = (refl, (refl, tt));
      real = (refl, (refl, tt));
      stars = (refl, (refl, tt));
      aliases = record {
        alone = λ o t h k. absurd (no_type z 5 refl o h);
        uncut = λ o h. false_from_ne_true (is_delegation z o) (λ e. no_type z 2 refl o (and_parts (has z o 2) (strictly_above (apex_of z) o) e).0);
        childless = λ o below h c. ap (λ n. strictly_above n below) (only_redirect o h) ∙ none_below below c;
      };
    }

abbrev redirect_at : Row
redirect_at = record {
  set = ds ∷ [];
  keys = own_keys;
  answer = below_redirected.answer_bytes;
  name = x_b;
  rtype = 1;
  versions = redirected ∷ [];
  signed_keys = own_key ∷ [];
  signings = signed_from redirected 1000 2000 ∷ [];
}

redirect_is : IsRow all redirect_at
unfolding octet_of window_size window_count
redirect_is = record {
  name_is = x_b_is;
  type_fits = refl;
  keys_octets = refl;
  answer_octets = refl;
  some = λ e. cc;
  versions_are = (record { records_are = (soa_is, (opaque b 39 (wire x) b_is refl, tt)); in_order = in_order all (zone_in example redirected) redirected_served; few = tt; chain = tt; truly = λ _. tt }, tt);
  of_versions = (at_place (redirected ∷ []) redirected 0 refl refl, tt);
}

redirect_unforged : AnswerUnforged redirect_at
unfolding pointer_limit most_heads owner_at octet_of window_size window_count
redirect_unforged =
    let m = redirect_at.answer in
    unforged plain (handed_in redirect_at) (own_key ∷ []) (SignedOf redirect_at) (sought_of_answer pointer_limit (handed_in redirect_at)) m (read_of m) refl (
      no_signature plain 1500 (own_key ∷ []) (SignedOf redirect_at) m (item m 0) refl,
      (
        signed 1500 (SignedOf redirect_at) m (item m 1) chain_fields (signed_octets chain_fields b 1 (next_of_redirect ∷ [])) refl
            (of_version redirect_at redirected b 47 2 0 1000 2000 (next_of_redirect ∷ []) (at_place redirect_at.signings (signed_from redirected 1000 2000) 0 refl refl) b_is refl
            (OfChain (record { there = at_place (nsec_names (zone_in example redirected)) b 1 refl refl; rtype_is = refl; next = example; next_is = refl; datas_are = refl })) refl refl refl refl refl refl),
        tt,
      ),
    )

pub redirect_row : IsHonestCase plain below_redirected (redirected ∷ []) (Refuses NotProven)
unfolding pointer_limit most_heads owner_at octet_of window_size window_count
redirect_row = record {
  honest = all_honest plain below_redirected (redirected ∷ [])
      (honest_in all redirect_at redirect_is (λ e. cc) own_published (inl refl) (own_keys_unforged (handed_in redirect_at) refl redirect_at.signings) (own_keys_known redirect_at.answer x_b 1) redirect_unforged (tt, tt));
  answers = refl;
}

-- ---- two versions that were signed in one second, the second for longer

abbrev until_at : Row
until_at = record {
  set = ds ∷ [];
  keys = own_keys;
  answer = mixed_until;
  name = x;
  rtype = 16;
  versions = both;
  signed_keys = own_key ∷ [];
  signings = signed_from first_version 1000 2000 ∷ signed_from second_version 1000 3000 ∷ [];
}

until_is : IsRow all until_at
unfolding octet_of window_size window_count
until_is = record { name_is = x_is; type_fits = refl; keys_octets = refl; answer_octets = refl; some = λ e. cc; versions_are = (first_row all, (second_row all, tt)); of_versions = (of_first, (of_second, tt)) }

abbrev apex_fields : Fields
apex_fields = fields 47 1 0 1000 3000 own_key

until_unforged : AnswerUnforged until_at
unfolding pointer_limit most_heads owner_at octet_of window_size window_count
until_unforged =
    let m = mixed_until in
    unforged plain (handed_in until_at) (own_key ∷ []) (SignedOf until_at) (sought_of_answer pointer_limit (handed_in until_at)) m (read_of m) refl (
      no_signature plain 1500 (own_key ∷ []) (SignedOf until_at) m (item m 0) refl,
      (
        signed 1500 (SignedOf until_at) m (item m 1) chain_fields (signed_octets chain_fields b 1 (next_of_b ∷ [])) refl
            (of_version until_at first_version b 47 2 0 1000 2000 (next_of_b ∷ []) (at_place until_at.signings (signed_from first_version 1000 2000) 0 refl refl) b_is refl
            (OfChain (record { there = at_place (nsec_names (zone_in example first_version)) b 2 refl refl; rtype_is = refl; next = example; next_is = refl; datas_are = refl })) refl refl refl refl refl refl),
        (
          no_signature plain 1500 (own_key ∷ []) (SignedOf until_at) m (item m 2) refl,
          (
            signed 1500 (SignedOf until_at) m (item m 3) apex_fields (signed_octets apex_fields example 1 (next_of_apex_later ∷ [])) refl
                (of_version until_at second_version example 47 1 0 1000 3000 (next_of_apex_later ∷ []) (at_place until_at.signings (signed_from second_version 1000 3000) 1 refl refl) example_is refl
                (OfChain (record { there = at_place (nsec_names (zone_in example second_version)) example 0 refl refl; rtype_is = refl; next = x; next_is = refl; datas_are = refl })) refl refl refl refl refl refl),
            tt,
          ),
        ),
      ),
    )

unlike_ends : ◌≡◌ {A = ℕ} 2000 3000 → ⊥
unlike_ends e = false≢true (ap (λ n. eqb n 2000) (sym e))

-- they end at two moments
until_at_a_time : OneAtATime until_at.signings
until_at_a_time y z i j e = go (has_contained until_at.signings y i) (has_contained until_at.signings z j)
  where
    ended : y.times.expiration ≡ z.times.expiration
    ended = ap (λ (t : Times). t.expiration) e

    go : Has until_at.signings y → Has until_at.signings z → y.version ≡ z.version
    go (inl k) (inl l) = ap (λ (s : Signing). s.version) (k ∙ sym l)
    go (inl k) (inr (inl l)) = absurd (unlike_ends (ap (λ (s : Signing). s.times.expiration) (sym k) ∙ ended ∙ ap (λ (s : Signing). s.times.expiration) l))
    go (inl k) (inr (inr none)) = absurd none
    go (inr (inl k)) (inl l) = absurd (unlike_ends (ap (λ (s : Signing). s.times.expiration) (sym l) ∙ sym ended ∙ ap (λ (s : Signing). s.times.expiration) k))
    go (inr (inl k)) (inr (inl l)) = ap (λ (s : Signing). s.version) (k ∙ sym l)
    go (inr (inl k)) (inr (inr none)) = absurd none
    go (inr (inr none)) other = absurd none

pub until_row : IsHonestCase plain begun_at_once both (Refuses MixedVersions)
unfolding pointer_limit most_heads owner_at octet_of window_size window_count
until_row = record {
  honest = all_honest plain begun_at_once both
      (honest_in all until_at until_is (λ e. cc) own_published (inr (inl (refl, until_at_a_time)))
      (own_keys_unforged (handed_in until_at) refl until_at.signings) (own_keys_known mixed_until x 16) until_unforged (tt, (tt, tt)));
  answers = refl;
}

-- ---- what a judge that looks away would say of them

pub signer_trap : RefusesFalsehood plain of_other_signer (small ∷ []) (Refuses NotProven) (Records (false_address ∷ []))
signer_trap = record { case = signer_row; breaks = λ promise. not_one of_other_signer small (Records (false_address ∷ [])) (λ e. cc) (promise (small ∷ []) signer_row.honest) }

pub idle_trap : RefusesFalsehood plain of_idle (small ∷ []) (Refuses NotProven) (Records (false_address ∷ []))
idle_trap = record { case = idle_row; breaks = λ promise. not_one of_idle small (Records (false_address ∷ [])) (λ e. cc) (promise (small ∷ []) idle_row.honest) }

pub alias_trap : RefusesFalsehood plain at_alias (aliased ∷ []) (Refuses NotProven) NoType
alias_trap = record { case = alias_row; breaks = λ promise. alias_in_one at_alias aliased NoType refl (promise (aliased ∷ []) alias_row.honest) }

pub redirect_trap : RefusesFalsehood plain below_redirected (redirected ∷ []) (Refuses NotProven) NoName
redirect_trap = record { case = redirect_row; breaks = λ promise. alias_in_one below_redirected redirected NoName refl (promise (redirected ∷ []) redirect_row.honest) }

pub until_trap : RefusesFalsehood plain begun_at_once both (Refuses MixedVersions) NoName
until_trap = record { case = until_row; breaks = λ promise. neither begun_at_once refl refl (promise both until_row.honest) }
