-- Zones that are not in order, of which a judge says a verdict of a name that is an alias, or one that the zone does not have.
use Rattle.std.proofs.Common.{◌≡◌, true, false, [], ◌∷◌, refl, sym, ap, ◌∙◌, inl, inr, arith}
use Rattle.std.specs.Prelude.{◌==◌, Contains}
use Rattle.std.proofs.lemmas.Bool.{and_parts, false_from_ne_true, false≢true}
use Rattle.definitions.specs.Bitmap.{octet_of, window_count, window_size}
use Rattle.definitions.specs.Limits.{pointer_limit}
use Rattle.definitions.specs.Name.{Name, labels_eq, low, strictly_above, wire}
use Rattle.definitions.specs.Reading.{most_heads}
use Rattle.definitions.specs.Signing.{Fields, signed_octets}
use Rattle.definitions.specs.Zone.{Delegated, NoName, Records, Rr, Zone, apex_of, has, is_delegation, is_of, owners}
use Rattle.definitions.specs.ZoneChain.{nsec_names}
use Rattle.definitions.proofs.Members.{any_of}
use Rattle.messages.specs.Message.{owner_at}
use Rattle.messages.proofs.Lists.{Has}
use Rattle.messages.proofs.ZoneNames.{same_labels}
use Rattle.answer_judge.specs.Honest.{sought_of_answer}
use Rattle.answer_judge.specs.Versions.{OfChain, OfZone, zone_in}
use Rattle.answer_judge_keys.proofs.GivenSorted.{in_has}
use Rattle.answer_judge.proofs.GivenLists.{has_contained}
use Rattle.counterexamples_honest.specs.Premises.{IsServableIn, SaysFalsely, without_alone, without_childless, without_ordinary, without_uncut}
use Rattle.counterexamples_honest.specs.Rows.{address_below, below_redirect, beside_alias, chained_by_hand, cut_answer, cut_redirect, denied_by_hand, next_handed, next_of_cut, of_alias, of_cut_redirect, of_hand, of_redirected, own_keys}
use Rattle.counterexamples_honest.specs.World.{a, address, b, ds, example, fields, own_key, plain, x, x_b}
use Rattle.counterexamples_honest.proofs.Dealt.{at_place, no_signature, signed, unforged}
use Rattle.counterexamples_honest.proofs.Handed.{delegation, opaque}
use Rattle.counterexamples_honest.proofs.OwnKeys.{a_is, b_is, example_is, item, no_type, own_keys_known, own_keys_unforged, read_of, signed_from, soa_is, x_b_is, x_is}
use Rattle.counterexamples_honest.proofs.Row.{AnswerUnforged, IsRow, Row, SignedOf, alias_in_one, handed_in, honest_in, not_one, of_version, own_published}

-- ---- an address beside an alias

abbrev alias_at : Row
alias_at = record {
  set = ds ∷ [];
  keys = own_keys;
  answer = of_alias.answer_bytes;
  name = a;
  rtype = 1;
  versions = beside_alias ∷ [];
  signed_keys = own_key ∷ [];
  signings = signed_from beside_alias 1000 2000 ∷ [];
}

-- a zone without DNAME has none at a delegation, and nothing below one
alias_order : IsServableIn without_alone (zone_in example beside_alias)
alias_order =
    let z : Zone = zone_in example beside_alias in
    record {
      apex = at_place (owners z) (apex_of z) 0 refl refl;
      typed = (omega arith, (omega arith, (omega arith, tt)));
      ordinary = (refl, (refl, (refl, tt)));
      real = (refl, (refl, (refl, tt)));
      stars = (refl, (refl, (refl, tt)));
      alone = tt;
      uncut = λ o h. absurd (no_type z 39 refl o h);
      childless = λ o below h c. absurd (no_type z 39 refl o h);
    }

alias_is : IsRow without_alone alias_at
alias_is = record {
  name_is = a_is;
  type_fits = refl;
  keys_octets = refl;
  answer_octets = refl;
  some = λ e. cc;
  versions_are = (record { records_are = (soa_is, (opaque a 5 (wire x) a_is refl, (opaque a 1 address a_is refl, tt))); in_order = alias_order; few = tt; chain = tt; truly = λ _. tt }, tt);
  of_versions = (at_place (beside_alias ∷ []) beside_alias 0 refl refl, tt);
}

abbrev address_fields : Fields
address_fields = fields 1 2 3600 1000 2000 own_key

alias_unforged : AnswerUnforged alias_at
unfolding pointer_limit most_heads owner_at
alias_unforged =
    let m = alias_at.answer in
    unforged plain (handed_in alias_at) (own_key ∷ []) (SignedOf alias_at) (sought_of_answer pointer_limit (handed_in alias_at)) m (read_of m) refl (
      no_signature plain 1500 (own_key ∷ []) (SignedOf alias_at) m (item m 0) refl,
      (
        signed 1500 (SignedOf alias_at) m (item m 1) address_fields (signed_octets address_fields a 1 (address ∷ [])) refl
            (of_version alias_at beside_alias a 1 2 3600 1000 2000 (address ∷ []) (at_place alias_at.signings (signed_from beside_alias 1000 2000) 0 refl refl) a_is refl (OfZone refl refl) refl refl refl refl refl refl),
        tt,
      ),
    )

pub alias_row : SaysFalsely without_alone
unfolding pointer_limit most_heads owner_at
alias_row = record {
  answers = plain;
  judge_input = of_alias;
  versions = beside_alias ∷ [];
  honest = honest_in without_alone alias_at alias_is (λ e. cc) own_published (inl refl) (own_keys_unforged (handed_in alias_at) refl alias_at.signings) (own_keys_known alias_at.answer a 1) alias_unforged (tt, tt);
  said = Records (address ∷ []);
  says = refl;
  otherwise = alias_in_one of_alias beside_alias (Records (address ∷ [])) refl;
}

-- ---- an address below a DNAME

abbrev below_at : Row
below_at = record {
  set = ds ∷ [];
  keys = own_keys;
  answer = address_below;
  name = x_b;
  rtype = 1;
  versions = below_redirect ∷ [];
  signed_keys = own_key ∷ [];
  signings = signed_from below_redirect 1000 2000 ∷ [];
}

below_order : IsServableIn without_childless (zone_in example below_redirect)
below_order =
    let z : Zone = zone_in example below_redirect in
    record {
      apex = at_place (owners z) (apex_of z) 0 refl refl;
      typed = (omega arith, (omega arith, (omega arith, tt)));
      ordinary = (refl, (refl, (refl, tt)));
      real = (refl, (refl, (refl, tt)));
      stars = (refl, (refl, (refl, tt)));
      alone = λ o t h k. absurd (no_type z 5 refl o h);
      uncut = λ o h. false_from_ne_true (is_delegation z o) (λ e. no_type z 2 refl o (and_parts (has z o 2) (strictly_above (apex_of z) o) e).0);
      childless = tt;
    }

below_is : IsRow without_childless below_at
below_is = record {
  name_is = x_b_is;
  type_fits = refl;
  keys_octets = refl;
  answer_octets = refl;
  some = λ e. cc;
  versions_are = (record { records_are = (soa_is, (opaque b 39 (wire x) b_is refl, (opaque x_b 1 address x_b_is refl, tt))); in_order = below_order; few = tt; chain = tt; truly = λ _. tt }, tt);
  of_versions = (at_place (below_redirect ∷ []) below_redirect 0 refl refl, tt);
}

abbrev below_fields : Fields
below_fields = fields 1 3 3600 1000 2000 own_key

below_unforged : AnswerUnforged below_at
unfolding pointer_limit most_heads owner_at
below_unforged =
    let m = address_below in
    unforged plain (handed_in below_at) (own_key ∷ []) (SignedOf below_at) (sought_of_answer pointer_limit (handed_in below_at)) m (read_of m) refl (
      no_signature plain 1500 (own_key ∷ []) (SignedOf below_at) m (item m 0) refl,
      (
        signed 1500 (SignedOf below_at) m (item m 1) below_fields (signed_octets below_fields x_b 1 (address ∷ [])) refl
            (of_version below_at below_redirect x_b 1 3 3600 1000 2000 (address ∷ []) (at_place below_at.signings (signed_from below_redirect 1000 2000) 0 refl refl) x_b_is refl (OfZone refl refl) refl refl refl refl refl refl),
        tt,
      ),
    )

pub below_row : SaysFalsely without_childless
unfolding pointer_limit most_heads owner_at
below_row = record {
  answers = plain;
  judge_input = of_redirected;
  versions = below_redirect ∷ [];
  honest = honest_in without_childless below_at below_is (λ e. cc) own_published (inl refl) (own_keys_unforged (handed_in below_at) refl below_at.signings) (own_keys_known address_below x_b 1) below_unforged (tt, tt);
  said = Records (address ∷ []);
  says = refl;
  otherwise = alias_in_one of_redirected below_redirect (Records (address ∷ [])) refl;
}

-- ---- a DNAME at a delegation

abbrev cut_at : Row
cut_at = record {
  set = ds ∷ [];
  keys = own_keys;
  answer = cut_answer;
  name = x_b;
  rtype = 1;
  versions = cut_redirect ∷ [];
  signed_keys = own_key ∷ [];
  signings = signed_from cut_redirect 1000 2000 ∷ [];
}

-- the one owner of a DNAME
only_redirect : (o : Name) → has (zone_in example cut_redirect) o 39 ≡ true → o ≡ b
only_redirect o h =
    let z : Zone = zone_in example cut_redirect in
    let r = any_of (is_of o 39) z.records h in
    let parts = and_parts (labels_eq (low r.0.spelled) o) (r.0.rtype == 39) r.1.1 in
    go r.0 (in_has z.records r.0 r.1.0) parts.1 (same_labels (low r.0.spelled) o parts.0)
  where
    go : (r : Rr) → Has (zone_in example cut_redirect).records r → (r.rtype == 39) ≡ true → low r.spelled ≡ o → o ≡ b
    go r (inl e) k n = absurd (false≢true (ap (λ (y : Rr). y.rtype == 39) (sym e) ∙ k))
    go r (inr (inl e)) k n = absurd (false≢true (ap (λ (y : Rr). y.rtype == 39) (sym e) ∙ k))
    go r (inr (inr (inl e))) k n = sym n ∙ ap (λ (y : Rr). low y.spelled) e
    go r (inr (inr (inr none))) k n = absurd none

none_below_b : (below : Name) → Contains (owners (zone_in example cut_redirect)) below → strictly_above b below ≡ false
none_below_b below c = go (has_contained (owners (zone_in example cut_redirect)) below c)
  where
    go : Has (owners (zone_in example cut_redirect)) below → strictly_above b below ≡ false
    go (inl e) = ap (strictly_above b) e
    go (inr (inl e)) = ap (strictly_above b) e
    go (inr (inr (inl e))) = ap (strictly_above b) e
    go (inr (inr (inr none))) = absurd none

cut_order : IsServableIn without_uncut (zone_in example cut_redirect)
cut_order =
    let z : Zone = zone_in example cut_redirect in
    record {
      apex = at_place (owners z) (apex_of z) 0 refl refl;
      typed = (omega arith, (omega arith, (omega arith, tt)));
      ordinary = (refl, (refl, (refl, tt)));
      real = (refl, (refl, (refl, tt)));
      stars = (refl, (refl, (refl, tt)));
      alone = λ o t h k. absurd (no_type z 5 refl o h);
      uncut = tt;
      childless = λ o below h c. ap (λ n. strictly_above n below) (only_redirect o h) ∙ none_below_b below c;
    }

cut_is : IsRow without_uncut cut_at
unfolding octet_of window_size window_count
cut_is = record {
  name_is = x_b_is;
  type_fits = refl;
  keys_octets = refl;
  answer_octets = refl;
  some = λ e. cc;
  versions_are = (record { records_are = (soa_is, (delegation b x b_is x_is refl, (opaque b 39 (wire x) b_is refl, tt))); in_order = cut_order; few = tt; chain = tt; truly = λ _. tt }, tt);
  of_versions = (at_place (cut_redirect ∷ []) cut_redirect 0 refl refl, tt);
}

abbrev cut_fields : Fields
cut_fields = fields 47 2 0 1000 2000 own_key

cut_unforged : AnswerUnforged cut_at
unfolding pointer_limit most_heads owner_at octet_of window_size window_count
cut_unforged =
    let m = cut_answer in
    unforged plain (handed_in cut_at) (own_key ∷ []) (SignedOf cut_at) (sought_of_answer pointer_limit (handed_in cut_at)) m (read_of m) refl (
      no_signature plain 1500 (own_key ∷ []) (SignedOf cut_at) m (item m 0) refl,
      (
        signed 1500 (SignedOf cut_at) m (item m 1) cut_fields (signed_octets cut_fields b 1 (next_of_cut ∷ [])) refl
            (of_version cut_at cut_redirect b 47 2 0 1000 2000 (next_of_cut ∷ []) (at_place cut_at.signings (signed_from cut_redirect 1000 2000) 0 refl refl) b_is refl
            (OfChain (record { there = at_place (nsec_names (zone_in example cut_redirect)) b 1 refl refl; rtype_is = refl; next = example; next_is = refl; datas_are = refl })) refl refl refl refl refl refl),
        tt,
      ),
    )

pub cut_row : SaysFalsely without_uncut
unfolding pointer_limit most_heads owner_at octet_of window_size window_count
cut_row = record {
  answers = plain;
  judge_input = of_cut_redirect;
  versions = cut_redirect ∷ [];
  honest = honest_in without_uncut cut_at cut_is (λ e. cc) own_published (inl refl) (own_keys_unforged (handed_in cut_at) refl cut_at.signings) (own_keys_known cut_answer x_b 1) cut_unforged (tt, tt);
  said = Delegated;
  says = refl;
  otherwise = alias_in_one of_cut_redirect cut_redirect Delegated refl;
}

-- ---- an NSEC record that is handed in as data

abbrev hand_at : Row
hand_at = record {
  set = ds ∷ [];
  keys = own_keys;
  answer = denied_by_hand;
  name = a;
  rtype = 1;
  versions = chained_by_hand ∷ [];
  signed_keys = own_key ∷ [];
  signings = signed_from chained_by_hand 1000 2000 ∷ [];
}

hand_order : IsServableIn without_ordinary (zone_in example chained_by_hand)
unfolding octet_of window_size window_count
hand_order =
    let z : Zone = zone_in example chained_by_hand in
    record {
      apex = at_place (owners z) (apex_of z) 0 refl refl;
      typed = (omega arith, (omega arith, (omega arith, tt)));
      ordinary = tt;
      real = (refl, (refl, (refl, tt)));
      stars = (refl, (refl, (refl, tt)));
      alone = λ o t h k. absurd (no_type z 5 refl o h);
      uncut = λ o h. absurd (no_type z 39 refl o h);
      childless = λ o below h c. absurd (no_type z 39 refl o h);
    }

hand_is : IsRow without_ordinary hand_at
unfolding octet_of window_size window_count
hand_is = record {
  name_is = a_is;
  type_fits = refl;
  keys_octets = refl;
  answer_octets = refl;
  some = λ e. cc;
  versions_are = (record { records_are = (soa_is, (opaque a 1 address a_is refl, (opaque example 47 next_handed example_is refl, tt))); in_order = hand_order; few = tt; chain = tt; truly = λ _. tt }, tt);
  of_versions = (at_place (chained_by_hand ∷ []) chained_by_hand 0 refl refl, tt);
}

abbrev hand_fields : Fields
hand_fields = fields 47 1 3600 1000 2000 own_key

hand_unforged : AnswerUnforged hand_at
unfolding pointer_limit most_heads owner_at octet_of window_size window_count
hand_unforged =
    let m = denied_by_hand in
    unforged plain (handed_in hand_at) (own_key ∷ []) (SignedOf hand_at) (sought_of_answer pointer_limit (handed_in hand_at)) m (read_of m) refl (
      no_signature plain 1500 (own_key ∷ []) (SignedOf hand_at) m (item m 0) refl,
      (
        signed 1500 (SignedOf hand_at) m (item m 1) hand_fields (signed_octets hand_fields example 1 (next_handed ∷ [])) refl
            (of_version hand_at chained_by_hand example 47 1 3600 1000 2000 (next_handed ∷ []) (at_place hand_at.signings (signed_from chained_by_hand 1000 2000) 0 refl refl) example_is refl (OfZone refl refl) refl refl refl refl refl refl),
        tt,
      ),
    )

pub hand_row : SaysFalsely without_ordinary
unfolding pointer_limit most_heads owner_at octet_of window_size window_count
hand_row = record {
  answers = plain;
  judge_input = of_hand;
  versions = chained_by_hand ∷ [];
  honest = honest_in without_ordinary hand_at hand_is (λ e. cc) own_published (inl refl) (own_keys_unforged (handed_in hand_at) refl hand_at.signings) (own_keys_known denied_by_hand a 1) hand_unforged (tt, tt);
  said = NoName;
  says = refl;
  otherwise = not_one of_hand chained_by_hand NoName (λ e. cc);
}
