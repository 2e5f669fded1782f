-- Records of denial that were made for questions: one that says what is not so, and one that denies a name which is not there; and a
-- zone with a record of type NXNAME.
use Rattle.std.proofs.Common.{◌≡◌, ◌⊎◌, ℕ, false, true, List, [], ◌∷◌, Some, refl, sym, ap, ◌∙◌, inl, inr, arith}
use Rattle.std.specs.Prelude.{Contains}
use Rattle.std.proofs.lemmas.Bool.{false≢true}
use Rattle.definitions.specs.Bitmap.{bitmap, octet_of, window_count, window_size}
use Rattle.definitions.specs.Covering.{covers}
use Rattle.definitions.specs.Limits.{pointer_limit}
use Rattle.definitions.specs.Name.{Name, low}
use Rattle.definitions.specs.Reading.{most_heads}
use Rattle.definitions.specs.Signing.{Fields, signed_octets}
use Rattle.definitions.specs.Zone.{NoName, Zone, apex_of, ce, exists, owners, star_under}
use Rattle.definitions.specs.ZoneChain.{Nsec, nsec_names}
use Rattle.definitions.proofs.Members.{in_contained}
use Rattle.denial_laws.specs.Truth.{Concerns, SaysTruly, Denied, concerned}
use Rattle.denial_laws.proofs.NameFacts.{covers-low}
use Rattle.messages.specs.Message.{owner_at}
use Rattle.answer_judge.specs.Honest.{sought_of_answer}
use Rattle.answer_judge.specs.Versions.{IsMade, OfChain, OfMade, zone_in}
use Rattle.answer_judge.specs.Judging.{Says}
use Rattle.answer_terms.specs.Hashing.{hash_in}
use Rattle.counterexamples_honest.specs.Premises.{IsHonestCase, IsServableIn, SaysFalsely, all, without_denials_true, without_real}
use Rattle.counterexamples_honest.specs.Rows.{denied_by_hand, denying, lied, named, next_handed, next_of_denied, next_of_named, of_denied, of_hand, of_named, own_keys}
use Rattle.counterexamples_honest.specs.World.{a, b, ds, example, fields, own_key, plain, star}
use Rattle.counterexamples_honest.proofs.Dealt.{at_place, no_signature, signed, small_octets, unforged}
use Rattle.counterexamples_honest.proofs.Handed.{name, opaque, own_flags, question}
use Rattle.counterexamples_honest.proofs.Premises.{all_honest}
use Rattle.counterexamples_honest.proofs.OwnKeys.{a_is, b_is, example_is, in_order, item, no_type, own_keys_known, own_keys_unforged, read_of, signed_from, small_is, small_served, soa_is}
use Rattle.counterexamples_honest.proofs.Row.{AnswerUnforged, IsInOrder, IsRow, Row, SignedOf, handed_in, honest_in, not_one, of_version, own_published}

abbrev lied_at : Row
lied_at = record {
  set = ds ∷ [];
  keys = own_keys;
  answer = denied_by_hand;
  name = a;
  rtype = 1;
  versions = lied ∷ [];
  signed_keys = own_key ∷ [];
  signings = signed_from lied 1000 2000 ∷ [];
}

lied_row : IsInOrder without_denials_true lied
lied_row = record { records_are = small_is; in_order = in_order without_denials_true (zone_in example lied) small_served; few = tt; chain = tt; truly = λ _. tt }

lied_is : IsRow without_denials_true lied_at
unfolding octet_of window_size window_count
lied_is = record { name_is = a_is; type_fits = refl; keys_octets = refl; answer_octets = refl; some = λ e. cc; versions_are = (lied_row, tt); of_versions = (at_place (lied ∷ []) lied 0 refl refl, tt) }

abbrev lied_fields : Fields
lied_fields = fields 47 1 3600 1000 2000 own_key

lied_unforged : AnswerUnforged lied_at
unfolding pointer_limit most_heads owner_at octet_of window_size window_count
lied_unforged =
    let m = denied_by_hand in
    unforged plain (handed_in lied_at) (own_key ∷ []) (SignedOf lied_at) (sought_of_answer pointer_limit (handed_in lied_at)) m (read_of m) refl (
      no_signature plain 1500 (own_key ∷ []) (SignedOf lied_at) m (item m 0) refl,
      (
        signed 1500 (SignedOf lied_at) m (item m 1) lied_fields (signed_octets lied_fields example 1 (next_handed ∷ [])) refl
            (of_version lied_at lied example 47 1 3600 1000 2000 (next_handed ∷ []) (at_place lied_at.signings (signed_from lied 1000 2000) 0 refl refl) example_is refl
            (OfMade (at_place lied.made (record { owner = example; rtype = 47; datas = next_handed ∷ [] }) 0 refl refl)) refl refl refl refl refl refl),
        tt,
      ),
    )

pub lied_falsely : SaysFalsely without_denials_true
unfolding pointer_limit most_heads owner_at octet_of window_size window_count
lied_falsely = record {
  answers = plain;
  judge_input = of_hand;
  versions = lied ∷ [];
  honest = honest_in without_denials_true lied_at lied_is (λ e. cc) own_published (inl refl) (own_keys_unforged (handed_in lied_at) refl lied_at.signings) (own_keys_known denied_by_hand a 1) lied_unforged (tt, tt);
  said = NoName;
  says = refl;
  otherwise = not_one of_hand lied NoName (λ e. cc);
}

-- ---- one that denies a name

abbrev denied_at : Row
denied_at = record {
  set = ds ∷ [];
  keys = own_keys;
  answer = of_denied.answer_bytes;
  name = b;
  rtype = 1;
  versions = denying ∷ [];
  signed_keys = own_key ∷ [];
  signings = signed_from denying 1000 2000 ∷ [];
}

abbrev z : Zone
z = zone_in example denying

abbrev below : Name
below = (0 ∷ []) ∷ b

-- the names that the question concerns
one_of : (n : Name) → Concerns z b n → (low n ≡ b) ⊎ ((low n ≡ example) ⊎ (low n ≡ star))
one_of n c = elim (in_contained (concerned example b) (low n) c.0 c.1 c.2) [
  | inl e ↦ inl e
  | inr i ↦ elim i [
    | inl e ↦ inr (inl e)
    | inr j ↦ elim j [ inl e ↦ inr (inr e) | inr none ↦ absurd none ]
  ]
]

silent : (n : Name) → Concerns z b n → covers example b below n ≡ false
silent n c = sym (covers-low example b below n) ∙ (elim (one_of n c) [
  | inl e ↦ ap (covers example b below) e
  | inr i ↦ elim i [ inl e ↦ ap (covers example b below) e | inr e ↦ ap (covers example b below) e ]
])

free : (w : Name) → Contains (nsec_names z) w → covers example b below w ≡ false
free w c = elim (in_contained (nsec_names z) w c.0 c.1 c.2) [
  | inl e ↦ ap (covers example b below) e
  | inr i ↦ elim i [ inl e ↦ ap (covers example b below) e | inr none ↦ absurd none ]
]

no_star : (e : Name) → ce z b ≡ Some e → exists z (star_under e) ≡ false
no_star e c = let same : Some e ≡ Some example = sym c in let apex : e ≡ example = cc in ap (λ n. exists z (star_under n)) apex

denied_says : SaysTruly z b (record { owner = b; next = below; bits = bitmap (46 ∷ 47 ∷ 128 ∷ []) })
unfolding octet_of window_size window_count
denied_says = record {
  inside = refl;
  direct = refl;
  owner = Denied (record { nxname = refl; plain = refl; missing = record { missing = record { uncut = refl; gone = refl }; gone = no_star } });
  gap = free;
  shown = λ p n asked c up i h. absurd (false≢true (sym (silent n asked) ∙ c));
}

denied_truly : IsMade z (hash_in plain.hash Nsec) Nsec b (record { owner = b; rtype = 47; datas = next_of_denied ∷ [] })
denied_truly = record { rtype_is = refl; next = below; bits = bitmap (46 ∷ 47 ∷ 128 ∷ []); named = name below refl refl; datas_are = refl; says = denied_says }

abbrev denied_fields : Fields
denied_fields = fields 47 2 3600 1000 2000 own_key

denied_unforged : AnswerUnforged denied_at
unfolding pointer_limit most_heads owner_at octet_of window_size window_count
denied_unforged =
    let m = of_denied.answer_bytes in
    unforged plain (handed_in denied_at) (own_key ∷ []) (SignedOf denied_at) (sought_of_answer pointer_limit (handed_in denied_at)) m (read_of m) refl (
      no_signature plain 1500 (own_key ∷ []) (SignedOf denied_at) m (item m 0) refl,
      (
        signed 1500 (SignedOf denied_at) m (item m 1) denied_fields (signed_octets denied_fields b 1 (next_of_denied ∷ [])) refl
            (of_version denied_at denying b 47 2 3600 1000 2000 (next_of_denied ∷ []) (at_place denied_at.signings (signed_from denying 1000 2000) 0 refl refl) b_is refl
            (OfMade (at_place denying.made (record { owner = b; rtype = 47; datas = next_of_denied ∷ [] }) 0 refl refl)) refl refl refl refl refl refl),
        tt,
      ),
    )

pub denied_row : IsHonestCase plain of_denied (denying ∷ []) (Says NoName)
unfolding pointer_limit most_heads owner_at octet_of window_size window_count
denied_row = record {
  honest = all_honest plain of_denied (denying ∷ []) (record {
    published = own_key ∷ [];
    signed_keys = own_key ∷ [];
    signings = denied_at.signings;
    apex_is = example_is;
    one = λ e. cc;
    versions_are = (record { records_are = small_is; in_order = in_order all z small_served; few = tt; chain = tt; apart = tt; truly = (denied_truly, tt) }, tt);
    asked_is = question b 1 b_is refl;
    flags_are = own_flags;
    keys_octets = small_octets own_keys refl;
    answer_octets = small_octets of_denied.answer_bytes refl;
    of_versions = (at_place (denying ∷ []) denying 0 refl refl, tt);
    ds_some = λ e. cc;
    keys_published = own_published;
    settled = inl refl;
    keys_unforged = own_keys_unforged of_denied refl denied_at.signings;
    keys_known = own_keys_known of_denied.answer_bytes b 1;
    answer_unforged = denied_unforged;
  });
  answers = refl;
}

-- ---- a zone with a record of type NXNAME

abbrev named_at : Row
named_at = record {
  set = ds ∷ [];
  keys = own_keys;
  answer = of_named.answer_bytes;
  name = a;
  rtype = 1;
  versions = named ∷ [];
  signed_keys = own_key ∷ [];
  signings = signed_from named 1000 2000 ∷ [];
}

named_order : IsServableIn without_real (zone_in example named)
named_order =
    let n : Zone = zone_in example named in
    record {
      apex = at_place (owners n) (apex_of n) 0 refl refl;
      typed = (omega arith, (omega arith, tt));
      ordinary = (refl, (refl, tt));
      real = tt;
      stars = (refl, (refl, tt));
      alone = λ o t h k. absurd (no_type n 5 refl o h);
      uncut = λ o h. absurd (no_type n 39 refl o h);
      childless = λ o under h c. absurd (no_type n 39 refl o h);
    }

named_is : IsRow without_real named_at
unfolding octet_of window_size window_count
named_is = record {
  name_is = a_is;
  type_fits = refl;
  keys_octets = refl;
  answer_octets = refl;
  some = λ e. cc;
  versions_are = (record { records_are = (soa_is, (opaque a 128 (1 ∷ []) a_is refl, tt)); in_order = named_order; few = tt; chain = tt; truly = λ _. tt }, tt);
  of_versions = (at_place (named ∷ []) named 0 refl refl, tt);
}

abbrev named_fields : Fields
named_fields = fields 47 2 0 1000 2000 own_key

named_unforged : AnswerUnforged named_at
unfolding pointer_limit most_heads owner_at octet_of window_size window_count
named_unforged =
    let m = of_named.answer_bytes in
    unforged plain (handed_in named_at) (own_key ∷ []) (SignedOf named_at) (sought_of_answer pointer_limit (handed_in named_at)) m (read_of m) refl (
      no_signature plain 1500 (own_key ∷ []) (SignedOf named_at) m (item m 0) refl,
      (
        signed 1500 (SignedOf named_at) m (item m 1) named_fields (signed_octets named_fields a 1 (next_of_named ∷ [])) refl
            (of_version named_at named a 47 2 0 1000 2000 (next_of_named ∷ []) (at_place named_at.signings (signed_from named 1000 2000) 0 refl refl) a_is refl
            (OfChain (record { there = at_place (nsec_names (zone_in example named)) a 1 refl refl; rtype_is = refl; next = example; next_is = refl; datas_are = refl })) refl refl refl refl refl refl),
        tt,
      ),
    )

pub named_row : SaysFalsely without_real
unfolding pointer_limit most_heads owner_at octet_of window_size window_count
named_row = record {
  answers = plain;
  judge_input = of_named;
  versions = named ∷ [];
  honest = honest_in without_real named_at named_is (λ e. cc) own_published (inl refl) (own_keys_unforged (handed_in named_at) refl named_at.signings) (own_keys_known of_named.answer_bytes a 1) named_unforged (tt, tt);
  said = NoName;
  says = refl;
  otherwise = not_one of_named named NoName (λ e. cc);
}
