-- A record of denial between two names that a signer made up (RFC 4470): it is honest, and denies a name in between.
use Rattle.std.proofs.Common.{◌≡◌, ◌||◌, ℕ, false, true, List, [], ◌∷◌, drop, refl, sym, ap, ◌∙◌, inl, inr}
use Rattle.std.specs.Prelude.{Contains, if◌then◌else◌}
use Rattle.std.proofs.lemmas.Bool.{and_parts, or_cases}
use Rattle.definitions.specs.Bitmap.{bitmap, octet_of, window_count, window_size}
use Rattle.definitions.specs.Covering.{before, covers}
use Rattle.definitions.specs.Limits.{pointer_limit}
use Rattle.definitions.specs.Name.{Name, at_or_above, low, same}
use Rattle.definitions.specs.Reading.{most_heads}
use Rattle.definitions.specs.Signing.{Fields, signed_octets}
use Rattle.definitions.specs.Zone.{NoName, Zone, exists}
use Rattle.definitions.specs.ZoneChain.{Nsec, nsec_names}
use Rattle.definitions.proofs.Members.{in_contained}
use Rattle.definitions.proofs.NameLaws.{apex_first, name_cmp_total, same_is_equal}
use Rattle.denial_laws.specs.NsecRules.{has_more, shown_owner, shows}
use Rattle.denial_laws.specs.Truth.{MadeUp, SaysTruly}
use Rattle.denial_laws.proofs.NameFacts.{above_both, above_cases, before_less, not_after, same_names}
use Rattle.messages.specs.Message.{owner_at}
use Rattle.answer_judge.specs.Honest.{sought_of_answer}
use Rattle.answer_judge.specs.Versions.{IsMade, OfMade, zone_in}
use Rattle.answer_judge.specs.Judging.{Says}
use Rattle.answer_terms.specs.Hashing.{hash_in}
use Rattle.counterexamples_honest.specs.Premises.{IsHonestCase, all}
use Rattle.counterexamples_honest.specs.Rows.{between, made_up, making_up, next_made_up, next_of_made_up, of_made_up, own_keys}
use Rattle.counterexamples_honest.specs.World.{ds, example, fields, own_key, plain}
use Rattle.counterexamples_honest.proofs.Dealt.{at_place, no_signature, signed, small_octets, unforged}
use Rattle.counterexamples_honest.proofs.Handed.{name, own_flags, question}
use Rattle.counterexamples_honest.proofs.Premises.{all_honest}
use Rattle.counterexamples_honest.proofs.OwnKeys.{example_is, in_order, item, own_keys_known, own_keys_unforged, read_of, signed_from, small_is, small_served}
use Rattle.counterexamples_honest.proofs.Row.{AnswerUnforged, Row, SignedOf, handed_in, of_version, own_published}

abbrev made_up_at : Row
made_up_at = record {
  set = ds ∷ [];
  keys = own_keys;
  answer = of_made_up.answer_bytes;
  name = between;
  rtype = 1;
  versions = making_up ∷ [];
  signed_keys = own_key ∷ [];
  signings = signed_from making_up 1000 2000 ∷ [];
}

abbrev z : Zone
z = zone_in example making_up

-- ---- the record says what is so

free : (w : Name) → Contains (nsec_names z) w → covers example made_up next_made_up w ≡ false
free w c = elim (in_contained (nsec_names z) w c.0 c.1 c.2) [
  | inl e ↦ ap (covers example made_up next_made_up) e
  | inr i ↦ elim i [ inl e ↦ ap (covers example made_up next_made_up) e | inr none ↦ absurd none ]
]

-- what it shows above a name that it covers is the apex
apex_there : (p : Name) → at_or_above p example ≡ true → at_or_above example p ≡ true → exists z (low p) ≡ true
apex_there p up a = ap (exists z) (same_names p example (above_both p example up a))

not_next : (p x : Name) → before x next_made_up ≡ true → at_or_above p x ≡ true → same p next_made_up ≡ true → ⊥
not_next p x b up s = apex_first p x up (name_cmp_total.congr p next_made_up x (same_is_equal p next_made_up s) ∙ not_after x next_made_up (before_less x next_made_up b))

module _ (bits : List ℕ) (none : has_more bits ≡ false) (p x : Name) (c : covers example made_up next_made_up x ≡ true) (up : at_or_above p x ≡ true) (a : at_or_above example p ≡ true) where
  apex_shown : shows (record { owner = made_up; next = next_made_up; bits = bits }) p ≡ true → exists z (low p) ≡ true
  apex_shown h =
      let behind : before x next_made_up ≡ true = (and_parts (before made_up x) _ c).1 in
      elim (or_cases (at_or_above p (shown_owner (record { owner = made_up; next = next_made_up; bits = bits }))) (at_or_above p next_made_up) h) [
        | inl b ↦ apex_there p (ap (λ m. at_or_above p (if m then made_up else drop 1 made_up)) (sym none) ∙ b) a
        | inr b ↦ elim (above_cases p next_made_up b) [
          | inl s ↦ absurd (not_next p x behind up s)
          | inr s ↦ apex_there p s a
        ]
      ]

made_up_says : SaysTruly z between (record { owner = made_up; next = next_made_up; bits = bitmap (46 ∷ 47 ∷ []) })
unfolding octet_of window_size window_count
made_up_says = record {
  inside = refl;
  direct = refl;
  owner = MadeUp (record { gone = refl; bare = refl; untold = λ h. refl });
  gap = free;
  shown = λ p x asked c up a h. apex_shown (bitmap (46 ∷ 47 ∷ [])) refl p x c up a h;
}

made_up_truly : IsMade z (hash_in plain.hash Nsec) Nsec between (record { owner = made_up; rtype = 47; datas = next_of_made_up ∷ [] })
made_up_truly = record { rtype_is = refl; next = next_made_up; bits = bitmap (46 ∷ 47 ∷ []); named = name next_made_up refl refl; datas_are = refl; says = made_up_says }

-- ---- the message

abbrev made_up_fields : Fields
made_up_fields = fields 47 2 3600 1000 2000 own_key

made_up_unforged : AnswerUnforged made_up_at
unfolding pointer_limit most_heads owner_at octet_of window_size window_count
made_up_unforged =
    let m = of_made_up.answer_bytes in
    unforged plain (handed_in made_up_at) (own_key ∷ []) (SignedOf made_up_at) (sought_of_answer pointer_limit (handed_in made_up_at)) m (read_of m) refl (
      no_signature plain 1500 (own_key ∷ []) (SignedOf made_up_at) m (item m 0) refl,
      (
        signed 1500 (SignedOf made_up_at) m (item m 1) made_up_fields (signed_octets made_up_fields made_up 1 (next_of_made_up ∷ [])) refl
            (of_version made_up_at making_up made_up 47 2 3600 1000 2000 (next_of_made_up ∷ []) (at_place made_up_at.signings (signed_from making_up 1000 2000) 0 refl refl) (name made_up refl refl) refl
            (OfMade (at_place making_up.made (record { owner = made_up; rtype = 47; datas = next_of_made_up ∷ [] }) 0 refl refl)) refl refl refl refl refl refl),
        tt,
      ),
    )

pub made_up_row : IsHonestCase plain of_made_up (making_up ∷ []) (Says NoName)
unfolding pointer_limit most_heads owner_at octet_of window_size window_count
made_up_row = record {
  honest = all_honest plain of_made_up (making_up ∷ []) (record {
    published = own_key ∷ [];
    signed_keys = own_key ∷ [];
    signings = made_up_at.signings;
    apex_is = example_is;
    one = λ e. cc;
    versions_are = (record { records_are = small_is; in_order = in_order all z small_served; few = tt; chain = tt; apart = tt; truly = (made_up_truly, tt) }, tt);
    asked_is = question between 1 (name between refl refl) refl;
    flags_are = own_flags;
    keys_octets = small_octets own_keys refl;
    answer_octets = small_octets of_made_up.answer_bytes refl;
    of_versions = (at_place (making_up ∷ []) making_up 0 refl refl, tt);
    ds_some = λ e. cc;
    keys_published = own_published;
    settled = inl refl;
    keys_unforged = own_keys_unforged of_made_up refl made_up_at.signings;
    keys_known = own_keys_known of_made_up.answer_bytes between 1;
    answer_unforged = made_up_unforged;
  });
  answers = refl;
}
