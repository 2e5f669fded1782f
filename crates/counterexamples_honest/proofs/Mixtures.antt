-- Records of two versions of a zone together.
use Rattle.std.proofs.Common.{◌≡◌, ℕ, ◌+◌, List, [], ◌∷◌, eqb, refl, sym, ap, ◌∙◌, inl, inr}
use Rattle.std.specs.Prelude.{Contains}
use Rattle.std.proofs.lemmas.Bool.{false≢true}
use Rattle.definitions.specs.Bitmap.{octet_of, window_count, window_size}
use Rattle.definitions.specs.Limits.{pointer_limit}
use Rattle.definitions.specs.Reading.{most_heads}
use Rattle.definitions.specs.Signing.{Fields, signed_octets}
use Rattle.definitions.specs.Zone.{NoName}
use Rattle.definitions.specs.ZoneChain.{nsec_names}
use Rattle.messages.specs.Message.{owner_at}
use Rattle.messages.proofs.Lists.{Has}
use Rattle.answer_judge.specs.Honest.{IsSaidByOne, OneAtATime, Signing, sought_of_answer, verdict_of}
use Rattle.answer_judge.specs.Versions.{OfChain, Version, zone_in}
use Rattle.answer_judge.specs.Judging.{JudgeInput}
use Rattle.answer_judge.proofs.GivenLists.{has_contained}
use Rattle.counterexamples_honest.specs.Premises.{IsMixture, Premises, SaysFalsely, all, without_settled}
use Rattle.counterexamples_honest.specs.Rows.{first_version, mixed, mixed_answer, mixed_at_once, next_of_apex_later, next_of_b, own_keys, second_version}
use Rattle.counterexamples_honest.specs.World.{b, ds, example, fields, own_key, plain, x}
use Rattle.counterexamples_honest.proofs.Dealt.{at_place, no_signature, signed, unforged}
use Rattle.counterexamples_honest.proofs.OwnKeys.{b_is, example_is, first_is, first_served, in_order, item, own_keys_known, own_keys_unforged, read_of, second_is, second_served, signed_from, where_all, x_is}
use Rattle.counterexamples_honest.proofs.Premises.{all_honest}
use Rattle.counterexamples_honest.proofs.Row.{AnswerUnforged, IsInOrder, IsRow, Row, SignedOf, handed_in, honest_in, of_version, own_published}

abbrev pub both : List Version
both = first_version ∷ second_version ∷ []

-- the second version is signed at some second
abbrev mixed_row : ℕ → Row
mixed_row later = record {
  set = ds ∷ [];
  keys = own_keys;
  answer = mixed_answer later;
  name = x;
  rtype = 16;
  versions = both;
  signed_keys = own_key ∷ [];
  signings = signed_from first_version 1000 2000 ∷ signed_from second_version later (later + 1000) ∷ [];
}

pub first_row : (p : Premises) → IsInOrder p first_version
first_row p = record { records_are = first_is; in_order = in_order p (zone_in example first_version) first_served; few = tt; chain = tt; truly = λ _. where_all p.denials_true tt }

pub second_row : (p : Premises) → IsInOrder p second_version
second_row p = record { records_are = second_is; in_order = in_order p (zone_in example second_version) second_served; few = tt; chain = tt; truly = λ _. where_all p.denials_true tt }

pub of_first : Contains both first_version
of_first = at_place both first_version 0 refl refl

pub of_second : Contains both second_version
of_second = at_place both second_version 1 refl refl

-- neither version says that there is no such name
pub neither : (h : JudgeInput) → h.apex ≡ example → h.asked ≡ mixed.asked → IsSaidByOne h both NoName → ⊥
neither h apex asked s = go (has_contained both s.version s.there)
  where
    said : (v : Version) → v ≡ s.version → verdict_of mixed v ≡ NoName
    said v e = (λ i. verdict_of (record mixed { apex = sym apex i; asked = sym asked i }) (e i)) ∙ s.verdict_is

    go : Has both s.version → ⊥
    go (inl e) = let is = said first_version (sym e) in cc
    go (inr (inl e)) = let is = said second_version (sym e) in cc
    go (inr (inr none)) = none

-- ---- a hundred seconds apart

apart_is : IsRow all (mixed_row 1100)
unfolding octet_of window_size window_count
apart_is = record { name_is = x_is; type_fits = refl; keys_octets = refl; answer_octets = refl; some = λ e. cc; versions_are = (first_row all, (second_row all, tt)); of_versions = (of_first, (of_second, tt)) }

abbrev b_fields : Fields
b_fields = fields 47 2 0 1000 2000 own_key

abbrev apex_fields : ℕ → Fields
apex_fields later = fields 47 1 0 later (later + 1000) own_key

apart_unforged : AnswerUnforged (mixed_row 1100)
unfolding pointer_limit most_heads owner_at octet_of window_size window_count
apart_unforged =
    let r : Row = mixed_row 1100 in
    let m = mixed_answer 1100 in
    unforged plain (handed_in r) (own_key ∷ []) (SignedOf r) (sought_of_answer pointer_limit (handed_in r)) m (read_of m) refl (
      no_signature plain 1500 (own_key ∷ []) (SignedOf r) m (item m 0) refl,
      (
        signed 1500 (SignedOf r) m (item m 1) b_fields (signed_octets b_fields b 1 (next_of_b ∷ [])) refl
            (of_version r first_version b 47 2 0 1000 2000 (next_of_b ∷ []) (at_place r.signings (signed_from first_version 1000 2000) 0 refl refl) b_is refl
            (OfChain (record { there = at_place (nsec_names (zone_in example first_version)) b 2 refl refl; rtype_is = refl; next = example; next_is = refl; datas_are = refl })) refl refl refl refl refl refl),
        (
          no_signature plain 1500 (own_key ∷ []) (SignedOf r) m (item m 2) refl,
          (
            signed 1500 (SignedOf r) m (item m 3) (apex_fields 1100) (signed_octets (apex_fields 1100) example 1 (next_of_apex_later ∷ [])) refl
                (of_version r second_version example 47 1 0 1100 2100 (next_of_apex_later ∷ []) (at_place r.signings (signed_from second_version 1100 2100) 1 refl refl) example_is refl
                (OfChain (record { there = at_place (nsec_names (zone_in example second_version)) example 0 refl refl; rtype_is = refl; next = x; next_is = refl; datas_are = refl })) refl refl refl refl refl refl),
            tt,
          ),
        ),
      ),
    )

unlike_moments : ◌≡◌ {A = ℕ} 1000 1100 → ⊥
unlike_moments e = false≢true (ap (λ n. eqb n 1000) (sym e))

-- no two signings of one moment are of two versions
apart_at_a_time : OneAtATime (mixed_row 1100).signings
apart_at_a_time y z i j e = go (has_contained (mixed_row 1100).signings y i) (has_contained (mixed_row 1100).signings z j)
  where
    began : y.times.inception ≡ z.times.inception
    began = ap (λ (t : Rattle.answer_judge_facts.specs.Times.Times). t.inception) e

    go : Has (mixed_row 1100).signings y → Has (mixed_row 1100).signings z → y.version ≡ z.version
    go (inl k) (inl l) = ap (λ (s : Signing). s.version) (k ∙ sym l)
    go (inl k) (inr (inl l)) = absurd (unlike_moments (ap (λ (s : Signing). s.times.inception) (sym k) ∙ began ∙ ap (λ (s : Signing). s.times.inception) l))
    go (inl k) (inr (inr none)) = absurd none
    go (inr (inl k)) (inl l) = absurd (unlike_moments (ap (λ (s : Signing). s.times.inception) (sym l) ∙ sym began ∙ ap (λ (s : Signing). s.times.inception) k))
    go (inr (inl k)) (inr (inl l)) = ap (λ (s : Signing). s.version) (k ∙ sym l)
    go (inr (inl k)) (inr (inr none)) = absurd none
    go (inr (inr none)) other = absurd none

pub mixture : IsMixture plain mixed both NoName
unfolding pointer_limit most_heads owner_at octet_of window_size window_count
mixture = record {
  refused = record {
    honest = all_honest plain mixed both
        (honest_in all (mixed_row 1100) apart_is (λ e. cc) own_published (inr (inl (refl, apart_at_a_time)))
        (own_keys_unforged (handed_in (mixed_row 1100)) refl (mixed_row 1100).signings) (own_keys_known (mixed_answer 1100) x 16) apart_unforged (tt, (tt, tt)));
    answers = refl;
  };
  taken = refl;
  otherwise = neither mixed refl refl;
}

-- ---- at one moment

at_once_is : IsRow without_settled (mixed_row 1000)
unfolding octet_of window_size window_count
at_once_is = record { name_is = x_is; type_fits = refl; keys_octets = refl; answer_octets = refl; some = λ e. cc; versions_are = (first_row without_settled, (second_row without_settled, tt)); of_versions = (of_first, (of_second, tt)) }

at_once_unforged : AnswerUnforged (mixed_row 1000)
unfolding pointer_limit most_heads owner_at octet_of window_size window_count
at_once_unforged =
    let r : Row = mixed_row 1000 in
    let m = mixed_answer 1000 in
    unforged plain (handed_in r) (own_key ∷ []) (SignedOf r) (sought_of_answer pointer_limit (handed_in r)) m (read_of m) refl (
      no_signature plain 1500 (own_key ∷ []) (SignedOf r) m (item m 0) refl,
      (
        signed 1500 (SignedOf r) m (item m 1) b_fields (signed_octets b_fields b 1 (next_of_b ∷ [])) refl
            (of_version r first_version b 47 2 0 1000 2000 (next_of_b ∷ []) (at_place r.signings (signed_from first_version 1000 2000) 0 refl refl) b_is refl
            (OfChain (record { there = at_place (nsec_names (zone_in example first_version)) b 2 refl refl; rtype_is = refl; next = example; next_is = refl; datas_are = refl })) refl refl refl refl refl refl),
        (
          no_signature plain 1500 (own_key ∷ []) (SignedOf r) m (item m 2) refl,
          (
            signed 1500 (SignedOf r) m (item m 3) (apex_fields 1000) (signed_octets (apex_fields 1000) example 1 (next_of_apex_later ∷ [])) refl
                (of_version r second_version example 47 1 0 1000 2000 (next_of_apex_later ∷ []) (at_place r.signings (signed_from second_version 1000 2000) 1 refl refl) example_is refl
                (OfChain (record { there = at_place (nsec_names (zone_in example second_version)) example 0 refl refl; rtype_is = refl; next = x; next_is = refl; datas_are = refl })) refl refl refl refl refl refl),
            tt,
          ),
        ),
      ),
    )

pub at_once_row : SaysFalsely without_settled
unfolding pointer_limit most_heads owner_at octet_of window_size window_count
at_once_row = record {
  answers = plain;
  judge_input = mixed_at_once;
  versions = both;
  honest = honest_in without_settled (mixed_row 1000) at_once_is (λ e. cc) own_published tt
      (own_keys_unforged (handed_in (mixed_row 1000)) refl (mixed_row 1000).signings) (own_keys_known (mixed_answer 1000) x 16) at_once_unforged (tt, (tt, tt));
  said = NoName;
  says = refl;
  otherwise = neither mixed_at_once refl refl;
}
