-- What a call answers for a zone, from the verdict on a question and the RRsets that it found.
use Rattle.std.proofs.Common.{◌≡◌, ℕ, Bool, true, false, ◌&&◌, List, [], ◌∷◌, ◌++◌, Option, Some, None, refl, sym, ap, subst, ◌∙◌, length}
use Rattle.std.specs.Prelude.{IfOk, Result, ◌==◌, if◌then◌else◌}
use Rattle.std.specs.List.{list_any}
use Rattle.std.proofs.lemmas.Bool.{and_parts}
use Rattle.definitions.specs.Name.{Name, at_or_above, labels_eq, low}
use Rattle.definitions.specs.Zone.{NoName, StarNoType, StarRecords, Verdict, Zone, ce, cut, data_at, exists, has, star_under, verdict}
use Rattle.definitions.specs.ZoneChain.{optout_of}
use Rattle.denial_laws.specs.OwnFacts.{denies_star, kept_ancestor, open_spoken}
use Rattle.denial_laws.proofs.NameFacts.{above-low}
use Rattle.denial_nsec3_hash.specs.declared.hasher.HashError.{HashError}
use Rattle.messages.specs.HandedRr.{HandedRr}
use Rattle.answer_terms.specs.Accepting.{soas, zone_with}
use Rattle.answer_terms.specs.Hashing.{Hasher, hash_in}
use Rattle.answer_terms.specs.Served.{ServedRrset, Served, ahead_open, answer_groups, proofs_of, soa, spoken, unsigned_ns}
use Rattle.answer_terms.proofs.ZoneAnswers.{groups_open_missing}
use Rattle.answer_terms.proofs.ZoneData.{if_ok_map}
use Rattle.answer_zone_records.specs.OwnedRecords.{is_of_type, owned_by}
use Rattle.answer_zone.specs.Cuts.{NoneRefers}
use Rattle.answer_zone.specs.HashedZone.{HashedZone, HashesEach, served_by, spoken_for}
use Rattle.answer_zone.specs.Questions.{AnswersItself, LeavesOpen, zone_of}
use Rattle.answer_zone.specs.ZoneAnswers.{AnswersAs, Holds, Replies, answered, flags_for}
use Rattle.answer_zone.specs.declared.zone.answers.ZoneAnswer.{ZoneAnswer}
use Rattle.answer_zone.proofs.Placing.{has_owned}
use Rattle.answer_zone.proofs.Verdicts.{answers, apex_exists, encloser_there, left_open, no_name, not_referred, star_no_type, star_records}

module _ {H : Type 0} (hash_of : H → Hasher) (x : HashedZone H) (q : Name) (t : ℕ) where
  abbrev ours : Served
  ours = served_by hash_of x

  -- the RRsets that a verdict asks for, and the names that its proof speaks of
  pub reply : (v : Verdict) (found rest : List ServedRrset) (names : List Name) (r : Result ZoneAnswer HashError)
      → verdict (zone_of x) false q t ≡ v
      → length found ≡ answered v
      → found ++ rest ≡ answer_groups ours q t
      → spoken_for ours q t ≡ names
      → IfOk r (Holds (flags_for v) found rest)
      → HashesEach (hash_of x.hasher) x.mode names r
      → Replies hash_of x q t r
  reply v found rest names r said one groups spoke holds hashed = (
    if_ok_map (Holds (flags_for v) found rest) (AnswersAs ours q t) r (λ a h. answers ours q t v found rest a said one groups h) holds,
    subst (λ (qs : List Name). HashesEach (hash_of x.hasher) x.mode qs r) (sym spoke) hashed,
  )

  -- ---- where opt-out leaves the name open

  abbrev open_names : Bool → List Name
  open_names star = open_spoken (zone_of x) x.mode (low q) star

  pub open_spoke : LeavesOpen x q true → (v : Verdict) (star : Bool) → verdict (zone_of x) false q t ≡ v → denies_star v ≡ star → spoken_for ours q t ≡ open_names star
  open_spoke opens v star said denies =
      let whole = left_open (zone_of x) (optout_of x.mode) q t opens in
      ap (spoken ours (low q) (verdict (zone_of x) false q t)) whole ∙ ap (λ w. open_names (denies_star w)) said ∙ ap open_names denies

  -- the SOA record, or the name servers of a delegation
  abbrev front : Option Name → List ServedRrset
  front o = elim o [ None ↦ soa ours ∷ [] | Some c ↦ if labels_eq c (low q) && (t == 43) then soa ours ∷ [] else unsigned_ns ours c ]

  pub open_missing : AnswersItself x q t → LeavesOpen x q true → (v : Verdict) (star : Bool) (r : Result ZoneAnswer HashError)
      → ahead_open ours q t v ≡ front (cut (zone_of x) (low q))
      → 0 ≡ answered v
      → verdict (zone_of x) false q t ≡ v
      → denies_star v ≡ star
      → IfOk r (Holds (flags_for v) [] (soa ours ∷ proofs_of ours (open_names star)))
      → HashesEach (hash_of x.hasher) x.mode (open_names star) r
      → Replies hash_of x q t r
  open_missing own opens v star r ahead none said denies =
      let whole = left_open (zone_of x) (optout_of x.mode) q t opens in
      let uncut = not_referred (zone_of x) (low q) t (soa ours ∷ []) (unsigned_ns ours) own.0 (cut (zone_of x) (low q)) refl in
      reply v [] (soa ours ∷ proofs_of ours (open_names star)) (open_names star) r said none
      (groups_open_missing x.apex x.mode (hash_in (hash_of x.hasher) x.mode) x.records q t v star denies ahead uncut whole said)
      (open_spoke opens v star said denies)

-- ---- a name that does not exist, by what was found of the wildcard below its closest encloser

module _ (apex : Name) (rs : List HandedRr) (q : Name) (t : ℕ) (none : NoneRefers (zone_with apex rs) (low q) t) (one : length (soas apex rs) ≡ 1) (gone : exists (zone_with apex rs) (low q) ≡ false) (star : Name) (is : low star ≡ star_under (kept_ancestor (zone_with apex rs) false (low q))) (expands : Bool) (tells : expands ≡ (at_or_above apex q && exists (zone_with apex rs) (low star))) where
  abbrev z : Zone
  z = zone_with apex rs

  abbrev wildcard : Name
  wildcard = star_under (kept_ancestor z false (low q))

  at_wildcard : (at_or_above (low apex) (low q) && exists z wildcard) ≡ expands
  at_wildcard = (λ i. above-low apex q i && exists z (sym is i)) ∙ sym tells

  pub unexpanded : expands ≡ false → verdict z false q t ≡ NoName
  unexpanded e = no_name z (apex_exists apex rs one) q t none gone (at_wildcard ∙ e)

  module _ (e : expands ≡ true) (wild : List HandedRr) (owned : wild ≡ owned_by star rs) (has_type : Bool) (finds : has_type ≡ list_any (is_of_type t) wild) where
    both : (at_or_above (low apex) (low q) ≡ true) × (exists z wildcard ≡ true)
    both = and_parts (at_or_above (low apex) (low q)) (exists z wildcard) (at_wildcard ∙ e)

    has_there : has z wildcard t ≡ has_type
    has_there = ap (λ n. has z n t) (sym is) ∙ sym (finds ∙ ap (list_any (is_of_type t)) owned ∙ has_owned apex rs star t)

    pub encloser_found : ce z (low q) ≡ Some (kept_ancestor z false (low q))
    encloser_found = encloser_there z (apex_exists apex rs one) q t none gone both.0

    pub star_found : has_type ≡ true → verdict z false q t ≡ StarRecords (data_at z wildcard t)
    star_found h = star_records z (apex_exists apex rs one) q t none gone both.0 both.1 (has_there ∙ h)

    pub star_lacks : has_type ≡ false → verdict z false q t ≡ StarNoType
    star_lacks h = star_no_type z (apex_exists apex rs one) q t none gone both.0 both.1 (has_there ∙ h)
