-- A judge of what one zone gave under keys that meet says the zone's verdict.
use Rattle.std.proofs.Common.{◌≡◌, ℕ, ◌<◌, ◌&&◌, Bool, true, false, List, [], ◌∷◌, map, Option, Some, refl, sym, ap, ◌∙◌, inl, inr, ⊎_elim}
use Rattle.std.specs.Prelude.{IfSome, if◌then◌else◌}
use Rattle.std.specs.List.{AllByRecursion, filter, list_any}
use Rattle.definitions.specs.Name.{Name, at_or_above, low}
use Rattle.definitions.specs.Zone.{Verdict, Zone, verdict}
use Rattle.definitions.specs.ZoneChain.{Mode, Nsec, Nsec3, hashed_names, optout_of}
use Rattle.definitions.proofs.ZoneNames.{lowered_above}
use Rattle.denial_laws.specs.Facts.{Facts, HashLink, Link, Rrset}
use Rattle.denial_laws.specs.OwnFacts.{hash_link_of, hash_link_speaks, own_facts, own_hash_links, own_links, own_rrset, spoken}
use Rattle.messages.specs.HandedRr.{HandedRr}
use Rattle.answer_judge_rules.specs.Hashes.{hash_among}
use Rattle.answer_terms.specs.Accepting.{zone_of}
use Rattle.answer_terms.specs.FactsCase.{low_facts}
use Rattle.answer_terms.specs.Hashing.{hash_in}
use Rattle.answer_terms.specs.Served.{by_tag}
use Rattle.answer_terms.proofs.FactsCase.{links_lowered}
use Rattle.answer_terms.proofs.Servable.{allowed_answers_decide, asked_inside}
use Rattle.answer_scheme.specs.Answers.{Answers}
use Rattle.answer_judge.specs.Judged.{AnswersAs, are_mixed, are_over, by_facts, decided_by, facts_in, is_unhashed, judged, judged_facts, judged_proof, trusting}
use Rattle.answer_judge.specs.Judging.{Answer, JudgeInput, Refuses, Says}
use Rattle.answer_judge.specs.Meeting.{AnswersGiven, WasGiven}
use Rattle.answer_judge.specs.OwnFacts.{TellsZone}
use Rattle.answer_judge.specs.declared.verdict.Refusal.TheVariants as r
use Rattle.answer_judge.proofs.GivenFacts.{rrset_inside, told_facts_are_own}
use Rattle.answer_judge.proofs.GivenHashing.{AreHashedBy, ExpandsInside, SaysHashing, hashes_agree, none_fails, not_mixed, not_over}
use Rattle.answer_judge.proofs.GivenJudged.{judged_given, signer_found, signer_signs, usable_keys}
use Rattle.answer_judge.proofs.GivenLists.{contained_has}
use Rattle.answer_judge.proofs.GivenMoments.{zone_alike}

and_no : (b : Bool) → (b && false) ≡ false
and_no true = refl
and_no false = refl

-- ---- facts by the tests in order

abbrev by_tests : Bool → Bool → Bool → Option Verdict → Answer
by_tests mixed over unhashed v =
    if mixed then Refuses r.MixedNsec3Parameters
    else if over then Refuses r.IterationsOverLimit
    else if unhashed then Refuses r.HashFailed
    else by_facts v

-- the tests see neither links of names nor the case of the names in them
judged_lowered : (a : Answers) (h : JudgeInput) (f : Facts) → judged_facts a h (low_facts f) ≡ judged_facts a h f
judged_lowered a h f = ap (by_tests (are_mixed f.hash_links) (are_over h.limit f.hash_links) (is_unhashed a h f)) (links_lowered h.apex (hash_among a.hash f.hash_links) f h.asked.name h.asked.rtype)

-- the links of a zone's chain are of one kind
mapped_say : (z : Zone) (hash : Name → List ℕ) (iterations : ℕ) (salt : List ℕ) (optout : Bool) (ns : List Name) → AllByRecursion (SaysHashing iterations salt) (map (hash_link_of z hash iterations salt optout) ns)
mapped_say z hash iterations salt optout [] = tt
mapped_say z hash iterations salt optout (n ∷ ns) = ((refl, refl), mapped_say z hash iterations salt optout ns)

own_hashed : (z : Zone) (hash : Name → List ℕ) (mode : Mode) (qs : List Name) → AreHashedBy mode (own_hash_links z hash mode qs)
own_hashed z hash Nsec qs = refl
own_hashed z hash (Nsec3 iterations salt optout) qs = mapped_say z hash iterations salt optout (filter (λ o. list_any (hash_link_speaks z hash optout o) qs) (hashed_names hash z optout))

-- ---- what was given

-- what was given tells the zone's answer, under the usable keys of the DNSKEY answer
abbrev tells_zone : (a : Answers) (k : ℕ) (h : JudgeInput) (mode : Mode) (rs : List HandedRr) (short : h.limit < 65536) (given : WasGiven a k h mode rs) → TellsZone (trusting a h (usable_keys a k h mode rs given)) k mode rs h.asked h.answer_bytes
tells_zone a k h mode rs short given = record {
  limit = h.limit;
  at = given.answer_at;
  life = given.life;
  keys = by_tag given.zonesigners;
  signer = given.meet.signer;
  apex_is = given.apex_is;
  records_are = given.records_are;
  accepted = given.accepted;
  short_limit = short;
  allowed = given.allowed;
  told = given.answer_told;
  signs = contained_has (by_tag given.zonesigners) given.meet.signer (signer_signs a k h mode rs given);
  found = signer_found a k h mode rs given;
  hold = given.answer_holds;
}

module _ (a : Answers) (k : ℕ) (h : JudgeInput) (mode : Mode) (rs : List HandedRr) (short : h.limit < 65536) (given : WasGiven a k h mode rs) where
  abbrev z : Zone
  z = zone_of h.apex rs

  abbrev hash : Name → List ℕ
  hash = hash_in a.hash mode

  abbrev said : Verdict
  said = verdict z (optout_of mode) h.asked.name h.asked.rtype

  abbrev rrset : Option Rrset
  rrset = own_rrset z h.asked.name h.asked.rtype said

  abbrev names : List Name
  names = spoken z mode (low h.asked.name) (verdict z false h.asked.name h.asked.rtype) said

  abbrev links : List Link
  links = own_links z mode names

  abbrev hashed_links : List HashLink
  hashed_links = own_hash_links z hash mode names

  abbrev own : Facts
  own = own_facts z hash mode h.asked.name h.asked.rtype

  kind : AreHashedBy mode hashed_links
  kind = own_hashed z hash mode names

  inside : at_or_above h.apex h.asked.name ≡ true
  inside = sym (lowered_above h.apex h.asked.name) ∙ (asked_inside h.apex h.asked given.allowed).inside rs

  expands : IfSome rrset (ExpandsInside h.apex h.asked.name)
  expands = rrset_inside (trusting a h (usable_keys a k h mode rs given)) k mode rs h.asked h.answer_bytes (tells_zone a k h mode rs short given)

  hashed : is_unhashed a h own ≡ false
  hashed = none_fails a.hash mode h.apex rrset links hashed_links h.asked.name kind given.hashes.made inside expands

  decides : decided_by a h own ≡ Some said
  decides =
      hashes_agree a.hash mode h.apex rrset links hashed_links h.asked.name h.asked.rtype kind
      ∙ allowed_answers_decide a.hash h.apex mode h.limit rs hash h.asked given.accepted given.allowed given.asked_is.rtype given.hashes.apart

  own_judged : judged_facts a h own ≡ Says said
  own_judged = λ i. by_tests (not_mixed mode hashed_links kind i) (not_over mode h.limit hashed_links given.accepted.faultless.within_limit kind i) (hashed i) (decides i)

  pub judged_as_zone : judged a k h ≡ Says said
  judged_as_zone =
      let f : Facts = facts_in a k h (usable_keys a k h mode rs given) given.answer_told.read in
      let told = told_facts_are_own (trusting a h (usable_keys a k h mode rs given)) k mode rs h.asked h.answer_bytes (tells_zone a k h mode rs short given) in
      let alike = zone_alike (trusting a h (usable_keys a k h mode rs given)) k mode rs h.asked h.answer_bytes (tells_zone a k h mode rs short given) in
      judged_given a k h mode rs given ∙ ap (judged_proof a h f) alike ∙ ap (λ b. if b then Refuses r.MixedVersions else judged_facts a h f) (and_no h.one_moment)
      ∙ sym (judged_lowered a h f) ∙ ap (judged_facts a h) told ∙ own_judged

-- an answer that is exact says the zone's verdict; limits are numbers of 16 bits
pub answers_given : (a : Answers) (k : ℕ) (h : JudgeInput) (answer : Answer) → h.limit < 65536 → AnswersAs answer (judged a k h) → AnswersGiven a k h answer
answers_given a k h answer short exact mode rs given = ⊎_elim (λ memory. inl memory) (λ said. inr (said ∙ judged_as_zone a k h mode rs short given)) exact
