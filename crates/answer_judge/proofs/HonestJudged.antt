-- Of honest messages a judge says the verdict of a version in which the name is no alias, or refuses.
use Rattle.std.proofs.Common.{◌≡◌, ◌⊎◌, ℕ, true, false, List, [], ◌∷◌, length, filter, refl, sym, ap, subst, ◌∙◌, inl, inr, ⊎_elim, arith}
use Rattle.std.specs.Prelude.{Contains}
use Rattle.definitions.specs.Dnskey.{Dnskey}
use Rattle.definitions.specs.Name.{Name}
use Rattle.definitions.specs.Zone.{Verdict, Zone}
use Rattle.definitions.specs.ZoneChain.{Mode, Nsec, Nsec3}
use Rattle.denial_laws.specs.Facts.{Facts}
use Rattle.denial_laws.specs.Laws.{IsSaidBy}
use Rattle.denial_laws.specs.Truth.{is_added_type}
use Rattle.denial_laws.proofs.Sound.{true_facts_decide_truly}
use Rattle.messages.specs.Handed.{IsHanded}
use Rattle.messages.proofs.Lists.{Has, all_at, all_more, all_sorted}
use Rattle.answer_scheme.specs.Answers.{Answers}
use Rattle.answer_terms.specs.Accepting.{record_cmp}
use Rattle.answer_terms.specs.Chainable.{HasChain}
use Rattle.answer_terms.specs.Hashing.{Hasher, hash_in}
use Rattle.answer_judge.specs.Honest.{AnswersHonest, IsHonestInput, FewIterations, HasOneRrset, IsSaidByOne, IsVersion, OneAtATime, SaysOneOf, Settled, Signing}
use Rattle.answer_judge.specs.Versions.{IsMade, SignedRrset, Version, zone_in}
use Rattle.answer_judge_facts.specs.Trusted.{is_usable}
use Rattle.answer_judge.specs.Judged.{AnswersAs, judged, keys_of}
use Rattle.answer_judge.specs.Judging.{Answer, JudgeInput, Refuses, Says}
use Rattle.answer_judge.specs.declared.verdict.Refusal.TheVariants as r
use Rattle.answer_judge.proofs.GivenFacts.{FitsRecords}
use Rattle.answer_judge.proofs.GivenHashing.{hashes_agree}
use Rattle.answer_judge.proofs.GivenLists.{contained_has, has_contained}
use Rattle.answer_judge_facts.proofs.GivenSorted.{filter_from}
use Rattle.answer_judge_facts.proofs.KeptItems.{passes_has}
use Rattle.answer_judge.proofs.HonestFacts.{IsKnown, IsOfDenial}
use Rattle.answer_judge.proofs.HonestKeys.{all_published}
use Rattle.answer_judge.proofs.HonestTrue.{AreTrueHere, true_here}
use Rattle.answer_judge.proofs.HonestUsed.{not_keys}
use Rattle.answer_judge.proofs.HonestVerified.{IsSigner}
use Rattle.answer_judge.proofs.HonestVersions.{AreOfOne, IsChosen, chosen}
use Rattle.answer_judge.proofs.JudgedSays.{IsSaid, facts_of, judged_says}
use Rattle.answer_judge.proofs.JudgedTypes.{judged_type}

-- ---- versions

-- a list of one item has no other
only_one : {A : Type 0} (xs : List A) (x y : A) → length xs ≡ 1 → Has xs x → Has xs y → x ≡ y
only_one [] x y l i j = absurd i
only_one (z ∷ []) x y l i j = elim i [ inl e ↦ elim j [ inl f ↦ e ∙ sym f | inr none ↦ absurd none ] | inr none ↦ absurd none ]
only_one (z ∷ w ∷ xs) x y l i j = absurd (omega (arith, l))

-- a list that isn't empty has a first item
first_of : {A : Type 0} (xs : List A) → (xs ≡ [] → ⊥) → (x : A) × Has xs x
first_of [] h = absurd (h refl)
first_of (x ∷ xs) h = (x, inl refl)

-- that are settled: at one moment there is one, or one RRset of the answer is signed
settled_so : (a : Answers) (k : ℕ) (h : JudgeInput) (published : List Dnskey) (versions : List Version) (signings : List Signing) → ((s : Signing) → Has signings s → Has versions s.version)
    → Settled a k h published versions signings → AreOfOne h signings ⊎ HasOneRrset a k h published
settled_so a k h published versions signings of settled = ⊎_elim
    (λ (single : length versions ≡ 1). inl (λ x y i j alike. only_one versions x.version y.version single (of x i) (of y j)))
    (λ (more : ((h.one_moment ≡ true) × OneAtATime signings) ⊎ HasOneRrset a k h published). ⊎_elim
    (λ (s : (h.one_moment ≡ true) × OneAtATime signings). inl (λ x y i j alike. s.1 x y (contained_has signings x i) (contained_has signings y j) (alike s.0)))
    (λ (single : HasOneRrset a k h published). inr single)
    more)
    settled

-- hashes of a version's chain fit records
fits_records : (hash : Hasher) (z : Zone) (mode : Mode) → FewIterations mode → HasChain hash mode z → FitsRecords z mode (hash_in hash mode)
fits_records hash z Nsec few chain = tt
fits_records hash z (Nsec3 iterations salt optout) few chain = (few, chain.octets)

-- what was made is of the type of a record of denial
denial_of : (z : Zone) (hash : Name → List ℕ) (mode : Mode) (q : Name) (g : SignedRrset) → IsMade z hash mode q g → IsOfDenial g
denial_of z hash Nsec q g is = inl is.rtype_is
denial_of z hash (Nsec3 iterations salt optout) q g is = inr is.rtype_is

module _ (a : Answers) (k : ℕ) (h : JudgeInput) (versions : List Version) (x : IsHonestInput a k h versions) where
  version_is : (v : Version) → Has versions v → IsVersion a h v
  version_is v i = all_at (IsVersion a h) versions v x.versions_are i

  known_version : (v : Version) → Has versions v → IsKnown h.apex v
  known_version v i =
      let is : IsVersion a h v = version_is v i in
      record {
        servable = is.in_order;
        apex_is = x.apex_is;
        handed = all_sorted IsHanded record_cmp v.records is.records_are;
        denials = all_more (IsMade (zone_in h.apex v) (hash_in a.hash v.mode) v.mode h.asked.name) IsOfDenial v.made (denial_of (zone_in h.apex v) (hash_in a.hash v.mode) v.mode h.asked.name) is.truly;
      }

  of_versions : (s : Signing) → Has x.signings s → Has versions s.version
  of_versions s i = has_contained versions s.version (all_at (λ (s : Signing). Contains versions s.version) x.signings s x.of_versions i)

  -- it is the verdict of the version that is used
  says_of : (v : Verdict) → IsSaid a k h v → IsSaidByOne h versions v
  says_of v said =
      let keys : List Dnskey = keys_of h said.keys in
      let usable : List Dnskey = filter is_usable keys in
      let published = all_published a k h x.published x.signings (λ s i. known_version s.version (of_versions s i)) said.keys x.keys_honest said.keys_read x.keys_known x.flags_are said.chained in
      let signers : (key : Dnskey) → Has usable key → IsSigner x.published key = λ key i. record { known = published key (filter_from is_usable keys key i); usable = (passes_has is_usable keys key i).1 } in
      let asked : is_added_type h.asked.rtype ≡ false = judged_type h said.asked in
      let spare = first_of versions x.one in
      let used : IsChosen a k h x.published x.signings said.answer x.answer_honest said.answer_read usable signers (not_keys h.asked.rtype asked) versions =
      chosen a k h x.published x.signings said.answer x.answer_honest said.answer_read usable signers (not_keys h.asked.rtype asked) said.of_one_moment versions of_versions (settled_so a k h x.published versions x.signings of_versions x.settled) spare.0 spare.1 in
      let version : Version = used.version in
      let is : IsVersion a h version = version_is version used.there in
      let hash : Name → List ℕ = hash_in a.hash version.mode in
      let fits : FitsRecords (zone_in h.apex version) version.mode hash = fits_records a.hash (zone_in h.apex version) version.mode is.few is.chain in
      let f : Facts = facts_of a k h said.keys said.answer in
      let here : AreTrueHere h.apex hash version h.asked.name h.asked.rtype f =
      true_here a k h version.records version.made said.answer usable asked x.answer_honest.octets_are version.mode (known_version version used.there) is.apart is.truly used.is_of fits in
      let agree = hashes_agree a.hash version.mode h.apex f.rrset f.links f.hash_links h.asked.name h.asked.rtype here.hashed in
      let truly : IsSaidBy (zone_in h.apex version) (Rattle.definitions.specs.ZoneChain.optout_of version.mode) h.asked.name h.asked.rtype v =
      true_facts_decide_truly (zone_in h.apex version) hash version.mode f h.asked.name h.asked.rtype v is.in_order x.asked_is.rtype here.true_facts (sym agree ∙ said.decided) in
      record { version = version; there = contained_has versions version used.there; verdict_is = sym truly.0; no_alias = truly.1 }

  says_truly : (answer : Answer) → answer ≡ judged a k h → SaysOneOf h versions answer
  says_truly (Says v) e = says_of v (judged_says a k h v x.ds_some (sym e))
  says_truly (Refuses f) e = tt

-- an answer that is exact, memory aside
pub answers_honest : (a : Answers) (k : ℕ) (h : JudgeInput) (answer : Answer) → AnswersAs answer (judged a k h) → AnswersHonest a k h answer
answers_honest a k h answer exact versions x =
    ⊎_elim
    (λ (memory : answer ≡ Refuses r.Memory). subst (SaysOneOf h versions) (sym memory) tt)
    (λ (said : answer ≡ judged a k h). says_truly a k h versions x answer said)
    exact
