-- In which case a question's name is spelled means nothing to what messages show.
use Rattle.std.proofs.Common.{◌≡◌, ℕ, Bool, true, false, not, ◌&&◌, ◌||◌, List, [], ◌∷◌, drop, Option, Some, None, refl, sym, ap, subst, ◌∙◌, inl, inr}
use Rattle.std.specs.Prelude.{◌==◌, IfSome, nat_le, nat_lt, if◌then◌else◌}
use Rattle.std.specs.List.{filter_map, find, list_any}
use Rattle.std.specs.Option.{is_some, option_map}
use Rattle.std.proofs.lemmas.Bool.{false≢true}
use Rattle.definitions.specs.Dnskey.{Dnskey}
use Rattle.definitions.specs.Name.{Name, at_or_above, labels_eq, low, strictly_above}
use Rattle.definitions.specs.Zone.{Verdict, Zone, data_at, verdict}
use Rattle.definitions.specs.ZoneChain.{Mode, optout_of}
use Rattle.definitions.proofs.ZoneNames.{above_lowered}
use Rattle.denial_laws.specs.Facts.{Facts, Rrset}
use Rattle.denial_laws.specs.OwnFacts.{own_hash_links, own_links, own_rrset}
use Rattle.denial_laws.specs.Truth.{IsTrueRrset, is_signed}
use Rattle.denial_laws.proofs.NameFacts.{strictly_lowered}
use Rattle.fact_laws.specs.Due.{due_facts, due_names}
use Rattle.fact_laws.specs.Laws.{Includes}
use Rattle.messages.specs.HandedRr.{HandedRr, among}
use Rattle.messages.specs.Message.{Asked, Message, Spelled}
use Rattle.answer_scheme.specs.Answers.{Answers}
use Rattle.answer_terms.specs.Accepting.{zone_of}
use Rattle.answer_terms.specs.Asking.{is_allowed}
use Rattle.answer_terms.specs.FactsCase.{low_facts}
use Rattle.answer_terms.specs.Hashing.{hash_in}
use Rattle.answer_judge_facts.proofs.JudgeCase.{label_count-owner, signed_owner-owner}
use Rattle.answer_judge_facts.specs.Sought.{is_alone}
use Rattle.answer_judge_facts.specs.Times.{Times, are_unlike, proof_times, times_of}
use Rattle.answer_judge_facts.specs.Verified.{Trusting, is_hash_alone, rrset_in, verified_by, verified_hash_links, verified_links}
use Rattle.answer_judge.specs.Judged.{trusting}
use Rattle.answer_judge.specs.Judging.{JudgeInput}
use Rattle.answer_findings.specs.Hints.{answer_records}
use Rattle.answer_findings.specs.Judgements.{alias_hint, asking}
use Rattle.answer_zone.specs.Finding.{finds, redirecting, zone_redirects}
use Rattle.answer_zone.specs.ZoneAnswers.{answered}
use Rattle.alias_laws.specs.Leading.{leads_elsewhere}
use Rattle.message_laws.specs.InPlace.{SpellsOne, in_place}
use Rattle.message_laws.specs.Laws.{ShownInAnyCase, named}
use Rattle.message_laws.specs.Shown.{AreOfChain, IsTruthful, Shows, shown_facts, usable_of}
use Rattle.message_laws.proofs.OwnLow.{hashes_low, rrset_low, verified_low}
use Rattle.message_laws.proofs.ShownLeads.{same_verdict}
use Rattle.message_laws.proofs.ShownPlace.{ByCname, ByDname, Own, Place, answered_itself, place}

-- ---- what a zone has

module _ (z : Zone) where
  either_way : (m n : Name) → low m ≡ low n → (b c : Bool) → b ≡ c → option_map low (redirecting z m) ≡ option_map low (redirecting z n)
      → option_map low (if b then Some m else redirecting z m) ≡ option_map low (if c then Some n else redirecting z n)
  either_way m n same true true k later = ap (λ (x : Name). Some x) same
  either_way m n same false false k later = later
  either_way m n same true false k later = absurd cc
  either_way m n same false true k later = absurd cc

  redirecting_low : (m n : Name) → low m ≡ low n → option_map low (redirecting z m) ≡ option_map low (redirecting z n)
  redirecting_low [] [] e = refl
  redirecting_low [] (l ∷ n) e = cc
  redirecting_low (l ∷ m) [] e = cc
  redirecting_low (l ∷ m) (x ∷ n) e =
      let same : low m ≡ low n = ap (drop 1) e in
      either_way m n same (zone_redirects z (low m)) (zone_redirects z (low n)) (ap (zone_redirects z) same) (redirecting_low m n same)

  module _ (m n : Name) (e : low m ≡ low n) where
    finds_low : (t : ℕ) → finds z m t ≡ finds z n t
    finds_low t = ap (λ (v : Verdict). nat_lt 0 (answered v)) (same_verdict z false m n t e)

    some_low : (o : Option Name) → is_some (option_map low o) ≡ is_some o
    some_low None = refl
    some_low (Some x) = refl

    leads_low : (t : ℕ) → leads_elsewhere z m t ≡ leads_elsewhere z n t
    leads_low t = λ i. not (finds_low t i) && (finds_low 5 i || (sym (some_low (redirecting z m)) ∙ ap is_some (redirecting_low m n e) ∙ some_low (redirecting z n)) i)

    true_low : (t : ℕ) (r : Rrset) → IsTrueRrset z m t r → IsTrueRrset z n t r
    true_low t r is = record {
      signed = ap (λ o. is_signed z o t) (sym (signed_owner-owner r.labels m n e)) ∙ is.signed;
      datas = is.datas ∙ ap (λ o. data_at z o t) (signed_owner-owner r.labels m n e);
      inside = λ wide. is.inside (ap (nat_lt r.labels) (label_count-owner m n e) ∙ wide);
    }

    true_if : (t : ℕ) (o : Option Rrset) → IfSome o (IsTrueRrset z m t) → IfSome o (IsTrueRrset z n t)
    true_if t None is = tt
    true_if t (Some r) is = true_low t r is

    due_low : (hash : Name → List ℕ) (mode : Mode) (t : ℕ) → due_facts z hash mode m t ≡ due_facts z hash mode n t
    due_low hash mode t =
        let said = same_verdict z (optout_of mode) m n t e in
        let told = same_verdict z false m n t e in
        let rrset : own_rrset z m t (verdict z (optout_of mode) m t) ≡ own_rrset z n t (verdict z (optout_of mode) n t) = rrset_low z m n e t (verdict z (optout_of mode) m t) ∙ ap (own_rrset z n t) said in
        let names : due_names z mode (low m) (verdict z false m t) (verdict z (optout_of mode) m t) ≡ due_names z mode (low n) (verdict z false n t) (verdict z (optout_of mode) n t) = λ i. due_names z mode (e i) (told i) (said i) in
        λ i. record { rrset = rrset i; links = own_links z mode (names i); hash_links = own_hash_links z hash mode (names i) }

-- ---- the place

abbrev place_of : Asked → Bool → Bool → Option Name → Asked
place_of q here alias o = if here then q else if alias then record { name = q.name; rtype = 5; class = q.class } else elim o [ None ↦ q | Some d ↦ record { name = d; rtype = 39; class = q.class } ]

abbrev name_there : Name → Bool → Bool → Option Name → Name
name_there n here alias o = if here then n else if alias then n else elim o [ None ↦ n | Some d ↦ d ]

abbrev type_there : ℕ → Bool → Bool → Option Name → ℕ
type_there t here alias o = if here then t else if alias then 5 else elim o [ None ↦ t | Some d ↦ 39 ]

low_there : (q : Asked) (here alias : Bool) (o : Option Name) → low (place_of q here alias o).name ≡ name_there (low q.name) here alias (option_map low o)
low_there q true alias o = refl
low_there q false true o = refl
low_there q false false None = refl
low_there q false false (Some d) = refl

rtype_there : (q : Asked) (here alias : Bool) (o : Option Name) → (place_of q here alias o).rtype ≡ type_there q.rtype here alias (option_map low o)
rtype_there q true alias o = refl
rtype_there q false true o = refl
rtype_there q false false None = refl
rtype_there q false false (Some d) = refl

module _ (z : Zone) (q : Asked) (name : Name) (e : low q.name ≡ low name) where
  abbrev other : Asked
  other = record q { name = name }

  place_name : low (in_place z q).name ≡ low (in_place z other).name
  place_name =
      low_there q (finds z q.name q.rtype) (finds z q.name 5) (redirecting z q.name)
      ∙ (λ i. name_there (e i) (finds_low z q.name name e q.rtype i) (finds_low z q.name name e 5 i) (redirecting_low z q.name name e i))
      ∙ sym (low_there other (finds z name q.rtype) (finds z name 5) (redirecting z name))

  place_type : (in_place z q).rtype ≡ (in_place z other).rtype
  place_type =
      rtype_there q (finds z q.name q.rtype) (finds z q.name 5) (redirecting z q.name)
      ∙ (λ i. type_there q.rtype (finds_low z q.name name e q.rtype i) (finds_low z q.name name e 5 i) (redirecting_low z q.name name e i))
      ∙ sym (rtype_there other (finds z name q.rtype) (finds z name 5) (redirecting z name))

  -- a question that is answered itself is so in any case
  own_place : (apex : Name) → is_allowed apex q ≡ true → in_place z q ≡ q → in_place z other ≡ other
  own_place apex allowed is = go (place z other)
    where
      never : leads_elsewhere z name q.rtype ≡ true → ⊥
      never led = false≢true (sym (answered_itself z apex q allowed is) ∙ leads_low z q.name name e q.rtype ∙ led)

      or_some : (b : Bool) → (b || true) ≡ true
      or_some true = refl
      or_some false = refl

      go : Place z other → in_place z other ≡ other
      go (Own same none) = same
      go (ByCname here there same) = absurd (never (λ i. not (here i) && (there i || is_some (redirecting z name))))
      go (ByDname d here led same) = absurd (never ((λ i. not (here i) && (finds z name 5 || is_some (led i))) ∙ or_some (finds z name 5)))

-- ---- what is verified

times_low : (w : Trusting) (k : ℕ) (m : List ℕ) (rs : List Spelled) (p q : Name) (t : ℕ) → low p ≡ low q → proof_times w k m rs p t ≡ proof_times w k m rs q t
times_low w k m rs p q t e = λ i. filter_map (λ (r : Spelled). elim ((r.class == 1)
    && (((47 == r.rtype) && is_alone k m w.apex rs r.owner) || ((50 == r.rtype) && is_hash_alone k m w.apex rs r.owner) || ((t == r.rtype) && labels_eq (low r.owner) (e i)))) as (λ _. Option Times) [
      | true ↦ option_map times_of (verified_by w k m rs r.owner r.rtype (rrset_in k m rs r.owner r.rtype))
      | false ↦ None
    ]) rs

module _ (a : Answers) (k : ℕ) (h : JudgeInput) (usable : List Dnskey) (read : Message) (mode : Mode) (rs : List HandedRr) (name : Name) where
  abbrev z : Zone
  z = zone_of h.apex rs

  abbrev there : JudgeInput
  there = named h name

  abbrev w : Trusting
  w = trusting a h usable

  module _ (p q : Asked) (e : low p.name ≡ low q.name) (same : p.rtype ≡ q.rtype) where
    facts_low : shown_facts a k h usable read p ≡ shown_facts a k there usable read q
    facts_low =
        (λ i. low_facts (record {
          rrset = verified_low w k h.answer_bytes read.records p.name q.name p.rtype e i;
          links = verified_links w k h.answer_bytes read.records;
          hash_links = verified_hash_links w k h.answer_bytes read.records;
        }))
        ∙ ap (λ (t : ℕ). shown_facts a k h usable read (record q { rtype = t })) same

    truthful_low : IsTruthful a k h usable read mode rs p → IsTruthful a k there usable read mode rs q
    truthful_low t = record {
      rrset = subst (λ (u : ℕ). IfSome (shown_facts a k there usable read q).rrset (IsTrueRrset z q.name u)) same
          (true_if z p.name q.name e p.rtype (shown_facts a k there usable read q).rrset
          (subst (λ (f : Facts). IfSome f.rrset (IsTrueRrset z p.name p.rtype)) facts_low t.rrset));
      chain = subst (AreOfChain z (hash_in a.hash mode) mode) facts_low t.chain;
      moment =
          ap (λ (ts : List Times). h.one_moment && are_unlike ts) (sym (times_low w k h.answer_bytes read.records p.name q.name p.rtype e ∙ ap (proof_times w k h.answer_bytes read.records q.name) same))
          ∙ t.moment;
    }

    shows_low : Shows a k h usable read mode rs p → Shows a k there usable read mode rs q
    shows_low s = record {
      truthful = truthful_low s.truthful;
      includes = subst (λ (f : Facts). Includes f (due_facts z (hash_in a.hash mode) mode q.name q.rtype)) facts_low
          (subst (λ (f : Facts). Includes (shown_facts a k h usable read p) f) (due_low z p.name q.name e (hash_in a.hash mode) mode p.rtype ∙ ap (due_facts z (hash_in a.hash mode) mode q.name) same) s.includes);
    }

-- ---- what is suggested

abbrev owner_hinted : List Spelled → (Spelled → Bool) → Option Name
owner_hinted rs test = option_map (λ (r : Spelled). r.owner) (find test rs)

module _ (k : ℕ) (h : JudgeInput) (name : Name) (e : low h.asked.name ≡ low name) where
  abbrev under : JudgeInput
  under = named h name

  abbrev test_dname : Bool → Spelled → Bool
  test_dname above r = (r.class == 1) && ((r.rtype == 39) && at_or_above h.apex r.owner && above)

  above_same : (o : Name) → strictly_above o h.asked.name ≡ strictly_above o name
  above_same o = sym (strictly_lowered o h.asked.name) ∙ ap (strictly_above o) e ∙ strictly_lowered o name

  pub inside_same : at_or_above h.apex h.asked.name ≡ at_or_above h.apex name
  inside_same = sym (above_lowered h.apex h.asked.name) ∙ ap (at_or_above h.apex) e ∙ above_lowered h.apex name

  abbrev records : List Spelled
  records = answer_records k h

  owner_same : owner_hinted records (λ r. test_dname (strictly_above r.owner h.asked.name) r) ≡ owner_hinted records (λ r. test_dname (strictly_above r.owner name) r)
  owner_same = λ i. owner_hinted records (λ r. test_dname (above_same r.owner i) r)

  abbrev has_cname : Name → Bool
  has_cname lower = list_any (λ (r : Spelled). (r.class == 1) && ((r.rtype == 5) && labels_eq (low r.owner) lower)) records

  abbrev is_sought : Bool → Bool → Bool
  is_sought inside cname = inside && not (h.asked.rtype == 5) && cname

  -- the question that is suggested for the name as it is spelled
  pub record IsHinted (question : Asked) : Type 0 where
    pub suggested : Asked
    pub hinted : alias_hint k under ≡ Some suggested
    pub name_is : low question.name ≡ low suggested.name
    pub rtype_is : question.rtype ≡ suggested.rtype

  abbrev by_hint : Asked → Option Name → Bool → Option Asked
  by_hint cname o b = elim o [ Some owner ↦ Some (asking h owner 39) | None ↦ if b then Some cname else None ]

  pub hinted_low : (question : Asked) → alias_hint k h ≡ Some question → IsHinted question
  hinted_low question hinted =
      go (owner_hinted records (λ r. test_dname (strictly_above r.owner h.asked.name) r)) (is_sought (at_or_above h.apex h.asked.name) (has_cname (low h.asked.name))) hinted
      ((λ i. by_hint (asking h name 5) (sym owner_same i) (is_sought (sym inside_same i) (has_cname (sym e i)))))
    where
      some_same : (x y : Asked) → Some x ≡ Some y → x ≡ y
      some_same x y same = cc

      go : (o : Option Name) (b : Bool) → by_hint (asking h h.asked.name 5) o b ≡ Some question → alias_hint k under ≡ by_hint (asking h name 5) o b → IsHinted question
      go (Some owner) b is there =
          let same : asking h owner 39 ≡ question = some_same (asking h owner 39) question is in
          record { suggested = asking h owner 39; hinted = there; name_is = ap (λ (q : Asked). low q.name) (sym same); rtype_is = ap (λ (q : Asked). q.rtype) (sym same) }
      go None true is there =
          let same : asking h h.asked.name 5 ≡ question = some_same (asking h h.asked.name 5) question is in
          record { suggested = asking h name 5; hinted = there; name_is = ap (λ (q : Asked). low q.name) (sym same) ∙ e; rtype_is = ap (λ (q : Asked). q.rtype) (sym same) }
      go None false is there = absurd cc

-- ---- all of it

pub shown_in_any_case : ShownInAnyCase
shown_in_any_case a k h mode rs name e is shown =
    let z : Zone = zone_of h.apex rs in
    record {
      keys = shown.keys;
      read = shown.read;
      reads = shown.reads;
      accepted = shown.accepted;
      asked_is = record { name = is; rtype = shown.asked_is.rtype; class = shown.asked_is.class };
      allowed =
          ap (λ b. (h.asked.class == 1) && b && not (among (46 ∷ 47 ∷ 48 ∷ 50 ∷ 51 ∷ 5 ∷ 39 ∷ 0 ∷ 41 ∷ []) h.asked.rtype) && not (nat_le 128 h.asked.rtype && nat_le h.asked.rtype 255)) (sym (inside_same k h name e))
          ∙ shown.allowed;
      hashes = hashes_low a.hash mode z h.asked.name name e shown.hashes;
      shown = elim shown.shown [
        | inl itself ↦ inl (record {
          answered = own_place z h.asked name e h.apex shown.allowed itself.answered;
          shows = shows_low a k h (usable_of shown.keys) shown.read mode rs name h.asked (record h.asked { name = name }) e refl itself.shows;
          beside = λ for_ds none below.
              truthful_low a k h (usable_of shown.keys) shown.read mode rs name (asking h h.asked.name 2) (asking h name 2) e refl
              (itself.beside for_ds (same_verdict z (optout_of mode) h.asked.name name 43 e ∙ none) (above_same k h name e h.apex ∙ below));
        })
        | inr alias ↦ inr (
            let there : IsHinted k h name e alias.question = hinted_low k h name e alias.question alias.hinted in
            record {
              question = there.suggested;
              hinted = there.hinted;
              name_is = sym there.name_is ∙ alias.name_is ∙ place_name z h.asked name e;
              rtype_is = sym there.rtype_is ∙ alias.rtype_is ∙ place_type z h.asked name e;
              leads = λ other.
                  subst (λ (t : ℕ). SpellsOne (verdict z false (in_place z (record h.asked { name = name })).name t)) (place_type z h.asked name e)
                  (subst SpellsOne (same_verdict z false (in_place z h.asked).name (in_place z (record h.asked { name = name })).name (in_place z h.asked).rtype (place_name z h.asked name e))
                  (alias.leads (finds_low z h.asked.name name e h.asked.rtype ∙ other)));
              hashes = hashes_low a.hash mode z alias.question.name there.suggested.name there.name_is alias.hashes;
              shows = shows_low a k h (usable_of shown.keys) shown.read mode rs name alias.question there.suggested there.name_is there.rtype_is alias.shows;
              itself = truthful_low a k h (usable_of shown.keys) shown.read mode rs name h.asked (record h.asked { name = name }) e refl alias.itself;
            }
            )
      ];
    }
