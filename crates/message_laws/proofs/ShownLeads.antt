-- Where the answer of a zone that answers by an alias is shown, a judge finds where that leads.
use Rattle.std.proofs.Common.{◌≡◌, ℕ, Bool, true, false, not, ◌&&◌, ◌||◌, List, [], ◌∷◌, Option, Some, None, Ok, cond, eqb, refl, sym, ap, subst, ◌∙◌, ◌⊎◌, inl, inr, arith, lit<}
use Rattle.std.specs.Prelude.{◌==◌, ◌<◌, is_none, nat_lt, if◌then◌else◌}
use Rattle.std.specs.List.{find}
use Rattle.std.specs.Option.{is_some, option_map}
use Rattle.std.proofs.lemmas.Bool.{and_from, and_parts, eq-eqb, false≢true, or_left, or_right}
use Rattle.definitions.specs.Dnskey.{Dnskey}
use Rattle.definitions.specs.Name.{Name, at_or_above, low, strictly_above}
use Rattle.definitions.specs.Zone.{Delegated, NoName, NoType, Open, Records, StarNoType, StarRecords, Verdict, Zone, apex_of, ce, cut, cut_above, data_at, exists, has, is_delegation, is_live, is_open, star_under, verdict}
use Rattle.definitions.specs.ZoneChain.{Mode, optout_of}
use Rattle.definitions.proofs.VerdictCases.{verdict-open, verdict-said}
use Rattle.definitions.proofs.VerdictCases as cases
use Rattle.definitions.proofs.ZoneNames.{above_itself, above_lowered, lowered_above}
use Rattle.denial_laws.specs.Leading.{exchanged}
use Rattle.denial_laws.specs.Truth.{IsServable, is_signed}
use Rattle.denial_laws.proofs.NameFacts.{strictly-low, strictly_at}
use Rattle.denial_laws.proofs.Verdicts.{verdict_signed}
use Rattle.denial_laws.proofs.VerdictView.{Cut, Gone, Missing, Signed, Starred, Unstarred, View, view}
use Rattle.messages.specs.HandedRr.{HandedRr, among}
use Rattle.messages.specs.Message.{Asked, Message, Spelled, message}
use Rattle.answer_scheme.specs.Answers.{Answers}
use Rattle.answer_terms.specs.Accepting.{zone_of}
use Rattle.answer_terms.specs.Asking.{asks_alias, is_allowed}
use Rattle.answer_terms.specs.Hashing.{HashesHold, hash_in}
use Rattle.answer_terms.proofs.AllowedTypes.{inside_apex}
use Rattle.answer_terms.proofs.Servable.{asked_inside}
use Rattle.answer_zone.specs.Finding.{finds, redirecting}
use Rattle.answer_zone.specs.ZoneAnswers.{answered}
use Rattle.answer_zone_records.specs.AliasFaults.{IsAcceptedWithAliases}
use Rattle.alias_laws.specs.Leading.{leads_elsewhere}
use Rattle.alias_laws.proofs.FoundFacts.{found_decides}
use Rattle.alias_laws.proofs.Leading.{Redirects, redirecting_found, redirector}
use Rattle.answer_judge.specs.Judged.{judged}
use Rattle.answer_judge.specs.Judging.{JudgeInput, Says, is_judged}
use Rattle.answer_findings.specs.Hints.{answer_records, has_cname_hint}
use Rattle.answer_findings.specs.Judgements.{alias_hint, aside, asking}
use Rattle.answer_findings.specs.Seen.{Seen, SeesAlias, SeesDname, SeesOpen, SeesStarAlias, lead_said, named_lead, own_lead, star_lead}
use Rattle.message_laws.specs.InPlace.{SpellsOne, in_place}
use Rattle.message_laws.specs.Shown.{Shows, ShowsAlias, ShowsKeys}
use Rattle.message_laws.proofs.Shown.{SaysOrLacks, judged_there, says_decided, says_or_lacks, shown_decide, usable, zone_servable}
use Rattle.message_laws.proofs.ShownPlace.{ByCname, ByDname, Own, Place, cname_of, dname_of, in_zone, no_alias_type, place}

-- what is found leads on, or leaves the name open
abbrev pub IsLead : Seen → Type 0
IsLead (SeesAlias target) = Unit {0}
IsLead (SeesStarAlias target) = Unit {0}
IsLead SeesOpen = Unit {0}
IsLead (SeesDname owner lead) = Unit {0}
IsLead _ = ⊥

-- The alias that a message suggests is judged, and leads on; of the question itself something is said, or nothing is proven.
pub record IsLed (a : Answers) (k : ℕ) (h : JudgeInput) : Type 0 where
  pub question : Asked
  pub hinted : alias_hint k h ≡ Some question
  pub verdict_is : Verdict
  pub judged_is : judged a k (aside h question) ≡ Says verdict_is
  pub lead : Seen
  pub is_lead : IsLead lead
  pub leads : lead_said h question (Says verdict_is) ≡ Some lead
  pub unproven : SaysOrLacks (judged a k (aside h h.asked))

-- a DNAME that redirects a name stands above it
pub redirecting_above : (z : Zone) (q d : Name) → redirecting z q ≡ Some d → strictly_above d q ≡ true
redirecting_above z [] d e = absurd cc
redirecting_above z (l ∷ q) d e = go (has z (low q) 39 && is_live z (low q)) e (redirecting_above z q d)
  where
    go : (b : Bool) → cond b (Some q) (redirecting z q) ≡ Some d → (redirecting z q ≡ Some d → strictly_above d q ≡ true) → at_or_above d q ≡ true
    go true is later = let same : q ≡ d = cc in subst (λ (x : Name). at_or_above x q ≡ true) same (above_itself q)
    go false is later = strictly_at d q (later is)

-- ---- where a zone's CNAME leads

module _ (z : Zone) (s : IsServable z) (ex : Bool) (h : JudgeInput) (inside : at_or_above (apex_of z) (low h.asked.name) ≡ true) (there : finds z h.asked.name 5 ≡ true) (spells : SpellsOne (verdict z false h.asked.name 5)) where
  abbrev n : Name
  n = h.asked.name

  abbrev cname : Asked
  cname = asking h n 5

  pub record Leads (v : Verdict) : Type 0 where
    pub lead : Seen
    pub is_lead : IsLead lead
    pub leads : lead_said h cname (Says v) ≡ Some lead

  by_own : (datas : List (List ℕ)) → SpellsOne (Records datas) → Leads (Records datas)
  by_own datas (target, one) = record { lead = SeesAlias target; is_lead = tt; leads = ap (named_lead (own_lead h cname)) one }

  by_star : (datas : List (List ℕ)) → SpellsOne (StarRecords datas) → Leads (StarRecords datas)
  by_star datas (target, one) = record { lead = SeesStarAlias target; is_lead = tt; leads = ap (named_lead (star_lead cname)) one }

  by_open : Leads Open
  by_open = record { lead = SeesOpen; is_lead = tt; leads = refl }

  unfound : (v : Verdict) → verdict z false n 5 ≡ v → nat_lt 0 (answered v) ≡ false → Leads (verdict z ex n 5)
  unfound v is none = absurd (false≢true (sym none ∙ sym (ap (λ (x : Verdict). nat_lt 0 (answered x)) is) ∙ there))

  -- what is said of a name that opt-out does not leave open is said without it
  closed : is_open z ex (low n) ≡ false → verdict z ex n 5 ≡ verdict z false n 5
  closed o = verdict-said z ex n (low n) 5 refl ∙ ap (λ b. cases.said z (low n) 5 b (cut z (low n)) (exists z (low n)) (ce z (low n))) o ∙ sym (verdict-said z false n (low n) 5 refl)

  pub cname_leads : Leads (verdict z ex n 5)
  cname_leads = go (view z s n 5 inside)
    where
      starred : (e : Name) → verdict z false n 5 ≡ StarRecords (data_at z (star_under e) 5) → (b : Bool) → is_open z ex (low n) ≡ b → Leads (verdict z ex n 5)
      starred e v false o = subst Leads (sym (closed o ∙ v)) (by_star (data_at z (star_under e) 5) (subst SpellsOne v spells))
      starred e v true o = subst Leads (sym (verdict-open z ex n (low n) 5 refl o)) by_open

      go : View z n 5 → Leads (verdict z ex n 5)
      go (Signed y v) = subst Leads (sym (verdict_signed z ex n 5 y)) (by_own (data_at z (low n) 5) (subst SpellsOne v spells))
      go (Starred e y c w v) = starred e v (is_open z ex (low n)) refl
      go (Missing y w v) = unfound NoType v refl
      go (Cut c e y v) = unfound Delegated v refl
      go (Unstarred e y c w u v) = unfound StarNoType v refl
      go (Gone e y c w v) = unfound NoName v refl

-- ---- a DNAME under a name that is spelled otherwise

pub same_verdict : (z : Zone) (ex : Bool) (n m : Name) (t : ℕ) → low n ≡ low m → verdict z ex n t ≡ verdict z ex m t
same_verdict z ex n m t e = verdict-said z ex n (low m) t (sym e) ∙ sym (verdict-said z ex m (low m) t refl)

module _ (z : Zone) (s : IsServable z) (d : Name) (redirects : Redirects z d) where
  pub dname_signed : is_signed z (low d) 39 ≡ true
  dname_signed =
      and_from (is_live z (low d) && (not (is_delegation z (low d)) || false)) (has z (low d) 39)
      (and_from (is_live z (low d)) (not (is_delegation z (low d)) || false) redirects.live (ap (λ b. not b || false) (s.aliases.uncut (low d) redirects.dname))) redirects.dname

  pub dname_records : (ex : Bool) (owner : Name) → low owner ≡ low d → verdict z ex owner 39 ≡ Records (data_at z (low d) 39)
  dname_records ex owner e = same_verdict z ex owner d 39 e ∙ verdict_signed z ex d 39 dname_signed

-- ---- what is suggested

-- a DNAME above the name
abbrev hints_dname : JudgeInput → Spelled → Bool
hints_dname h r = (r.class == 1) && ((r.rtype == 39) && at_or_above h.apex r.owner && strictly_above r.owner h.asked.name)

-- that, or a CNAME at the name
pub hint_cases : (k : ℕ) (h : JudgeInput) (question : Asked) → alias_hint k h ≡ Some question → ((owner : Name) × (question ≡ asking h owner 39)) ⊎ (question ≡ asking h h.asked.name 5)
hint_cases k h question hinted = go (option_map (λ (r : Spelled). r.owner) (find (hints_dname h) (answer_records k h))) (at_or_above h.apex h.asked.name && not (h.asked.rtype == 5) && has_cname_hint k h) hinted
  where
    go : (o : Option Name) (b : Bool) → (elim o as (λ _. Option Asked) [ Some owner ↦ Some (asking h owner 39) | None ↦ if b then Some (asking h h.asked.name 5) else None ]) ≡ Some question
        → ((owner : Name) × (question ≡ asking h owner 39)) ⊎ (question ≡ asking h h.asked.name 5)
    go (Some owner) b is = inl (owner, (let same : asking h owner 39 ≡ question = cc in sym same))
    go None true is = inr (let same : asking h h.asked.name 5 ≡ question = cc in sym same)
    go None false is = absurd cc

module _ (a : Answers) (k : ℕ) (h : JudgeInput) (mode : Mode) (rs : List HandedRr) (keys : ShowsKeys a k h.apex h.ds h.dnskey_bytes h.now) (read : Message) (reads : message k h.answer_bytes ≡ Ok read)
    (accepted : IsAcceptedWithAliases a.hash h.apex mode h.limit rs) (allowed : is_allowed h.apex h.asked ≡ true) (hashes : HashesHold a.hash mode (zone_of h.apex rs) h.asked.name)
    (shown : ShowsAlias a k h (usable a k h mode rs keys read reads accepted) read mode rs) where
  abbrev z : Zone
  z = zone_of h.apex rs

  abbrev hash : Name → List ℕ
  hash = hash_in a.hash mode

  abbrev keyed : List Dnskey
  keyed = usable a k h mode rs keys read reads accepted

  abbrev m : Name
  m = h.asked.name

  servable_zone : IsServable z
  servable_zone = zone_servable a k h mode rs keys read reads accepted

  inside_low : at_or_above (apex_of z) (low m) ≡ true
  inside_low = above_lowered (low h.apex) m ∙ (asked_inside h.apex h.asked allowed).inside rs

  is_ready : (q : Asked) → (q.class == 1) ≡ true → at_or_above h.apex q.name ≡ true → among (5 ∷ 39 ∷ []) q.rtype ≡ true → is_judged (aside h q) ≡ true
  is_ready q class inside alias = or_left (asks_alias h.apex q) (is_allowed h.apex q) (and_from (among (5 ∷ 39 ∷ []) q.rtype && (q.class == 1)) (at_or_above h.apex q.name) (and_from (among (5 ∷ 39 ∷ []) q.rtype) (q.class == 1) alias class) inside)

  unproven : SaysOrLacks (judged a k (aside h h.asked))
  unproven =
      subst SaysOrLacks (sym (judged_there a k h mode rs keys read reads accepted h.asked true (or_right (asks_alias h.apex h.asked) (is_allowed h.apex h.asked) allowed) refl))
      (says_or_lacks a k h mode rs keys read reads accepted h.asked shown.itself (inside_apex h.apex h.asked allowed) hashes.made true)

  -- a question for an alias that the zone has
  alias_judged : (q : Asked) → shown.question ≡ q → (q.class == 1) ≡ true → at_or_above h.apex q.name ≡ true → among (5 ∷ 39 ∷ []) q.rtype ≡ true → q.rtype < 65536 → finds z q.name q.rtype ≡ true
      → judged a k (aside h q) ≡ Says (verdict z (optout_of mode) q.name q.rtype)
  alias_judged q same class inside alias small there =
      let shows : Shows a k h keyed read mode rs q = subst (λ (x : Asked). Shows a k h keyed read mode rs x) same shown.shows in
      let hold : HashesHold a.hash mode z q.name = subst (λ (x : Asked). HashesHold a.hash mode z x.name) same shown.hashes in
      let said : Verdict = verdict z (optout_of mode) q.name q.rtype in
      judged_there a k h mode rs keys read reads accepted q true (is_ready q class inside alias) refl
      ∙ says_decided a k h mode rs keys read reads accepted q shows.truthful inside hold.made true said
      (shown_decide a k h mode rs keys read reads accepted q shows hold.apart small (found_decides z hash mode q.name q.rtype servable_zone hold.apart small there))

  in_class : (h.asked.class == 1) ≡ true
  in_class = (in_zone h.apex h.asked allowed).0

  -- ---- a CNAME

  by_cname : finds z m h.asked.rtype ≡ false → finds z m 5 ≡ true → in_place z h.asked ≡ cname_of h.asked → shown.question ≡ cname_of h.asked → IsLed a k h
  by_cname here there is same =
      let spells : SpellsOne (verdict z false m 5) = subst (λ (q : Asked). SpellsOne (verdict z false q.name q.rtype)) is (shown.leads here) in
      let leads = cname_leads z servable_zone (optout_of mode) h inside_low there spells in
      record {
        question = cname_of h.asked;
        hinted = shown.hinted ∙ ap (λ (q : Asked). Some q) same;
        verdict_is = verdict z (optout_of mode) m 5;
        judged_is = alias_judged (cname_of h.asked) same in_class (inside_apex h.apex h.asked allowed) refl (lit< tt) there;
        lead = leads.lead;
        is_lead = leads.is_lead;
        leads = leads.leads;
        unproven = unproven;
      }

  -- ---- a DNAME

  by_dname : (d owner : Name) → finds z m h.asked.rtype ≡ false → redirecting z m ≡ Some d → in_place z h.asked ≡ dname_of h.asked d → shown.question ≡ dname_of h.asked owner → low owner ≡ low d → IsLed a k h
  by_dname d owner here led is same named =
      let redirects : Redirects z d = redirector z m d led in
      let spells : SpellsOne (Records (data_at z (low d) 39)) =
      subst SpellsOne (dname_records z servable_zone d redirects false d refl) (subst (λ (q : Asked). SpellsOne (verdict z false q.name q.rtype)) is (shown.leads here)) in
      let above : strictly_above owner m ≡ true = sym (strictly-low owner m) ∙ ap (λ o. strictly_above o (low m)) named ∙ strictly-low d m ∙ redirecting_above z m d led in
      let d_inside : at_or_above (apex_of z) (low d) ≡ true = (and_parts (at_or_above (apex_of z) (low d)) (is_none (cut_above z (low d))) redirects.live).0 in
      let inside : at_or_above h.apex owner ≡ true = sym (above_lowered h.apex owner) ∙ ap (at_or_above h.apex) named ∙ sym (lowered_above h.apex (low d)) ∙ d_inside in
      let there : finds z owner 39 ≡ true = ap (λ (v : Verdict). nat_lt 0 (answered v)) (same_verdict z false owner d 39 named) ∙ redirecting_found z servable_zone m d led in
      let lead : Seen = SeesDname owner (exchanged m owner spells.0) in
      record {
        question = dname_of h.asked owner;
        hinted = shown.hinted ∙ ap (λ (q : Asked). Some q) same;
        verdict_is = Records (data_at z (low d) 39);
        judged_is = alias_judged (dname_of h.asked owner) same in_class inside refl (lit< tt) there ∙ ap (λ (v : Verdict). Says v) (dname_records z servable_zone d redirects (optout_of mode) owner named);
        lead = lead;
        is_lead = tt;
        leads = ap (named_lead (own_lead h (dname_of h.asked owner))) spells.1 ∙ ap (λ b. if b then Some lead else None) above;
        unproven = unproven;
      }

  -- ---- either

  abbrev Led : Type 0
  Led = IsLed a k h × (leads_elsewhere z m h.asked.rtype ≡ true)

  -- the question's own type is no alias's
  wrong_type : (t : ℕ) → eqb h.asked.rtype t ≡ false → h.asked.rtype ≡ t → ⊥
  wrong_type t other is = false≢true (sym other ∙ eq-eqb h.asked.rtype t is)

  pub shown_led : Led
  shown_led = go (place z h.asked) (hint_cases k h shown.question shown.hinted)
    where
      or_some : (b : Bool) → (b || true) ≡ true
      or_some true = refl
      or_some false = refl

      rtype_at : (q : Asked) → in_place z h.asked ≡ q → shown.question.rtype ≡ q.rtype
      rtype_at q is = shown.rtype_is ∙ ap (λ (x : Asked). x.rtype) is

      go : Place z h.asked → ((owner : Name) × (shown.question ≡ asking h owner 39)) ⊎ (shown.question ≡ asking h m 5) → Led
      go (Own is none) (inl (owner, same)) = absurd (wrong_type 39 (no_alias_type h.apex h.asked allowed).1 (sym (rtype_at h.asked is) ∙ ap (λ (x : Asked). x.rtype) same))
      go (Own is none) (inr same) = absurd (wrong_type 5 (no_alias_type h.apex h.asked allowed).0 (sym (rtype_at h.asked is) ∙ ap (λ (x : Asked). x.rtype) same))
      go (ByCname here there is) (inr same) = (by_cname here there is same, (λ i. not (here i) && (there i || is_some (redirecting z m))))
      go (ByCname here there is) (inl (owner, same)) = absurd (let types : 39 ≡ 5 = sym (ap (λ (x : Asked). x.rtype) same) ∙ rtype_at (cname_of h.asked) is in omega (arith, types))
      go (ByDname d here led is) (inl (owner, same)) = (
        by_dname d owner here led is same (sym (ap (λ (x : Asked). low x.name) same) ∙ shown.name_is ∙ ap (λ (x : Asked). low x.name) is),
        (λ i. not (here i) && (finds z m 5 || is_some (led i))) ∙ or_some (finds z m 5),
      )
      go (ByDname d here led is) (inr same) = absurd (let types : 5 ≡ 39 = sym (ap (λ (x : Asked). x.rtype) same) ∙ rtype_at (dname_of h.asked d) is in omega (arith, types))
