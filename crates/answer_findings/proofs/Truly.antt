-- What is found is so of the zone.
use Rattle.std.proofs.Common.{◌≡◌, Bool, true, false, ◌&&◌, ◌||◌, not, List, [], ◌∷◌, Option, Some, None, Result, Ok, Err, refl, sym, ap, subst, ◌∙◌, inl, inr}
use Rattle.std.specs.Prelude.{◌==◌, Contains, IfSome, if◌then◌else◌}
use Rattle.std.specs.Option.{is_some}
use Rattle.std.proofs.lemmas.Bool.{and_parts, eqb-true, false≢true}
use Rattle.definitions.specs.Limits.{pointer_limit}
use Rattle.definitions.specs.Name.{Name, low, same, wire, at_or_above, strictly_above}
use Rattle.definitions.specs.Zone.{Zone, Verdict, Records, NoType, NoName, StarRecords, StarNoType, Delegated, Open, Unsigned, apex_of, has, is_delegation, verdict}
use Rattle.definitions.specs.ZoneChain.{optout_of}
use Rattle.definitions.proofs.ZoneNames.{low-low}
use Rattle.denial_laws.specs.Leading.{exchanged}
use Rattle.denial_laws.proofs.NameFacts.{names_same, same_names, strictly_unlike}
use Rattle.messages.specs.Message.{Asked}
use Rattle.answer_judge.specs.Honest.{IsSaidByOne, SaysOneOf}
use Rattle.answer_judge.specs.Versions.{Version, zone_in}
use Rattle.answer_judge_table.proofs.GivenLists.{has_contained}
use Rattle.answer_judge.specs.Judging.{Answer, Says, Refuses, JudgeInput, answer_of}
use Rattle.answer_judge.specs.declared.verdict.Judgement.{Judgement}
use Rattle.answer_judge.specs.declared.verdict.Refused.{Refused}
use Rattle.answer_judge.specs.declared.verdict.Refusal.{Refusal}
use Rattle.answer_judge_table.specs.Outcomes.{IsJudgedBy}
use Rattle.answer_judge_table.specs.Table.{AreTrue, Checked, Tried, answers_with, passes_in}
use Rattle.answer_findings.specs.declared.side_judgements.SideJudgement.{SideJudgement}
use Rattle.answer_findings.specs.declared.side_judgements.Judgements.{Judgements}
use Rattle.answer_findings.specs.Found.{AreJudgements, IsBeside}
use Rattle.answer_findings.specs.Judgements.{IsMade, alias_hint, alias_question, aside, asked_in, asking, cut_question, ds_question, is_delegated, is_no_type, is_not_proven, ns_question, question_of, says_delegated, seeks_delegation}
use Rattle.answer_findings.specs.Laws.{AnswersDs}
use Rattle.answer_findings.specs.Seen.{Seen, SeesVerdict, SeesAlias, SeesStarAlias, SeesOpen, SeesDname, SeesReferral, answer_found, answers_ds, cut_found, delegates_found, delegates_said, first_found, found_by, found_or, lead_found, lead_said, named_lead, no_ds_found, one_name, own_lead, referral_found, referral_said, refusal_found, star_lead, verdict_found}
use Rattle.answer_findings.specs.Truth.{AreHonestBeside, CutsAt, Delegates, IsSo}
use Rattle.answer_findings.proofs.Cuts.{ds_verdicts_tell_delegations, own_ds_verdicts_cut}
use Rattle.answer_findings.proofs.OneName.{one_name_is}
use Rattle.answer_findings.proofs.Renamed.{dnames_redirect, open_whatever_asked, own_cnames_rename, records_are_there, star_cnames_rename}
use Rattle.answer_findings.proofs.Beside.{SeeksCut, cname_beside, cut_above, cut_ds_beside, cut_ns_beside, dname_beside, name_ns_beside, seeks_alias, seeks_cut}

-- ---- what answers say

delegated_is : (v : Verdict) → is_delegated v ≡ true → v ≡ Delegated
delegated_is (Records ds) h = absurd (false≢true h)
delegated_is NoType h = absurd (false≢true h)
delegated_is NoName h = absurd (false≢true h)
delegated_is (StarRecords ds) h = absurd (false≢true h)
delegated_is StarNoType h = absurd (false≢true h)
delegated_is Delegated h = refl
delegated_is Open h = absurd (false≢true h)
delegated_is Unsigned h = absurd (false≢true h)

no_type_is : (v : Verdict) → is_no_type v ≡ true → v ≡ NoType
no_type_is (Records ds) h = absurd (false≢true h)
no_type_is NoType h = refl
no_type_is NoName h = absurd (false≢true h)
no_type_is (StarRecords ds) h = absurd (false≢true h)
no_type_is StarNoType h = absurd (false≢true h)
no_type_is Delegated h = absurd (false≢true h)
no_type_is Open h = absurd (false≢true h)
no_type_is Unsigned h = absurd (false≢true h)

says_delegated_is : (a : Answer) → says_delegated a ≡ true → a ≡ Says Delegated
says_delegated_is (Says v) h = ap (λ w. Says w) (delegated_is v h)
says_delegated_is (Refuses e) h = absurd (false≢true h)

-- the apex of a zone is no delegation
apex_undelegated : (z : Zone) (name : Name) → same (apex_of z) (low name) ≡ true → is_delegation z (low name) ≡ true → ⊥
apex_undelegated z name apex d = strictly_unlike (apex_of z) (low name) (and_parts (has z (low name) 2) (strictly_above (apex_of z) (low name)) d).1 apex

-- of one version there is no other
one_version : (versions : List Version) (v w : Version) → versions ≡ v ∷ [] → Contains versions w → w ≡ v
one_version versions v w e c = elim (has_contained (v ∷ []) w (subst (λ vs. Contains vs w) e c)) [ inl is ↦ is | inr none ↦ absurd none ]

module _ (table : List Checked) (h : JudgeInput) (passes : Tried → Bool) (truly : AreTrue (passes_in table) passes) (versions : List Version) (x : AreHonestBeside (answers_with passes) pointer_limit h versions) where
  abbrev zone : Version → Zone
  zone v = zone_in h.apex v

  own_said : (said : Result Judgement Refused) → IsJudgedBy table h said → SaysOneOf h versions (answer_of said)
  own_said said is = is.honest passes truly versions x.itself

  beside_said : (asked : Asked) → IsBeside h asked → (said : Result Judgement Refused) → IsJudgedBy table (aside h asked) said → SaysOneOf (aside h asked) versions (answer_of said)
  beside_said asked b said is = is.honest passes truly versions (x.beside asked b)

  -- ---- aliases

  cname_so : (h.asked.rtype == 5) ≡ false → (a : Answer) → SaysOneOf (aside h (asking h h.asked.name 5)) versions a → (s : Seen) → lead_said h (asking h h.asked.name 5) a ≡ Some s → IsSo h versions s
  cname_so other (Says (Records ds)) said s e = go (one_name ds) refl e
    where
      go : (o : Option Name) → one_name ds ≡ o → named_lead (own_lead h (asking h h.asked.name 5)) o ≡ Some s → IsSo h versions s
      go None n e = absurd cc
      go (Some target) n e =
          let is : SeesAlias target ≡ s = cc in
          let v = said.version in
          let says = said.verdict_is ∙ ap (λ d. Records d) (one_name_is ds target n) in
          let rename = own_cnames_rename (zone v) (optout_of v.mode) h.asked.name target h.asked.rtype says said.no_alias other in
          subst (IsSo h versions) is (record { version = v; there = said.there; says = says; leads = inr rename })
  cname_so other (Says (StarRecords ds)) said s e = go (one_name ds) refl e
    where
      go : (o : Option Name) → one_name ds ≡ o → named_lead (star_lead (asking h h.asked.name 5)) o ≡ Some s → IsSo h versions s
      go None n e = absurd cc
      go (Some target) n e =
          let is : SeesStarAlias target ≡ s = cc in
          let v = said.version in
          let says = said.verdict_is ∙ ap (λ d. StarRecords d) (one_name_is ds target n) in
          let rename = star_cnames_rename (zone v) (optout_of v.mode) h.asked.name target h.asked.rtype says said.no_alias other in
          subst (IsSo h versions) is (record { version = v; there = said.there; says = says; leads = inr rename })
  cname_so other (Says NoType) said s e = absurd cc
  cname_so other (Says NoName) said s e = absurd cc
  cname_so other (Says StarNoType) said s e = absurd cc
  cname_so other (Says Delegated) said s e = absurd cc
  cname_so other (Says Open) said s e =
      let is : SeesOpen ≡ s = cc in
      let v = said.version in
      let left = open_whatever_asked (zone v) (optout_of v.mode) h.asked.name 5 h.asked.rtype said.verdict_is said.no_alias in
      subst (IsSo h versions) is (record { version = v; there = said.there; verdict_is = left.0; no_alias = left.1 })
  cname_so other (Says Unsigned) said s e = absurd cc
  cname_so other (Refuses r) said s e = absurd cc

  dname_so : (owner : Name) → strictly_above owner h.asked.name ≡ true → (a : Answer) → SaysOneOf (aside h (asking h owner 39)) versions a → (s : Seen) → lead_said h (asking h owner 39) a ≡ Some s → IsSo h versions s
  dname_so owner above (Says (Records ds)) said s e = go (one_name ds) refl e
    where
      led : (target : Name) → one_name ds ≡ Some target → (b : Bool) → strictly_above owner h.asked.name ≡ b
          → (if b then Some (SeesDname owner (exchanged h.asked.name owner target)) else None) ≡ Some s → IsSo h versions s
      led target n true b e =
          let is : SeesDname owner (exchanged h.asked.name owner target) ≡ s = cc in
          let v = said.version in
          let says = said.verdict_is ∙ ap (λ d. Records d) (one_name_is ds target n) in
          let has = records_are_there (zone v) (optout_of v.mode) owner 39 (wire target ∷ []) says in
          let redirect = dnames_redirect (zone v) (optout_of v.mode) owner target h.asked.name says above in
          subst (IsSo h versions) is (record { version = v; there = said.there; target = target; has = has; above = above; is = refl; leads = inl redirect })
      led target n false b e = absurd cc

      go : (o : Option Name) → one_name ds ≡ o → named_lead (own_lead h (asking h owner 39)) o ≡ Some s → IsSo h versions s
      go None n e = absurd cc
      go (Some target) n e = led target n (strictly_above owner h.asked.name) refl e
  dname_so owner above (Says (StarRecords ds)) said s e = go (one_name ds) e
    where
      go : (o : Option Name) → named_lead (star_lead (asking h owner 39)) o ≡ Some s → IsSo h versions s
      go None e = absurd cc
      go (Some target) e = absurd cc
  dname_so owner above (Says NoType) said s e = absurd cc
  dname_so owner above (Says NoName) said s e = absurd cc
  dname_so owner above (Says StarNoType) said s e = absurd cc
  dname_so owner above (Says Delegated) said s e = absurd cc
  dname_so owner above (Says Open) said s e = absurd cc
  dname_so owner above (Says Unsigned) said s e = absurd cc
  dname_so owner above (Refuses r) said s e = absurd cc

  -- where an alias leads that a judgement shows
  alias_so : (asked : Asked) → alias_hint pointer_limit h ≡ Some asked → (said : Result Judgement Refused) → IsJudgedBy table (aside h asked) said → (s : Seen) → lead_said h asked (answer_of said) ≡ Some s → IsSo h versions s
  alias_so asked e said is s led = elim (seeks_alias pointer_limit h asked e) [
    | inl d ↦
        dname_so d.owner d.above (answer_of said)
        (beside_said (asking h d.owner 39) (dname_beside h d.owner d.inside d.above) said (subst (λ q. IsJudgedBy table (aside h q) said) (sym d.is) is))
        s (ap (λ (q : Asked). lead_said h q (answer_of said)) d.is ∙ led)
    | inr c ↦
        cname_so c.other (answer_of said)
        (beside_said (asking h h.asked.name 5) (cname_beside h c.inside) said (subst (λ q. IsJudgedBy table (aside h q) said) (sym c.is) is))
        s (ap (λ (q : Asked). lead_said h q (answer_of said)) c.is ∙ led)
  ]

  lead_so : (made : Option SideJudgement) → IfSome made (IsMade table h) → asked_in made ≡ alias_hint pointer_limit h → (s : Seen) → lead_found h made ≡ Some s → IsSo h versions s
  lead_so None is asked s e = absurd cc
  lead_so (Some m) is asked s e = alias_so (question_of m) (sym asked) m.said is s e

  -- ---- referrals

  ds_so : (c : Name) → strictly_above h.apex c ≡ true → at_or_above c h.asked.name ≡ true → (a : Answer) → SaysOneOf (aside h (asking h c 43)) versions a → (s : Seen) → referral_said c a ≡ Some s → IsSo h versions s
  ds_so c below above (Says (Records ds)) said s e =
      let is : SeesReferral c ds ≡ s = cc in
      let v = said.version in
      let has = records_are_there (zone v) (optout_of v.mode) c 43 ds said.verdict_is in
      subst (IsSo h versions) is (record { version = v; there = said.there; has = has; below = below; above = above })
  ds_so c below above (Says (StarRecords ds)) said s e = absurd cc
  ds_so c below above (Says NoType) said s e = absurd cc
  ds_so c below above (Says NoName) said s e = absurd cc
  ds_so c below above (Says StarNoType) said s e = absurd cc
  ds_so c below above (Says Delegated) said s e = absurd cc
  ds_so c below above (Says Open) said s e = absurd cc
  ds_so c below above (Says Unsigned) said s e = absurd cc
  ds_so c below above (Refuses r) said s e = absurd cc

  referral_so : (made : Option SideJudgement) → IfSome made (IsMade table h) → asked_in made ≡ cut_question pointer_limit h 43 → (s : Seen) → referral_found made ≡ Some s → IsSo h versions s
  referral_so None is asked s e = absurd cc
  referral_so (Some m) is asked s e =
      let c : SeeksCut pointer_limit h 43 (question_of m) = seeks_cut pointer_limit h 43 (question_of m) (sym asked) in
      let at = cut_above pointer_limit h c.cut c.hint in
      ds_so c.cut at.0 at.1 (answer_of m.said)
      (beside_said (asking h c.cut 43) (cut_ds_beside pointer_limit h c.cut c.hint) m.said (subst (λ q. IsJudgedBy table (aside h q) m.said) (sym c.is) is))
      s (ap (λ (q : Asked). referral_said q.name (answer_of m.said)) c.is ∙ e)

  -- ---- cuts

  -- what a judgement for DS says of the one version
  ds_answered : (c : Name) (v : Version) → versions ≡ v ∷ [] → (a : Answer) → SaysOneOf (aside h (asking h c 43)) versions a → answers_ds a ≡ true → AnswersDs (zone v) (optout_of v.mode) c
  ds_answered c v one (Says (Records ds)) said b = inr (ds, subst (λ w. verdict (zone w) (optout_of w.mode) c 43 ≡ Records ds) (one_version versions v said.version one said.there) said.verdict_is)
  ds_answered c v one (Says NoType) said b = inl (subst (λ w. verdict (zone w) (optout_of w.mode) c 43 ≡ NoType) (one_version versions v said.version one said.there) said.verdict_is)
  ds_answered c v one (Says (StarRecords ds)) said b = absurd (false≢true b)
  ds_answered c v one (Says NoName) said b = absurd (false≢true b)
  ds_answered c v one (Says StarNoType) said b = absurd (false≢true b)
  ds_answered c v one (Says Delegated) said b = absurd (false≢true b)
  ds_answered c v one (Says Open) said b = absurd (false≢true b)
  ds_answered c v one (Says Unsigned) said b = absurd (false≢true b)
  ds_answered c v one (Refuses r) said b = absurd (false≢true b)

  ns_delegated : (c : Name) (v : Version) → versions ≡ v ∷ [] → (a : Answer) → SaysOneOf (aside h (asking h c 2)) versions a → says_delegated a ≡ true → verdict (zone v) (optout_of v.mode) c 2 ≡ Delegated
  ns_delegated c v one a said b =
      let k : IsSaidByOne (aside h (asking h c 2)) versions Delegated = subst (SaysOneOf (aside h (asking h c 2)) versions) (says_delegated_is a b) said in
      subst (λ w. verdict (zone w) (optout_of w.mode) c 2 ≡ Delegated) (one_version versions v k.version one k.there) k.verdict_is

  cut_so : (ns ds : Option SideJudgement) → IfSome ns (IsMade table h) → IfSome ds (IsMade table h) → asked_in ns ≡ cut_question pointer_limit h 2 → asked_in ds ≡ cut_question pointer_limit h 43 → CutsAt h versions (cut_found ns ds)
  cut_so None ds ns_is ds_is p q = tt
  cut_so (Some m) None ns_is ds_is p q = tt
  cut_so (Some m) (Some n) ns_is ds_is p q = go (says_delegated (answer_of m.said) && answers_ds (answer_of n.said)) refl
    where
      go : (b : Bool) → (says_delegated (answer_of m.said) && answers_ds (answer_of n.said)) ≡ b → CutsAt h versions (if b then Some m.question.name else None)
      go false e = tt
      go true e = λ v one.
          let both = and_parts (says_delegated (answer_of m.said)) (answers_ds (answer_of n.said)) e in
          let c : SeeksCut pointer_limit h 2 (question_of m) = seeks_cut pointer_limit h 2 (question_of m) (sym p) in
          let d : SeeksCut pointer_limit h 43 (question_of n) = seeks_cut pointer_limit h 43 (question_of n) (sym q) in
          let alike : d.cut ≡ c.cut = (let e : Some d.cut ≡ Some c.cut = sym d.hint ∙ c.hint in cc) in
          let ns_said = beside_said (asking h c.cut 2) (cut_ns_beside pointer_limit h c.cut c.hint) m.said (subst (λ q. IsJudgedBy table (aside h q) m.said) (sym c.is) ns_is) in
          let ds_said = beside_said (asking h d.cut 43) (cut_ds_beside pointer_limit h d.cut d.hint) n.said (subst (λ q. IsJudgedBy table (aside h q) n.said) (sym d.is) ds_is) in
          let delegated = ns_delegated c.cut v one (answer_of m.said) ns_said both.0 in
          let answers : AnswersDs (zone v) (optout_of v.mode) c.cut = subst (AnswersDs (zone v) (optout_of v.mode)) alike (ds_answered d.cut v one (answer_of n.said) ds_said both.1) in
          let is : c.cut ≡ m.question.name = ap (λ (q : Asked). q.name) c.is in
          own_ds_verdicts_cut (zone v) (optout_of v.mode) c.cut h.asked.name delegated answers (cut_above pointer_limit h c.cut c.hint).1
          ∙ ap (λ n. Some (low n)) is

  -- ---- names without DS

  abbrev sought_ns : Bool → Option Asked
  sought_ns b = if b then Some (asking h h.asked.name 2) else None

  -- the apex is no delegation
  apex_so : same h.asked.name h.apex ≡ true → Delegates h versions false
  apex_so apex v one = (
    λ e. absurd (false≢true e),
    λ d. absurd (apex_undelegated (zone v) h.asked.name (names_same (low h.apex) (low h.asked.name) (low-low h.apex ∙ sym (same_names h.asked.name h.apex apex) ∙ sym (low-low h.asked.name))) d),
  )

  -- what a judgement for NS says of it
  ns_so : (own : IsSaidByOne h versions NoType) → h.asked.rtype ≡ 43 → (a : Answer) → SaysOneOf (aside h (asking h h.asked.name 2)) versions a → (d : Bool) → delegates_said a ≡ Some d → Delegates h versions d
  ns_so own t (Refuses r) said d e = absurd cc
  ns_so own t (Says w) said d e = λ v one.
      let is : is_delegated w ≡ d = cc in
      let lacks : verdict (zone v) (optout_of v.mode) h.asked.name 43 ≡ NoType =
      ap (verdict (zone v) (optout_of v.mode) h.asked.name) (sym t)
      ∙ subst (λ u. verdict (zone u) (optout_of u.mode) h.asked.name h.asked.rtype ≡ NoType) (one_version versions v own.version one own.there) own.verdict_is in
      let ns : verdict (zone v) (optout_of v.mode) h.asked.name 2 ≡ w =
      subst (λ u. verdict (zone u) (optout_of u.mode) h.asked.name 2 ≡ w) (one_version versions v said.version one said.there) said.verdict_is in
      let tells = ds_verdicts_tell_delegations (zone v) (optout_of v.mode) h.asked.name lacks in (
        λ t. tells.delegates.0 (ns ∙ delegated_is w (is ∙ t)),
        λ k. sym is ∙ ap is_delegated (sym ns ∙ tells.delegates.1 k),
      )

  made_ns_so : (own : IsSaidByOne h versions NoType) → h.asked.rtype ≡ 43 → (ns : Option SideJudgement) → IfSome ns (IsMade table h) → (seeks : Bool) → asked_in ns ≡ sought_ns seeks → (d : Bool)
      → (elim ns as (λ _. Option Bool) [ None ↦ None | Some m ↦ delegates_said (answer_of m.said) ]) ≡ Some d → (seeks ≡ true → strictly_above h.apex h.asked.name ≡ true) → Delegates h versions d
  made_ns_so own t None is seeks asked d e below = absurd cc
  made_ns_so own t (Some m) is false asked d e below = absurd cc
  made_ns_so own t (Some m) is true asked d e below =
      let q : question_of m ≡ asking h h.asked.name 2 = cc in
      let said = beside_said (asking h h.asked.name 2) (name_ns_beside h (below refl)) m.said (subst (λ q. IsJudgedBy table (aside h q) m.said) q is) in
      ns_so own t (answer_of m.said) said d e

  delegates_so : (own : IsSaidByOne h versions NoType) → h.asked.rtype ≡ 43 → (ns : Option SideJudgement) → IfSome ns (IsMade table h) → asked_in ns ≡ sought_ns (seeks_delegation h (Says NoType)) → (d : Bool) → delegates_found h ns ≡ Some d → Delegates h versions d
  delegates_so own t ns is asked d e = go (same h.asked.name h.apex) refl e
    where
      go : (b : Bool) → same h.asked.name h.apex ≡ b
          → (if b then Some false else elim ns as (λ _. Option Bool) [ None ↦ None | Some m ↦ delegates_said (answer_of m.said) ]) ≡ Some d → Delegates h versions d
      go true apex e = let is : false ≡ d = cc in subst (Delegates h versions) is (apex_so apex)
      go false apex e = made_ns_so own t ns is (seeks_delegation h (Says NoType)) asked d e (λ s. (and_parts (true && (h.asked.rtype == 43)) (strictly_above h.apex h.asked.name) s).1)

  -- ---- all of it

  no_ds_so : (own : IsSaidByOne h versions NoType) → h.asked.rtype ≡ 43 → (ns : Option SideJudgement) → IfSome ns (IsMade table h) → asked_in ns ≡ sought_ns (seeks_delegation h (Says NoType)) → IsSo h versions (no_ds_found (delegates_found h ns))
  no_ds_so own t ns is asked = go (delegates_found h ns) refl
    where
      go : (o : Option Bool) → delegates_found h ns ≡ o → IsSo h versions (no_ds_found o)
      go None e = own
      go (Some d) e = (own, delegates_so own t ns is asked d e)

  -- the verdict on the name, with what the other judgements tell
  verdict_so : (ns ds : Option SideJudgement) → IfSome ns (IsMade table h) → IfSome ds (IsMade table h) → (w : Verdict) → IsSaidByOne h versions w → (leads : Bool)
      → asked_in ns ≡ ns_question pointer_limit h (Says w) → asked_in ds ≡ ds_question pointer_limit h (Says w) leads → IsSo h versions (verdict_found h ns ds w)
  verdict_so ns ds p q (Records d) said leads e f = said
  verdict_so ns ds p q NoName said leads e f = said
  verdict_so ns ds p q (StarRecords d) said leads e f = said
  verdict_so ns ds p q StarNoType said leads e f = said
  verdict_so ns ds p q Open said leads e f = said
  verdict_so ns ds p q Unsigned said leads e f = said
  verdict_so ns ds p q Delegated said leads e f = (said, cut_so ns ds p q e f)
  verdict_so ns ds p q NoType said leads e f = go (h.asked.rtype == 43) refl
    where
      go : (b : Bool) → (h.asked.rtype == 43) ≡ b → IsSo h versions (if b then no_ds_found (delegates_found h ns) else SeesVerdict NoType)
      go true t = no_ds_so said (eqb-true h.asked.rtype 43 t) ns p e
      go false t = said

  -- what is found where nothing is proven
  unproven_so : (alias ds : Option SideJudgement) → IfSome alias (IsMade table h) → IfSome ds (IsMade table h) → asked_in alias ≡ alias_hint pointer_limit h
      → (is_some (lead_found h alias) ≡ false → asked_in ds ≡ cut_question pointer_limit h 43) → (e : Refusal) (s : Seen) → found_or e (first_found (lead_found h alias) (referral_found ds)) ≡ Ok s → IsSo h versions s
  unproven_so alias ds p q asked cut r s e = go (lead_found h alias) refl cut e
    where
      led : (o : Option Seen) → referral_found ds ≡ o → asked_in ds ≡ cut_question pointer_limit h 43 → found_or r o ≡ Ok s → IsSo h versions s
      led None n c e = absurd cc
      led (Some t) n c e = let is : t ≡ s = cc in subst (IsSo h versions) is (referral_so ds q c t n)

      go : (o : Option Seen) → lead_found h alias ≡ o → (is_some o ≡ false → asked_in ds ≡ cut_question pointer_limit h 43) → found_or r (first_found o (referral_found ds)) ≡ Ok s → IsSo h versions s
      go (Some t) n c e = let is : t ≡ s = cc in subst (IsSo h versions) is (lead_so alias p asked t n)
      go None n c e = led (referral_found ds) refl (c refl) e

  refusal_so : (alias ds : Option SideJudgement) → IfSome alias (IsMade table h) → IfSome ds (IsMade table h) → (e : Refusal) → asked_in alias ≡ alias_question pointer_limit h (Refuses e)
      → asked_in ds ≡ ds_question pointer_limit h (Refuses e) (is_some (lead_found h alias)) → (s : Seen) → refusal_found (lead_found h alias) ds e ≡ Ok s → IsSo h versions s
  refusal_so alias ds p q r asked cut s e = go (is_not_proven r) refl asked cut e
    where
      go : (b : Bool) → is_not_proven r ≡ b → asked_in alias ≡ (if b then alias_hint pointer_limit h else None)
          → asked_in ds ≡ (if false || (b && not (is_some (lead_found h alias))) then cut_question pointer_limit h 43 else None)
          → (if b then found_or r (first_found (lead_found h alias) (referral_found ds)) else Err r) ≡ Ok s → IsSo h versions s
      go false n a c e = absurd cc
      go true n a c e = unproven_so alias ds p q a (λ none. c ∙ ap (λ (b : Bool). if not b then cut_question pointer_limit h 43 else None) none) r s e

  -- what judgements come to
  pub found_so : (js : Judgements) → AreJudgements table h js → (s : Seen) → Ok s ≡ found_by h js → IsSo h versions s
  found_so js are s e = go (answer_of js.own) refl (own_said js.own are.own) (sym e)
    where
      go : (a : Answer) → answer_of js.own ≡ a → SaysOneOf h versions a → answer_found h js a ≡ Ok s → IsSo h versions s
      go (Says w) n said e =
          let is : verdict_found h js.ns js.ds w ≡ s = cc in
          subst (IsSo h versions) is (verdict_so js.ns js.ds are.ns.judged are.ds.judged w said (is_some (lead_found h js.alias)) (are.ns.asked ∙ ap (ns_question pointer_limit h) n) (are.ds.asked ∙ ap (λ a. ds_question pointer_limit h a (is_some (lead_found h js.alias))) n))
      go (Refuses r) n said e = refusal_so js.alias js.ds are.alias.judged are.ds.judged r (are.alias.asked ∙ ap (alias_question pointer_limit h) n) (are.ds.asked ∙ ap (λ a. ds_question pointer_limit h a (is_some (lead_found h js.alias))) n) s e
