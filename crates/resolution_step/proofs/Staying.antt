-- What a message tells stays proved as long as it lasts.
use Rattle.std.proofs.Common.{◌≡◌, ℕ, ◌+◌, ◌≤◌, Bool, true, false, ◌&&◌, ◌||◌, not, List, Option, Some, None, Result, Ok, Err, IfSome, refl, sym, ap, subst, ◌∙◌, inl, inr, arith}
use Rattle.std.specs.Prelude.{◌/◌, ◌==◌, length, min, nat_eq, unwrap_or, if◌then◌else◌}
use Rattle.std.specs.Option.{is_some}
use Rattle.std.proofs.lemmas.Bool.{and_parts, false≢true}
use Rattle.definitions.specs.Limits.{pointer_limit}
use Rattle.definitions.specs.Name.{Name, same, strictly_above}
use Rattle.definitions.specs.Zone.{Verdict, Records, NoType, NoName, StarRecords, StarNoType, Delegated, Open, Unsigned}
use Rattle.denial_laws.specs.Leading as leading
use Rattle.messages.specs.Message.{AreOctets, Asked, Message, message}
use Rattle.messages.specs.declared.error.MessageError.{MessageError}
use Rattle.answer_scheme.specs.Answers.{Answers}
use Rattle.answer_judge.specs.Judging.{Answer, Says, Refuses, JudgeInput, answer_of, first_refusal}
use Rattle.answer_judge.specs.declared.verdict.Judgement.{Judgement}
use Rattle.answer_judge_facts.specs.declared.validity.Validity.{Validity}
use Rattle.answer_judge.specs.declared.verdict.Refusal.{Refusal}
use Rattle.answer_judge.specs.declared.verdict.Refusal.TheVariants as r
use Rattle.answer_judge.specs.declared.verdict.Refused.{Refused}
use Rattle.answer_judge.specs.Judged.{judged, judged_bytes, judged_messages}
use Rattle.answer_judge.specs.Lasts.{at_moment, validity_in_messages}
use Rattle.answer_judge.specs.Lasts as facts
use Rattle.answer_judge.proofs.StayAlike.{verdicts_last}
use Rattle.answer_judge_table.specs.Outcomes.{IsJudgedBy}
use Rattle.answer_findings.specs.Table.{AgreesWith, Checked, answers_with, passes_in}
use Rattle.answer_findings.specs.Found.{IsFound, IsFoundBy}
use Rattle.answer_findings.specs.Judgements.{IsMade, alias_hint, alias_question, aside, asked_in, asking, cut_question, ds_question, is_delegated, is_not_proven, ns_question, question_of, says_delegated, seeks_delegation}
use Rattle.answer_findings.specs.Lasts.{validity_by, validity_in, validity_of, validities_of, least_of}
use Rattle.answer_findings.specs.Seen.{Seen, SeesVerdict, SeesDelegated, SeesNoDs, SeesAlias, SeesStarAlias, SeesOpen, SeesDname, SeesReferral, answer_found, answers_ds, cut_found, delegates_found, delegates_said, first_found, found_or, lead_found, lead_said, named_lead, no_ds_found, one_name, open_lead, own_lead, referral_found, referral_said, seen, star_lead, verdict_found}
use Rattle.answer_findings.specs.declared.meaning.AnswerOutcome.{AnswerOutcome}
use Rattle.answer_findings.specs.declared.meaning.AnswerOutcome.TheVariants as f
use Rattle.resolution_step.specs.Told.{StepSeen, TellsNothing, AsksFor, Search, Sees, Wants, IsCutTold, IsSearched, IsSearchTold, IsSeenTold, IsTold, IsToldAt, at_cut, cut_searched, cut_told, search_of, seen_told}
use Rattle.resolution_step.specs.Told as tells_of
use Rattle.resolution_step.specs.declared.judged_step.Counts.{Counts}
use Rattle.resolution_step.specs.Proved.{IsSaid, IsSaidAside, IsLeadProved, IsWhetherProved, Proves, IsCutProved, IsProvedAt, IsProved, tells, ToldStaysProved, CutToldStaysProved}

-- ---- so many seconds

-- what says how long it lasts, lasts so many seconds
abbrev pub LastsFor : ℕ → Option Validity → Type 0
LastsFor n validity = IfSome validity (λ l. n ≤ l.seconds)

pub both_last : (n : ℕ) (a b : Option Validity) → LastsFor n (least_of a b) → LastsFor n a × LastsFor n b
both_last n (Some a) (Some b) lasts = let few : n ≤ min a.seconds b.seconds = lasts in (omega (arith, few), omega (arith, few))
both_last n (Some a) None lasts = (lasts, tt)
both_last n None (Some b) lasts = (tt, lasts)
both_last n None None lasts = (tt, tt)

-- ---- a judgement that says something

-- the table agrees with what passes in it
agrees_itself : (table : List Checked) → AgreesWith table (passes_in table)
agrees_itself table t b e = ap (λ (o : Option Bool). unwrap_or o false) e

-- a verdict that the zone is signed is given beside a DS set
has_ds : (a : Answers) (k : ℕ) (h : JudgeInput) (v : Verdict) → judged a k h ≡ Says v → (v ≡ Unsigned → ⊥) → nat_eq (length h.ds) 0 ≡ false
has_ds a k h v is signed = go (first_refusal k h) (nat_eq (length h.ds) 0) refl is
  where
    go : (o : Option Refusal) (b : Bool) → nat_eq (length h.ds) 0 ≡ b
        → elim o as (λ _. Answer) [ Some e ↦ Refuses e | None ↦ if b then Says Unsigned else judged_bytes a k h ] ≡ Says v → nat_eq (length h.ds) 0 ≡ false
    go o false same is = same
    go (Some e) true same is = absurd cc
    go None true same is = absurd (signed (let both : Says Unsigned ≡ Says v = is in cc))

-- what is said there lasts
said_lasts : (a : Answers) (k : ℕ) (h : JudgeInput) (v : Verdict) → judged a k h ≡ Says v → nat_eq (length h.ds) 0 ≡ false → (l : Validity) × (facts.validity_of_input a k h ≡ Some l)
said_lasts a k h v is some = go (first_refusal k h) (nat_eq (length h.ds) 0) some (message k h.dnskey_bytes) (message k h.answer_bytes) is
  where
    go : (o : Option Refusal) (b : Bool) → b ≡ false → (x y : Result Message MessageError)
        → elim o as (λ _. Answer) [
          | Some e ↦ Refuses e
          | None ↦ if b then Says Unsigned else (elim x as (λ _. Answer) [
            | Err e ↦ Refuses r.BadDnskeyMessage
            | Ok keys ↦ elim y as (λ _. Answer) [ Err e ↦ Refuses r.BadAnswerMessage | Ok answer ↦ judged_messages a k h keys answer ]
          ])
        ] ≡ Says v
        → (l : Validity) × ((if b then None else (elim x as (λ _. Option Validity) [
          | Err e ↦ None
          | Ok keys ↦ elim y as (λ _. Option Validity) [ Err e ↦ None | Ok answer ↦ Some (validity_in_messages a k h keys answer) ]
        ])) ≡ Some l)
    go o true none x y is = absurd (false≢true (sym none))
    go (Some e) false none x y is = absurd cc
    go None false none (Err e) y is = absurd cc
    go None false none (Ok keys) (Err e) is = absurd cc
    go None false none (Ok keys) (Ok answer) is = (validity_in_messages a k h keys answer, refl)

said_now : (table : List Checked) (h : JudgeInput) (said : Result Judgement Refused) (v : Verdict) → IsJudgedBy table h said → answer_of said ≡ Says v → IsSaid table h v
said_now table h said v is e = λ passes agrees. elim ((is.by_table passes agrees).exact) [
  | inl m ↦ (let both : Refuses r.Memory ≡ Says v = sym m ∙ e in absurd cc)
  | inr s ↦ sym s ∙ e
]

ds_there : (table : List Checked) (h : JudgeInput) (said : Result Judgement Refused) (v : Verdict) → IsJudgedBy table h said → answer_of said ≡ Says v → (v ≡ Unsigned → ⊥) → nat_eq (length h.ds) 0 ≡ false
ds_there table h said v is e signed = has_ds (answers_with (passes_in table)) pointer_limit h v (said_now table h said v is e (passes_in table) (agrees_itself table)) signed

-- ---- what leads

abbrev is_lead : Seen → Bool
is_lead (SeesAlias target) = true
is_lead (SeesStarAlias target) = true
is_lead SeesOpen = true
is_lead (SeesDname owner lead) = true
is_lead _ = false

same_lead : (y x : Seen) → is_lead y ≡ true → Some y ≡ Some x → is_lead x ≡ true
same_lead y x k e = let is : y ≡ x = cc in subst (λ z. is_lead z ≡ true) is k

own_leads : (h : JudgeInput) (asked : Asked) (target : Name) (x : Seen) → own_lead h asked target ≡ Some x → is_lead x ≡ true
own_leads h asked target x = go (asked.rtype == 5) (strictly_above asked.name h.asked.name)
  where
    go : (a b : Bool) → (if a then Some (SeesAlias target) else if b then Some (SeesDname asked.name (leading.exchanged h.asked.name asked.name target)) else None) ≡ Some x → is_lead x ≡ true
    go true b e = same_lead (SeesAlias target) x refl e
    go false true e = same_lead (SeesDname asked.name (leading.exchanged h.asked.name asked.name target)) x refl e
    go false false e = absurd cc

star_leads : (asked : Asked) (target : Name) (x : Seen) → star_lead asked target ≡ Some x → is_lead x ≡ true
star_leads asked target x = go (asked.rtype == 5)
  where
    go : (a : Bool) → (if a then Some (SeesStarAlias target) else None) ≡ Some x → is_lead x ≡ true
    go true e = same_lead (SeesStarAlias target) x refl e
    go false e = absurd cc

open_leads : (asked : Asked) (x : Seen) → open_lead asked ≡ Some x → is_lead x ≡ true
open_leads asked x = go (asked.rtype == 5)
  where
    go : (a : Bool) → (if a then Some SeesOpen else None) ≡ Some x → is_lead x ≡ true
    go true e = same_lead SeesOpen x refl e
    go false e = absurd cc

own_named : (h : JudgeInput) (asked : Asked) (o : Option Name) (x : Seen) → named_lead (own_lead h asked) o ≡ Some x → is_lead x ≡ true
own_named h asked None x e = absurd cc
own_named h asked (Some target) x e = own_leads h asked target x e

star_named : (asked : Asked) (o : Option Name) (x : Seen) → named_lead (star_lead asked) o ≡ Some x → is_lead x ≡ true
star_named asked None x e = absurd cc
star_named asked (Some target) x e = star_leads asked target x e

said_leads : (h : JudgeInput) (asked : Asked) (a : Answer) (x : Seen) → lead_said h asked a ≡ Some x → is_lead x ≡ true
said_leads h asked (Says (Records ds)) x e = own_named h asked (one_name ds) x e
said_leads h asked (Says (StarRecords ds)) x e = star_named asked (one_name ds) x e
said_leads h asked (Says Open) x e = open_leads asked x e
said_leads h asked (Says NoType) x e = absurd cc
said_leads h asked (Says NoName) x e = absurd cc
said_leads h asked (Says StarNoType) x e = absurd cc
said_leads h asked (Says Delegated) x e = absurd cc
said_leads h asked (Says Unsigned) x e = absurd cc
said_leads h asked (Refuses e) x k = absurd cc

lead_proves : (table : List Checked) (h : JudgeInput) (x : Seen) → is_lead x ≡ true → IsLeadProved table h x → Proves table h x
lead_proves table h (SeesAlias target) k p = p
lead_proves table h (SeesStarAlias target) k p = p
lead_proves table h SeesOpen k p = p
lead_proves table h (SeesDname owner lead) k p = p
lead_proves table h (SeesVerdict v) k p = absurd (false≢true k)
lead_proves table h (SeesDelegated c) k p = absurd (false≢true k)
lead_proves table h (SeesNoDs d) k p = absurd (false≢true k)
lead_proves table h (SeesReferral c ds) k p = absurd (false≢true k)

-- ---- at a later moment

module _ (table : List Checked) (at later n : ℕ) (after : at ≤ later) (late : later / 1000000000 ≤ at / 1000000000 + n) where
  -- what a judgement says that lasts
  stays : (h : JudgeInput) (said : Result Judgement Refused) (v : Verdict) → AreOctets h.dnskey_bytes → AreOctets h.answer_bytes → IsJudgedBy table (at_moment at h) said
      → answer_of said ≡ Says v → nat_eq (length h.ds) 0 ≡ false → LastsFor n (validity_of said) → IsSaid table (at_moment later h) v
  stays h (Err refused) v keys answer is e some lasts = absurd cc
  stays h (Ok j) v keys answer is e some lasts = λ passes agrees.
      let a : Answers = answers_with passes in
      let now : judged a pointer_limit (at_moment at h) ≡ Says v = said_now table (at_moment at h) (Ok j) v is e passes agrees in
      let k = said_lasts a pointer_limit (at_moment at h) v now some in
      let l_is : j.validity ≡ Some k.0 = is.lasts passes agrees ∙ k.1 in
      let few : n ≤ k.0.seconds = subst (LastsFor n) l_is lasts in
      verdicts_last a pointer_limit h at later k.0 keys answer k.1 after (omega (arith, few, late)) ∙ now

  module _ (h : JudgeInput) (keys : AreOctets h.dnskey_bytes) (answer : AreOctets h.answer_bytes) where
    abbrev now : JudgeInput
    now = at_moment at h

    abbrev moved : JudgeInput
    moved = at_moment later h

    -- of another question
    aside_stays : (q : Asked) (said : Result Judgement Refused) (wanted : Option Asked) (v : Verdict) → IsJudgedBy table (aside now q) said → Some q ≡ wanted → answer_of said ≡ Says v → (v ≡ Unsigned → ⊥)
        → LastsFor n (validity_of said) → IsSaidAside table moved wanted q v
    aside_stays q said wanted v is asked e signed lasts = record {
      is = sym asked;
      said = stays (aside h q) said v keys answer is e (ds_there table (aside now q) said v is e signed) lasts;
    }

    -- ---- aliases

    kind_of : (q : Asked) (said : Result Judgement Refused) (x : Seen) → IsJudgedBy table (aside now q) said → lead_said now q (answer_of said) ≡ Some x → is_lead x ≡ true
    kind_of q said x is e = said_leads now q (answer_of said) x e

    lead_of : (q : Asked) (said : Result Judgement Refused) (x : Seen) → IsJudgedBy table (aside now q) said → Some q ≡ alias_hint pointer_limit h → lead_said now q (answer_of said) ≡ Some x → LastsFor n (validity_of said)
        → IsLeadProved table moved x
    lead_of q said x is asked e lasts = go (answer_of said) refl e
      where
        go : (a : Answer) → answer_of said ≡ a → lead_said now q a ≡ Some x → IsLeadProved table moved x
        go (Says v) s led = record {
          asked = q;
          verdict = v;
          said = aside_stays q said (alias_hint pointer_limit h) v is asked s (λ u. (let none : lead_said now q (Says Unsigned) ≡ Some x = subst (λ w. lead_said now q (Says w) ≡ Some x) u led in cc)) lasts;
          leads = led;
        }
        go (Refuses e) s led = absurd cc

    -- ---- referrals

    referral_of : (q : Asked) (said : Result Judgement Refused) (x : Seen) → IsJudgedBy table (aside now q) said → Some q ≡ cut_question pointer_limit h 43 → referral_said q.name (answer_of said) ≡ Some x
        → ((c : Name) (ds : List (List ℕ)) → SeesReferral c ds ≡ x → LastsFor n (validity_of said)) → Proves table moved x
    referral_of q said x is asked e lasts = go (answer_of said) refl e
      where
        records : (ds : List (List ℕ)) → answer_of said ≡ Says (Records ds) → SeesReferral q.name ds ≡ x → Proves table moved x
        records ds s k = subst (Proves table moved) k (record { asked = q; said = aside_stays q said (cut_question pointer_limit h 43) (Records ds) is asked s (λ u. cc) (lasts q.name ds k); cut_is = refl })

        go : (a : Answer) → answer_of said ≡ a → referral_said q.name a ≡ Some x → Proves table moved x
        go (Says (Records ds)) s k = records ds s (let both : Some (SeesReferral q.name ds) ≡ Some x = k in cc)
        go (Says (StarRecords ds)) s k = absurd cc
        go (Says NoType) s k = absurd cc
        go (Says NoName) s k = absurd cc
        go (Says StarNoType) s k = absurd cc
        go (Says Delegated) s k = absurd cc
        go (Says Open) s k = absurd cc
        go (Says Unsigned) s k = absurd cc
        go (Refuses e) s k = absurd cc

    -- ---- delegations

    answered_signed : (v : Verdict) → answers_ds (Says v) ≡ true → v ≡ Unsigned → ⊥
    answered_signed v k u = false≢true (subst (λ w. answers_ds (Says w) ≡ true) u k)

    answered : (a : Answer) → answers_ds a ≡ true → (v : Verdict) × (a ≡ Says v)
    answered (Says v) k = (v, refl)
    answered (Refuses e) k = absurd (false≢true k)

    delegated_is : (a : Answer) → says_delegated a ≡ true → a ≡ Says Delegated
    delegated_is (Says Delegated) k = refl
    delegated_is (Says (Records ds)) k = absurd (false≢true k)
    delegated_is (Says (StarRecords ds)) k = absurd (false≢true k)
    delegated_is (Says NoType) k = absurd (false≢true k)
    delegated_is (Says NoName) k = absurd (false≢true k)
    delegated_is (Says StarNoType) k = absurd (false≢true k)
    delegated_is (Says Open) k = absurd (false≢true k)
    delegated_is (Says Unsigned) k = absurd (false≢true k)
    delegated_is (Refuses e) k = absurd (false≢true k)

    -- how long a verdict lasts that a name is delegated, with its cut or without
    abbrev cut_validity : Option Validity → Option Validity → Option Validity → Option Name → Option Validity
    cut_validity own ns ds None = own
    cut_validity own ns ds (Some c) = least_of (least_of own ns) ds

    cut_of : (q p : Asked) (said ds_said : Result Judgement Refused) (own : Option Validity) → IsJudgedBy table (aside now q) said → IsJudgedBy table (aside now p) ds_said
        → Some q ≡ cut_question pointer_limit h 2 → Some p ≡ cut_question pointer_limit h 43 → IsSaid table moved Delegated → (b : Bool) → (says_delegated (answer_of said) && answers_ds (answer_of ds_said)) ≡ b
        → LastsFor n (cut_validity own (validity_of said) (validity_of ds_said) (if b then Some q.name else None)) → Proves table moved (SeesDelegated (if b then Some q.name else None))
    cut_of q p said ds_said own is ds_is asked ds_asked delegated false e lasts = delegated
    cut_of q p said ds_said own is ds_is asked ds_asked delegated true e lasts =
        let both = and_parts (says_delegated (answer_of said)) (answers_ds (answer_of ds_said)) e in
        let outer = both_last n (least_of own (validity_of said)) (validity_of ds_said) lasts in
        let inner = both_last n own (validity_of said) outer.0 in
        let v = answered (answer_of ds_said) both.1 in
        let k : answers_ds (Says v.0) ≡ true = subst (λ x. answers_ds x ≡ true) v.1 both.1 in (
          delegated,
          record {
            ns = q;
            delegated = aside_stays q said (cut_question pointer_limit h 2) Delegated is asked (delegated_is (answer_of said) both.0) (λ u. cc) inner.1;
            cut_is = refl;
            ds = p;
            verdict = v.0;
            answered = aside_stays p ds_said (cut_question pointer_limit h 43) v.0 ds_is ds_asked v.1 (answered_signed v.0 k) outer.1;
            answers = k;
          },
        )

    -- ---- names without DS

    abbrev sought_ns : Bool → Option Asked
    sought_ns b = if b then Some (asking h h.asked.name 2) else None

    sought_is : (q : Asked) (seeks : Bool) → Some q ≡ sought_ns seeks → q ≡ asking h h.asked.name 2
    sought_is q true e = let both : Some q ≡ Some (asking h h.asked.name 2) = e in cc
    sought_is q false e = absurd cc

    whether_of : (q : Asked) (said : Result Judgement Refused) (seeks : Bool) (d : Bool) → nat_eq (length h.ds) 0 ≡ false → IsJudgedBy table (aside now q) said → Some q ≡ sought_ns seeks
        → delegates_said (answer_of said) ≡ Some d → LastsFor n (validity_of said) → IsWhetherProved table moved d
    whether_of q said seeks d some is asked e lasts = go (answer_of said) refl e
      where
        go : (a : Answer) → answer_of said ≡ a → delegates_said a ≡ Some d → IsWhetherProved table moved d
        go (Says w) s k =
            let same : is_delegated w ≡ d = (let both : Some (is_delegated w) ≡ Some d = k in cc) in
            let long : IsSaid table (aside moved q) w = stays (aside h q) said w keys answer is s some lasts in
            inr (w, subst (λ (p : Asked). IsSaid table (aside moved p) w) (sought_is q seeks asked) long, sym same)
        go (Refuses e) s k = absurd cc

    -- ---- what is found

    module _ (found : Result Seen Refusal) (l : Option Validity) (verifications hashes : ℕ) (is : IsFoundBy table now found l verifications hashes) where
      own_stays : (v : Verdict) → answer_of is.judgements.own ≡ Says v → (v ≡ Unsigned → ⊥) → LastsFor n (validity_of is.judgements.own) → IsSaid table moved v
      own_stays v e signed lasts = stays h is.judgements.own v keys answer is.are.own e (ds_there table now is.judgements.own v is.are.own e signed) lasts

      -- where a lead lasts, so does the judgement that proves it
      lead_validity : (x : Seen) → is_lead x ≡ true → LastsFor n (validity_by (validities_of is.judgements) x) → LastsFor n (validity_in is.judgements.alias)
      lead_validity (SeesAlias target) k lasts = lasts
      lead_validity (SeesStarAlias target) k lasts = lasts
      lead_validity SeesOpen k lasts = lasts
      lead_validity (SeesDname owner lead) k lasts = lasts
      lead_validity (SeesVerdict v) k lasts = absurd (false≢true k)
      lead_validity (SeesDelegated c) k lasts = absurd (false≢true k)
      lead_validity (SeesNoDs d) k lasts = absurd (false≢true k)
      lead_validity (SeesReferral c ds) k lasts = absurd (false≢true k)

      lead_is : (x : Seen) → lead_found now is.judgements.alias ≡ Some x → is_lead x ≡ true
      lead_is x = (elim (is.judgements.alias) as (λ o. IfSome o (IsMade table now) → lead_found now o ≡ Some x → is_lead x ≡ true) [
        | None ↦ λ made e. absurd cc
        | Some m ↦ λ made e. kind_of (question_of m) _ x made e
      ]) is.are.alias.judged

      lead_stays : (x : Seen) → asked_in is.judgements.alias ≡ alias_hint pointer_limit h → lead_found now is.judgements.alias ≡ Some x → LastsFor n (validity_in is.judgements.alias) → IsLeadProved table moved x
      lead_stays x = (elim (is.judgements.alias) as (λ o. IfSome o (IsMade table now) → asked_in o ≡ alias_hint pointer_limit h → lead_found now o ≡ Some x → LastsFor n (validity_in o) → IsLeadProved table moved x) [
        | None ↦ λ made asked e lasts. absurd cc
        | Some m ↦ λ made asked e lasts. lead_of (question_of m) _ x made asked e lasts
      ]) is.are.alias.judged

      referral_stays : (x : Seen) → asked_in is.judgements.ds ≡ cut_question pointer_limit h 43 → referral_found is.judgements.ds ≡ Some x → LastsFor n (validity_by (validities_of is.judgements) x) → Proves table moved x
      referral_stays x asked e lasts =
          (elim (is.judgements.ds) as (λ o. IfSome o (IsMade table now) → asked_in o ≡ cut_question pointer_limit h 43 → referral_found o ≡ Some x
          → ((c : Name) (ds : List (List ℕ)) → SeesReferral c ds ≡ x → LastsFor n (validity_in o)) → Proves table moved x) [
            | None ↦ λ made a k long. absurd cc
            | Some m ↦ λ made a k long. referral_of (question_of m) _ x made a k long
          ]) is.are.ds.judged asked e (λ c ds k. subst (λ y. LastsFor n (validity_by (validities_of is.judgements) y)) (sym k) lasts)

      cut_lasts : (o : Option Name) → LastsFor n (validity_by (validities_of is.judgements) (SeesDelegated o)) → LastsFor n (cut_validity (validity_of is.judgements.own) (validity_in is.judgements.ns) (validity_in is.judgements.ds) o)
      cut_lasts None lasts = lasts
      cut_lasts (Some c) lasts = lasts

      own_lasts : (own ns ds : Option Validity) (o : Option Name) → LastsFor n (cut_validity own ns ds o) → LastsFor n own
      own_lasts own ns ds None lasts = lasts
      own_lasts own ns ds (Some c) lasts = (both_last n own ns (both_last n (least_of own ns) ds lasts).0).0

      cut_stays : (own : Option Validity) → IsSaid table moved Delegated → asked_in is.judgements.ns ≡ cut_question pointer_limit h 2 → asked_in is.judgements.ds ≡ cut_question pointer_limit h 43
          → LastsFor n (cut_validity own (validity_in is.judgements.ns) (validity_in is.judgements.ds) (cut_found is.judgements.ns is.judgements.ds)) → Proves table moved (SeesDelegated (cut_found is.judgements.ns is.judgements.ds))
      cut_stays own delegated =
          (elim (is.judgements.ns) as (λ o. IfSome o (IsMade table now) → asked_in o ≡ cut_question pointer_limit h 2 → asked_in is.judgements.ds ≡ cut_question pointer_limit h 43
          → LastsFor n (cut_validity own (validity_in o) (validity_in is.judgements.ds) (cut_found o is.judgements.ds)) → Proves table moved (SeesDelegated (cut_found o is.judgements.ds))) [
            | None ↦ λ made asked ds_asked lasts. delegated
            | Some m ↦ λ made asked ds_asked lasts.
                (elim (is.judgements.ds) as (λ o. IfSome o (IsMade table now) → asked_in o ≡ cut_question pointer_limit h 43
                → LastsFor n (cut_validity own (validity_in (Some m)) (validity_in o) (cut_found (Some m) o)) → Proves table moved (SeesDelegated (cut_found (Some m) o))) [
                  | None ↦ λ ds_made a long. delegated
                  | Some d ↦ λ ds_made a long. cut_of (question_of m) (question_of d) _ _ own made ds_made asked a delegated _ refl long
                ]) is.are.ds.judged ds_asked lasts
          ]) is.are.ns.judged

      whether_stays : (seeks d : Bool) → nat_eq (length h.ds) 0 ≡ false → asked_in is.judgements.ns ≡ sought_ns seeks → delegates_found now is.judgements.ns ≡ Some d → LastsFor n (validity_in is.judgements.ns) → IsWhetherProved table moved d
      whether_stays seeks d some =
          (elim (is.judgements.ns) as (λ o. IfSome o (IsMade table now) → asked_in o ≡ sought_ns seeks → delegates_found now o ≡ Some d → LastsFor n (validity_in o) → IsWhetherProved table moved d) [
            | None ↦ λ made asked e lasts. at_apex (same h.asked.name h.apex) refl None e (λ k. absurd cc)
            | Some m ↦ λ made asked e lasts. at_apex (same h.asked.name h.apex) refl _ e (λ k. whether_of (question_of m) _ seeks d some made asked k lasts)
          ]) is.are.ns.judged
        where
          at_apex : (b : Bool) → same h.asked.name h.apex ≡ b → (other : Option Bool) → (if b then Some false else other) ≡ Some d → (other ≡ Some d → IsWhetherProved table moved d) → IsWhetherProved table moved d
          at_apex true apex other k f = inl (apex, (let both : Some false ≡ Some d = k in let same : false ≡ d = cc in sym same))
          at_apex false apex other k f = f k

      no_ds_stays : (seeks : Bool) → answer_of is.judgements.own ≡ Says NoType → asked_in is.judgements.ns ≡ sought_ns seeks → (o : Option Bool) → delegates_found now is.judgements.ns ≡ o
          → LastsFor n (validity_by (validities_of is.judgements) (no_ds_found o)) → Proves table moved (no_ds_found o)
      no_ds_stays seeks s asked None e lasts = own_stays NoType s (λ u. cc) lasts
      no_ds_stays seeks s asked (Some d) e lasts =
          let both = both_last n (validity_of is.judgements.own) (validity_in is.judgements.ns) lasts in
          let some = ds_there table now is.judgements.own NoType is.are.own s (λ u. cc) in
          (own_stays NoType s (λ u. cc) both.0, whether_stays seeks d some asked e both.1)

      no_type_stays : (b : Bool) → answer_of is.judgements.own ≡ Says NoType
          → LastsFor n (validity_by (validities_of is.judgements) (if b then no_ds_found (delegates_found now is.judgements.ns) else SeesVerdict NoType))
          → Proves table moved (if b then no_ds_found (delegates_found now is.judgements.ns) else SeesVerdict NoType)
      no_type_stays true s lasts = no_ds_stays (seeks_delegation now (Says NoType)) s (is.are.ns.asked ∙ ap (ns_question pointer_limit now) s) (delegates_found now is.judgements.ns) refl lasts
      no_type_stays false s lasts = own_stays NoType s (λ u. cc) lasts

      delegated_stays : answer_of is.judgements.own ≡ Says Delegated → LastsFor n (validity_by (validities_of is.judgements) (SeesDelegated (cut_found is.judgements.ns is.judgements.ds)))
          → Proves table moved (SeesDelegated (cut_found is.judgements.ns is.judgements.ds))
      delegated_stays s lasts =
          let long = cut_lasts (cut_found is.judgements.ns is.judgements.ds) lasts in
          let asked : asked_in is.judgements.ns ≡ cut_question pointer_limit h 2 = is.are.ns.asked ∙ ap (ns_question pointer_limit now) s in
          let ds_asked : asked_in is.judgements.ds ≡ cut_question pointer_limit h 43 = is.are.ds.asked ∙ ap (λ a. ds_question pointer_limit now a (is_some (lead_found now is.judgements.alias))) s in
          let own = own_stays Delegated s (λ u. cc) (own_lasts (validity_of is.judgements.own) (validity_in is.judgements.ns) (validity_in is.judgements.ds) (cut_found is.judgements.ns is.judgements.ds) long) in
          cut_stays (validity_of is.judgements.own) own asked ds_asked long

      verdict_stays : (w : Verdict) → answer_of is.judgements.own ≡ Says w → (w ≡ Unsigned → ⊥)
          → LastsFor n (validity_by (validities_of is.judgements) (verdict_found now is.judgements.ns is.judgements.ds w)) → Proves table moved (verdict_found now is.judgements.ns is.judgements.ds w)
      verdict_stays (Records ds) s signed lasts = own_stays (Records ds) s signed lasts
      verdict_stays NoName s signed lasts = own_stays NoName s signed lasts
      verdict_stays (StarRecords ds) s signed lasts = own_stays (StarRecords ds) s signed lasts
      verdict_stays StarNoType s signed lasts = own_stays StarNoType s signed lasts
      verdict_stays Open s signed lasts = own_stays Open s signed lasts
      verdict_stays Unsigned s signed lasts = absurd (signed refl)
      verdict_stays Delegated s signed lasts = delegated_stays s lasts
      verdict_stays NoType s signed lasts = no_type_stays (h.asked.rtype == 43) s lasts

      -- where the case itself proves nothing
      module _ (x : Seen) (lasts : LastsFor n (validity_by (validities_of is.judgements) x)) where
        by_lead : (t : Seen) → asked_in is.judgements.alias ≡ alias_hint pointer_limit h → lead_found now is.judgements.alias ≡ Some t → t ≡ x → Proves table moved x
        by_lead t asked led same =
            let at_x : lead_found now is.judgements.alias ≡ Some x = led ∙ ap (λ (y : Seen). Some y) same in
            let kind : is_lead x ≡ true = lead_is x at_x in
            lead_proves table moved x kind (lead_stays x asked at_x (lead_validity x kind lasts))

        by_referral : (o : Option Seen) (e : Refusal) → referral_found is.judgements.ds ≡ o → asked_in is.judgements.ds ≡ cut_question pointer_limit h 43 → found_or e o ≡ Ok x → Proves table moved x
        by_referral None e led asked k = absurd cc
        by_referral (Some t) e led asked k = let same : t ≡ x = cc in referral_stays x asked (led ∙ ap (λ (y : Seen). Some y) same) lasts

        by_first : (o : Option Seen) (e : Refusal) → asked_in is.judgements.alias ≡ alias_hint pointer_limit h → lead_found now is.judgements.alias ≡ o → (is_some o ≡ false → asked_in is.judgements.ds ≡ cut_question pointer_limit h 43)
            → found_or e (first_found o (referral_found is.judgements.ds)) ≡ Ok x → Proves table moved x
        by_first (Some t) e asked led cut k = by_lead t asked led (let both : Ok t ≡ Ok x = k in cc)
        by_first None e asked led cut k = by_referral (referral_found is.judgements.ds) e refl (cut refl) k

        by_refusal : (b : Bool) (e : Refusal) → asked_in is.judgements.alias ≡ (if b then alias_hint pointer_limit h else None)
            → asked_in is.judgements.ds ≡ (if false || (b && not (is_some (lead_found now is.judgements.alias))) then cut_question pointer_limit h 43 else None)
            → (if b then found_or e (first_found (lead_found now is.judgements.alias) (referral_found is.judgements.ds)) else Err e) ≡ Ok x → Proves table moved x
        by_refusal false e asked cut k = absurd cc
        by_refusal true e asked cut k =
            by_first (lead_found now is.judgements.alias) e asked refl (λ none. cut ∙ ap (λ (b : Bool). if not b then cut_question pointer_limit h 43 else None) none) k

        by_answer : (x ≡ SeesVerdict Unsigned → ⊥) → (a : Answer) → answer_of is.judgements.own ≡ a → answer_found now is.judgements a ≡ Ok x → Proves table moved x
        by_answer signed (Says w) s k =
            let same : verdict_found now is.judgements.ns is.judgements.ds w ≡ x = (let both : Ok (verdict_found now is.judgements.ns is.judgements.ds w) ≡ Ok x = k in cc) in
            let unsigned : w ≡ Unsigned → ⊥ = λ u. signed (sym same ∙ ap (verdict_found now is.judgements.ns is.judgements.ds) u) in
            subst (Proves table moved) same (verdict_stays w s unsigned (subst (λ y. LastsFor n (validity_by (validities_of is.judgements) y)) (sym same) lasts))
        by_answer signed (Refuses e) s k =
            by_refusal (is_not_proven e) e (is.are.alias.asked ∙ ap (alias_question pointer_limit now) s)
            (is.are.ds.asked ∙ ap (λ a. ds_question pointer_limit now a (is_some (lead_found now is.judgements.alias))) s) k

    -- what is found
    pub found_stays : (x : Seen) (l : Option Validity) (verifications hashes : ℕ) → IsFoundBy table now (Ok x) l verifications hashes → (x ≡ SeesVerdict Unsigned → ⊥) → LastsFor n l → Proves table moved x
    found_stays x l verifications hashes is signed lasts =
        by_answer (Ok x) l verifications hashes is x (subst (LastsFor n) is.lasts lasts) signed (answer_of is.judgements.own) refl (sym is.says)

    -- ---- searches

    searched_stays : (x : Seen) (l : Option Validity) (counts : Counts) → IsSearched table now (Sees x) l counts → (x ≡ SeesVerdict Unsigned → ⊥) → LastsFor n l → Proves table moved x
    searched_stays x l counts s signed lasts = go s.found s.is_found s.is s.lasts
      where
        go : (found : AnswerOutcome) → IsFound table now found → Sees x ≡ search_of found → l ≡ tells_of.validity_of_outcome found → Proves table moved x
        go (f.Means meaning validity verifications hashes) is e same =
            let x_is : seen meaning ≡ x = (let both : Sees x ≡ Sees (seen meaning) = e in cc) in
            subst (Proves table moved) x_is (found_stays (seen meaning) validity verifications hashes is (λ u. signed (sym x_is ∙ u)) (subst (LastsFor n) same lasts))
        go (f.Refused refusal verifications hashes) is e same = absurd cc
        go (f.Asks asks verifications hashes) is e same = absurd cc

    -- what is told of a delegation
    pub cut_told_stays : (algorithms : List ℕ) (said : StepSeen) (l : Option Validity) (counts : Counts) → IsCutTold algorithms table now said l counts → tells said ≡ true → LastsFor n l → IsCutProved algorithms table moved said
    cut_told_stays algorithms said l counts is some lasts = go is.came is.searched is.is
      where
        go : (came : Search) → IsSearched table now came l counts → said ≡ cut_searched algorithms h.asked.name came → IsCutProved algorithms table moved said
        go (Sees x) s e =
            let signed : x ≡ SeesVerdict Unsigned → ⊥ = λ u. false≢true (ap tells (sym (e ∙ ap (cut_told algorithms h.asked.name) u)) ∙ some) in
            record { seen = x; proves = searched_stays x l counts s signed lasts; is = e }
        go (tells_of.Refuses refusal) s e = absurd (false≢true (ap tells (sym e) ∙ some))
        go (Wants asks) s e = absurd (false≢true (ap tells (sym e) ∙ some))

-- what tells something at a delegation tells something
pub at_cut_tells : (below : StepSeen) → tells (at_cut below) ≡ true → tells below ≡ true
at_cut_tells (TellsNothing e) k = k
at_cut_tells (AsksFor asks) k = k
at_cut_tells _ k = refl

-- what is told of the question
module _ (algorithms : List ℕ) (table : List Checked) (at later n : ℕ) (after : at ≤ later) (late : later / 1000000000 ≤ at / 1000000000 + n) (h : JudgeInput) (keys : AreOctets h.dnskey_bytes) (answer : AreOctets h.answer_bytes) where
  told_at_stays : (c : Name) (validity : Option Validity) (counts : Counts) (said : StepSeen) (l : Option Validity) (m : Counts) → IsToldAt algorithms table (at_moment at h) c validity counts said l m
      → tells said ≡ true → LastsFor n l → IsProvedAt algorithms table (at_moment later h) c said
  told_at_stays c validity counts said l m is some lasts =
      let long = both_last n validity is.below_validity (subst (LastsFor n) is.lasts lasts) in
      let tells_it : tells is.below ≡ true = at_cut_tells is.below (ap tells (sym is.is) ∙ some) in
      record {
        below = is.below;
        proved = cut_told_stays table at later n after late (aside h (asking h c 43)) keys answer algorithms is.below is.below_validity is.below_counts is.told_is tells_it long.1;
        is = is.is;
      }

  pub told_stays : (said : StepSeen) (l : Option Validity) (counts : Counts) → IsTold algorithms table (at_moment at h) said l counts → tells said ≡ true → LastsFor n l → IsProved algorithms table (at_moment later h) said
  told_stays said l counts is some lasts = go is.came is.searched is.is
    where
      alone : (x : Seen) → IsSearched table (at_moment at h) (Sees x) is.found_validity is.found_counts → said ≡ seen_told algorithms h.asked x → l ≡ is.found_validity → Proves table (at_moment later h) x
      alone x s e same =
          let signed : x ≡ SeesVerdict Unsigned → ⊥ = λ u. false≢true (ap tells (sym (e ∙ ap (seen_told algorithms h.asked) u)) ∙ some) in
          searched_stays table at later n after late h keys answer x is.found_validity is.found_counts s signed (subst (LastsFor n) same lasts)

      by_seen : (x : Seen) → IsSearched table (at_moment at h) (Sees x) is.found_validity is.found_counts → IsSeenTold algorithms table (at_moment at h) x is.found_validity is.found_counts said l counts
          → IsProved algorithms table (at_moment later h) said
      by_seen (SeesDelegated (Some c)) s to =
          let long = both_last n is.found_validity to.below_validity (subst (LastsFor n) to.lasts lasts) in
          record {
            seen = SeesDelegated (Some c);
            proves = searched_stays table at later n after late h keys answer (SeesDelegated (Some c)) is.found_validity is.found_counts s (λ u. cc) long.0;
            is = told_at_stays c is.found_validity is.found_counts said l counts to some lasts;
          }
      by_seen (SeesDelegated None) s to = record { seen = SeesDelegated None; proves = alone (SeesDelegated None) s to.0 to.1; is = to.0 }
      by_seen (SeesVerdict v) s to = record { seen = SeesVerdict v; proves = alone (SeesVerdict v) s to.0 to.1; is = to.0 }
      by_seen (SeesNoDs d) s to = record { seen = SeesNoDs d; proves = alone (SeesNoDs d) s to.0 to.1; is = to.0 }
      by_seen (SeesAlias target) s to = record { seen = SeesAlias target; proves = alone (SeesAlias target) s to.0 to.1; is = to.0 }
      by_seen (SeesStarAlias target) s to = record { seen = SeesStarAlias target; proves = alone (SeesStarAlias target) s to.0 to.1; is = to.0 }
      by_seen SeesOpen s to = record { seen = SeesOpen; proves = alone SeesOpen s to.0 to.1; is = to.0 }
      by_seen (SeesDname owner lead) s to = record { seen = SeesDname owner lead; proves = alone (SeesDname owner lead) s to.0 to.1; is = to.0 }
      by_seen (SeesReferral c datas) s to = record { seen = SeesReferral c datas; proves = alone (SeesReferral c datas) s to.0 to.1; is = to.0 }

      go : (came : Search) → IsSearched table (at_moment at h) came is.found_validity is.found_counts
          → IsSearchTold algorithms table (at_moment at h) came is.found_validity is.found_counts said l counts → IsProved algorithms table (at_moment later h) said
      go (Sees x) s to = by_seen x s to
      go (tells_of.Refuses refusal) s to = absurd (false≢true (ap tells (sym to.0) ∙ some))
      go (Wants asks) s to = absurd (false≢true (ap tells (sym to.0) ∙ some))

-- ---- the laws

no_more : (n : ℕ) → n ≤ n
no_more n = omega arith

pub told_stays_proved : ToldStaysProved
told_stays_proved algorithms table h said l counts at later keys answer is some within = told_stays algorithms table at later l.seconds within.0 within.1 h keys answer said (Some l) counts is some (no_more l.seconds)

pub cut_told_stays_proved : CutToldStaysProved
cut_told_stays_proved algorithms table h said l counts at later keys answer is some within = cut_told_stays table at later l.seconds within.0 within.1 h keys answer algorithms said (Some l) counts is some (no_more l.seconds)
