-- A judge that says a verdict beside a DS set that isn't empty has found a signature that holds in each message.
use Rattle.std.proofs.Common.{◌≡◌, ℕ, Bool, true, false, ◌&&◌, List, [], length, map, filter, Option, Some, None, Ok, Err, refl, sym, ap, subst, ◌∙◌, ⊎_elim}
use Rattle.std.specs.Prelude.{◌==◌}
use Rattle.std.specs.List.{list_any}
use Rattle.std.specs.Option.{option_map}
use Rattle.std.proofs.lemmas.Bool.{and_from, and_parts, eq-eqb, false≢true}
use Rattle.definitions.specs.Dnskey.{Dnskey, dnskey_data}
use Rattle.definitions.specs.Name.{Name, at_or_above}
use Rattle.definitions.specs.Signing.{Fields, in_time}
use Rattle.definitions.specs.Zone.{Verdict, sorted_data}
use Rattle.denial_laws.specs.Deciding.{decided}
use Rattle.denial_laws.specs.Facts.{Facts, Rrset}
use Rattle.messages.specs.Message.{Message, message}
use Rattle.messages.proofs.Lists.{any_from}
use Rattle.answer_judge_rules.specs.Hashes.{hash_among}
use Rattle.answer_scheme.specs.Answers.{Answers}
use Rattle.answer_judge_facts.specs.Trusted.{is_signature, is_trusted, is_usable}
use Rattle.answer_judge.specs.Timely.{RefusesUntimely, has_timely, holds_now}
use Rattle.answer_judge.specs.Judged.{AnswersAs, decided_by, judged, keys_of, trusting}
use Rattle.answer_judge.specs.Judging.{Answer, JudgeInput, Refuses, Says}
use Rattle.answer_judge_facts.specs.Verified.{Trusting, hash_link_at, is_hash_alone, is_hash_link, is_link, is_verified, link_at, rrset_in, verified_by, verified_facts, verified_hash_links, verified_links, verified_rrset}
use Rattle.answer_judge.specs.declared.verdict.Refusal.TheVariants as r
use Rattle.answer_judge_facts.proofs.KeptItems.{none_kept_of, when}
use Rattle.answer_judge.proofs.HonestVerified.{Found, first_verifying, found_verifying, timely}
use Rattle.answer_judge.proofs.JudgedSays.{IsSaid, judged_says}

-- what verifies an RRset holds
module _ (a : Answers) (k : ℕ) (h : JudgeInput) (m : List ℕ) (read : Message) (reads : message k m ≡ Ok read) (keys : List Dnskey) where
  abbrev w : Trusting
  w = trusting a h keys

  found_timely : (owner : Name) (t : ℕ) (items : List (List ℕ)) → Found w k m read.records owner t items → has_timely k h.now m ≡ true
  found_timely owner t items x =
      let holds : holds_now k h.now m x.spelled ≡ true =
      and_from (is_signature x.spelled) _ (eq-eqb x.spelled.rtype 46 x.by.type_is)
      (ap (λ (o : Option (Fields × List ℕ)). elim o as (λ _. Bool) [ None ↦ false | Some f ↦ in_time f.0 h.now ]) x.by.reads ∙ timely h.apex h.now owner x.by.fields x.by.due) in
      ap (λ o. elim o as (λ _. Bool) [ Err e ↦ false | Ok read ↦ list_any (holds_now k h.now m) read.records ]) reads
      ∙ any_from (holds_now k h.now m) read.records x.spelled x.there holds

  pub verified_timely : (owner : Name) (t : ℕ) (items : List (List ℕ)) → is_verified w k m read.records owner t items ≡ true → has_timely k h.now m ≡ true
  verified_timely owner t items e = found_timely owner t items (found_verifying w k m read.records owner t items e)

  first_timely : (owner : Name) (t : ℕ) (items : List (List ℕ)) (f : Fields) → verified_by w k m read.records owner t items ≡ Some f → has_timely k h.now m ≡ true
  first_timely owner t items f e = found_timely owner t items (first_verifying w k m read.records owner t items f e).0

  -- ---- without one that holds nothing is verified

  module _ (none : has_timely k h.now m ≡ false) where
    no_rrset : (q : Name) (t : ℕ) → verified_rrset w k m read.records q t ≡ None
    no_rrset q t = go (verified_by w k m read.records q t (rrset_in k m read.records q t)) refl
      where
        go : (o : Option Fields) → verified_by w k m read.records q t (rrset_in k m read.records q t) ≡ o
            → option_map (λ (f : Fields). record { datas = rrset_in k m read.records q t; labels = f.labels }) o ≡ (let n : Option Rrset = None in n)
        go None e = refl
        go (Some f) e = absurd (false≢true (sym none ∙ first_timely q t (rrset_in k m read.records q t) f e))

    no_links : verified_links w k m read.records ≡ []
    no_links = none_kept_of (link_at w k m read.records) read.records (λ r l i e.
        let gate = when (is_link w k m read.records r) _ l e in
        let v = and_parts ((r.rtype == 47) && (r.class == 1) && at_or_above h.apex r.owner && (length (rrset_in k m read.records r.owner 47) == 1)) (is_verified w k m read.records r.owner 47 (rrset_in k m read.records r.owner 47)) gate.0 in
        false≢true (sym none ∙ verified_timely r.owner 47 (rrset_in k m read.records r.owner 47) v.1))

    no_hash_links : verified_hash_links w k m read.records ≡ []
    no_hash_links = none_kept_of (hash_link_at w k m read.records) read.records (λ r l i e.
        let gate = when (is_hash_link w k m read.records r) _ l e in
        let v = and_parts ((r.rtype == 50) && (r.class == 1) && is_hash_alone k m h.apex read.records r.owner) (is_verified w k m read.records r.owner 50 (rrset_in k m read.records r.owner 50)) gate.0 in
        false≢true (sym none ∙ verified_timely r.owner 50 (rrset_in k m read.records r.owner 50) v.1))

abbrev nothing : Facts
nothing = record { rrset = None; links = []; hash_links = [] }

nothing_decides : (apex : Name) (hash : Name → List ℕ) (q : Name) (t : ℕ) → decided apex hash nothing q t ≡ None
nothing_decides apex hash q t = go (at_or_above apex q)
  where
    go : (b : Bool) → elim b as (λ _. Option Verdict) [ true ↦ None | false ↦ None ] ≡ None
    go true = refl
    go false = refl

decides_timely : (a : Answers) (k : ℕ) (h : JudgeInput) (m : List ℕ) (read : Message) (keys : List Dnskey) (v : Verdict) → message k m ≡ Ok read
    → decided_by a h (verified_facts (trusting a h keys) k m read.records h.asked.name h.asked.rtype) ≡ Some v → has_timely k h.now m ≡ true
decides_timely a k h m read keys v reads e = go (has_timely k h.now m) refl
  where
    go : (b : Bool) → has_timely k h.now m ≡ b → b ≡ true
    go true i = refl
    go false i =
        let f : verified_facts (trusting a h keys) k m read.records h.asked.name h.asked.rtype ≡ nothing =
        (λ j. record { rrset = no_rrset a k h m read reads keys i h.asked.name h.asked.rtype j; links = no_links a k h m read reads keys i j; hash_links = no_hash_links a k h m read reads keys i j }) in
        let none : decided_by a h (verified_facts (trusting a h keys) k m read.records h.asked.name h.asked.rtype) ≡ None = ap (decided_by a h) f ∙ nothing_decides h.apex (hash_among a.hash []) h.asked.name h.asked.rtype in
        let bad : Some v ≡ None = sym e ∙ none in
        cc

says_timely : (a : Answers) (k : ℕ) (h : JudgeInput) (v : Verdict) → (h.ds ≡ [] → ⊥) → judged a k h ≡ Says v → (has_timely k h.now h.dnskey_bytes && has_timely k h.now h.answer_bytes) ≡ true
says_timely a k h v some e =
    let said : IsSaid a k h v = judged_says a k h v some e in
    let keys : List Dnskey = keys_of h said.keys in
    and_from _ _
    (verified_timely a k h h.dnskey_bytes said.keys said.keys_read (filter (is_trusted a h.apex h.ds) keys) h.apex 48 (sorted_data (map dnskey_data keys)) said.chained)
    (decides_timely a k h h.answer_bytes said.answer (filter is_usable keys) v said.answer_read said.decided)

untimely_refused : (a : Answers) (k : ℕ) (h : JudgeInput) (answer : Answer) → answer ≡ judged a k h → RefusesUntimely k h answer
untimely_refused a k h (Says v) e some none = absurd (false≢true (sym none ∙ says_timely a k h v some (sym e)))
untimely_refused a k h (Refuses f) e some none = tt

-- an answer that is exact, memory aside
pub refuses_untimely : (a : Answers) (k : ℕ) (h : JudgeInput) (answer : Answer) → AnswersAs answer (judged a k h) → RefusesUntimely k h answer
refuses_untimely a k h answer exact =
    ⊎_elim
    (λ (memory : answer ≡ Refuses r.Memory). subst (RefusesUntimely k h) (sym memory) (λ some none. tt))
    (λ (said : answer ≡ judged a k h). untimely_refused a k h answer said)
    exact
