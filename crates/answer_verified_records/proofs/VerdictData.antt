-- Where a judge says which data there are, the verified records of the question's type have exactly these.
use Rattle.std.proofs.Common.{◌≡◌, ℕ, zero, suc, Bool, true, false, not, ◌&&◌, ◌||◌, ◌==◌, List, [], ◌∷◌, drop, filter, length, refl, sym, ap, ◌∙◌}
use Rattle.std.specs.Prelude.{Option, Some, None, Result, Ok, cond, is_some, nat_eq, slice_get, if◌then◌else◌}
use Rattle.std.specs.List.{cons_option, filter_map}
use Rattle.std.proofs.lemmas.Bool.{eq-eqb, eqb-true, false≢true, or_parts}
use Rattle.definitions.specs.Name.{Name, low, same}
use Rattle.definitions.specs.Signing.{Fields}
use Rattle.definitions.specs.Zone.{Verdict, Records, StarRecords, Unsigned, sorted_data}
use Rattle.denial_laws.specs.Facts.{Rrset}
use Rattle.messages.specs.Message.{Message, Spelled, canonical_data, message}
use Rattle.messages.specs.declared.error.MessageError.{MessageError}
use Rattle.messages.proofs.ZoneNames.{same_labels}
use Rattle.answer_scheme.specs.Answers.{Answers}
use Rattle.answer_judge.specs.Judging.{Answer, JudgeInput, Refuses, Says, first_refusal, message_refusal}
use Rattle.answer_judge_keys.specs.Trusted.{is_usable}
use Rattle.answer_judge.specs.declared.verdict.Refusal.{Refusal}
use Rattle.answer_judge.specs.declared.verdict.Refusal.TheVariants as r
use Rattle.answer_judge_rules.specs.Hashes.{hash_among}
use Rattle.answer_judge.specs.Judged.{judged, judged_bytes, keys_of, trusting}
use Rattle.answer_judge_facts.specs.Sought.{answer_sought, is_alone}
use Rattle.answer_judge_facts.specs.Verified.{Trusting, datum_of, is_hash_alone, is_verified, rrset_in, verified_by}
use Rattle.answer_judge_facts.proofs.JudgeMarks.{by_is}
use Rattle.answer_judge_facts.proofs.JudgeTimes.{alike_verified}
use Rattle.answer_judge_facts.proofs.KeptItems.{mapped}
use Rattle.answer_judge_facts.proofs.JudgeTried.{eq_swap}
use Rattle.answer_judge.proofs.JudgedSays.{IsSaid, facts_of, judged_says}
use Rattle.answer_judge.proofs.JudgedTypes.{judged_type}
use Rattle.answer_verified_records.specs.Laws.{HaveData, VerdictsAreVerified, data_of_type, records_of}
use Rattle.answer_verified_records.specs.Records.{both_spelled, is_verified_record, numbers_from, verified_in_answer, verified_in_messages, verified_records}
use Rattle.answer_verified_records.proofs.ChainVerdicts.{decided_tells, told_data}

-- ---- records by their numbers

none_there : {X : Type 0} (x : X) (xs : List X) → [] ≡ x ∷ xs → ⊥
none_there x xs e = cc

at_drop : {X : Type 0} (all : List X) (n : ℕ) (x : X) (xs : List X) → drop n all ≡ x ∷ xs → (slice_get all n ≡ Some x) × (drop (suc n) all ≡ xs)
at_drop [] zero x xs e = absurd (none_there x xs e)
at_drop [] (suc n) x xs e = absurd (none_there x xs e)
at_drop (y ∷ ys) zero x xs e = (ap (λ zs. slice_get zs 0) e, ap (drop 1) e)
at_drop (y ∷ ys) (suc n) x xs e = at_drop ys n x xs e

module _ (f : Spelled → Bool) (all : List Spelled) where
  numbered : (n : ℕ) (xs : List Spelled) → drop n all ≡ xs → records_of all (numbers_from f n xs) ≡ filter f xs
  numbered n [] e = refl
  numbered n (x ∷ xs) e =
      let at = at_drop all n x xs e in
      let rest = numbered (suc n) xs at.1 in
      let go : (b : Bool) → records_of all (if b then n ∷ numbers_from f (suc n) xs else numbers_from f (suc n) xs) ≡ cond b (x ∷ filter f xs) (filter f xs) =
      λ b. elim b as (λ b. records_of all (if b then n ∷ numbers_from f (suc n) xs else numbers_from f (suc n) xs) ≡ cond b (x ∷ filter f xs) (filter f xs)) [
        | true ↦ λ i. cons_option (at.0 i) (rest i)
        | false ↦ rest
      ] in
      go (f x)

-- ---- the records of a type that are verified are those of the RRset that was asked for

gate_is : (class reads kind own sought verified : Bool) → (kind ≡ true → sought ≡ own) → (own ≡ true → kind ≡ true → verified ≡ true) → (((class && reads) && (sought && verified)) && kind) ≡ (((class && kind) && own) && reads)
gate_is false reads kind own sought verified p v = refl
gate_is true false false own sought verified p v = refl
gate_is true false true false sought verified p v = refl
gate_is true false true true sought verified p v = refl
gate_is true true false own false verified p v = refl
gate_is true true false own true false p v = refl
gate_is true true false own true true p v = refl
gate_is true true true false sought verified p v = λ i. (p refl i && verified) && true
gate_is true true true true sought verified p v = λ i. (p refl i && v refl refl i) && true

-- one item, by which tests it passes
module _ (f : Spelled → Option (List ℕ)) (is kind : Spelled → Bool) (x : Spelled) (xs : List Spelled) (rest : List (List ℕ)) (kept : filter_map f (filter kind (filter is xs)) ≡ rest) where
  -- it has no part
  out : (g : Bool) (o : Option (List ℕ)) → f x ≡ o → false ≡ (g && is_some o) → cons_option (elim g as (λ _. Option (List ℕ)) [ true ↦ f x | false ↦ None ]) rest ≡ rest
  out false o s e = refl
  out true None s e = ap (λ y. cons_option y rest) s
  out true (Some d) s e = absurd (false≢true e)

  by_gate : (a b g : Bool) (o : Option (List ℕ)) → is x ≡ a → kind x ≡ b → f x ≡ o → (a && b) ≡ (g && is_some o) → filter_map f (filter kind (filter is (x ∷ xs))) ≡ cons_option (elim g as (λ _. Option (List ℕ)) [ true ↦ f x | false ↦ None ]) rest
  by_gate true true g o p q s e =
      let first : filter_map f (filter kind (filter is (x ∷ xs))) ≡ cons_option (f x) (filter_map f (filter kind (filter is xs))) =
      (λ i. filter_map f (filter kind (cond (p i) (x ∷ filter is xs) (filter is xs)))) ∙ (λ i. filter_map f (cond (q i) (x ∷ filter kind (filter is xs)) (filter kind (filter is xs)))) in
      let go : (g : Bool) → true ≡ (g && is_some o) → cons_option (f x) rest ≡ cons_option (elim g as (λ _. Option (List ℕ)) [ true ↦ f x | false ↦ None ]) rest = λ g. elim g as (λ g. true ≡ (g && is_some o) → cons_option (f x) rest ≡ cons_option (elim g as (λ _. Option (List ℕ)) [ true ↦ f x | false ↦ None ]) rest) [
        | true ↦ λ k. refl
        | false ↦ λ k. absurd (false≢true (sym k))
      ] in
      first ∙ ap (cons_option (f x)) kept ∙ go g e
  by_gate true false g o p q s e =
      (λ i. filter_map f (filter kind (cond (p i) (x ∷ filter is xs) (filter is xs)))) ∙ (λ i. filter_map f (cond (q i) (x ∷ filter kind (filter is xs)) (filter kind (filter is xs)))) ∙ kept
      ∙ sym (out g o s e)
  by_gate false b g o p q s e = (λ i. filter_map f (filter kind (cond (p i) (x ∷ filter is xs) (filter is xs)))) ∙ kept ∙ sym (out g o s e)

module _ (w : Trusting) (k : ℕ) (m : List ℕ) (rs : List Spelled) (q : Name) (t : ℕ) (links : (47 == t) ≡ false) (hashes : (50 == t) ≡ false) (verified : is_verified w k m rs q t (rrset_in k m rs q t) ≡ true) where
  abbrev of_type : Spelled → Bool
  of_type r = r.rtype == t

  sought_is : (r : Spelled) → (r.rtype == t) ≡ true → (answer_sought k m w.apex rs q t).is r.owner r.rtype ≡ same r.owner q
  sought_is r h =
      let kind : r.rtype ≡ t = eqb-true r.rtype t h in
      (λ i. ((47 == kind i) && is_alone k m w.apex rs r.owner) || ((50 == kind i) && is_hash_alone k m w.apex rs r.owner) || ((t == kind i) && same r.owner q))
      ∙ (λ i. (links i && is_alone k m w.apex rs r.owner) || (hashes i && is_hash_alone k m w.apex rs r.owner) || (eq-eqb t t refl i && same r.owner q))

  own_verified : (r : Spelled) → same r.owner q ≡ true → (r.rtype == t) ≡ true → is_verified w k m rs r.owner r.rtype (rrset_in k m rs r.owner r.rtype) ≡ true
  own_verified r own h =
      sym (by_is w k m rs r.owner r.rtype (rrset_in k m rs r.owner r.rtype))
      ∙ ap is_some (alike_verified w k m rs r.owner q r.rtype t (same_labels (low r.owner) (low q) own) (eqb-true r.rtype t h))
      ∙ by_is w k m rs q t (rrset_in k m rs q t) ∙ verified

  kept_are : (xs : List Spelled) → filter_map (canonical_data k m) (filter of_type (filter (is_verified_record w k m rs q t) xs)) ≡ filter_map (datum_of k m q t) xs
  kept_are [] = refl
  kept_are (x ∷ xs) =
      by_gate (canonical_data k m) (is_verified_record w k m rs q t) of_type x xs (filter_map (datum_of k m q t) xs) (kept_are xs) (is_verified_record w k m rs q t x) (x.rtype == t) ((x.class == 1) && (x.rtype == t) && same x.owner q) (canonical_data k m x) refl refl refl
      (gate_is (x.class == 1) (is_some (canonical_data k m x)) (x.rtype == t) (same x.owner q) ((answer_sought k m w.apex rs q t).is x.owner x.rtype) (is_verified w k m rs x.owner x.rtype (rrset_in k m rs x.owner x.rtype)) (sought_is x) (own_verified x))

  data_are : data_of_type k m rs t (verified_in_answer w k m rs q t) ≡ rrset_in k m rs q t
  data_are = ap sorted_data (ap (λ xs. filter_map (canonical_data k m) (filter of_type xs)) (numbered (is_verified_record w k m rs q t) rs 0 rs refl) ∙ kept_are rs)

-- ---- a verdict that tells data

not_refused : (e : Refusal) (v : Verdict) → Refuses e ≡ Says v → ⊥
not_refused e v h = cc

untold : (v : Verdict) (ds : List (List ℕ)) → told_data v ≡ Some ds → Says Unsigned ≡ Says v → ⊥
untold v ds d h = none_some (ap told (h) ∙ d)
  where
    told : Answer → Option (List (List ℕ))
    told (Says v) = told_data v
    told (Refuses e) = None

    none_some : None ≡ Some ds → ⊥
    none_some e = cc

ok_is : (read : Result Message MessageError) (a b : Message) → read ≡ Ok a → read ≡ Ok b → a ≡ b
ok_is read a b e f = cc

module _ (a : Answers) (k : ℕ) (h : JudgeInput) (v : Verdict) (ds : List (List ℕ)) (says : judged a k h ≡ Says v) (tells : told_data v ≡ Some ds) where
  unrefused_first : (first_refusal k h ≡ None) × (nat_eq (length h.ds) 0 ≡ false)
  unrefused_first = go (first_refusal k h) refl (nat_eq (length h.ds) 0) refl says
    where
      go : (o : Option Refusal) → first_refusal k h ≡ o → (b : Bool) → nat_eq (length h.ds) 0 ≡ b → elim o as (λ _. Answer) [ Some e ↦ Refuses e | None ↦ if b then Says Unsigned else judged_bytes a k h ] ≡ Says v
          → (first_refusal k h ≡ None) × (nat_eq (length h.ds) 0 ≡ false)
      go (Some e) p b q s = absurd (not_refused e v s)
      go None p true q s = absurd (untold v ds tells s)
      go None p false q s = (p, q)

  said : IsSaid a k h v
  said = judged_says a k h v (λ e. false≢true (sym unrefused_first.1 ∙ ap (λ ds. nat_eq (length ds) 0) e)) says

  unrefused_then : message_refusal k h ≡ None
  unrefused_then = sym (λ i. if not (said.asked i) then Some r.QuestionNotAllowed else if unrefused_first.1 i then None else message_refusal k h) ∙ unrefused_first.0

  abbrev w : Trusting
  w = trusting a h (filter is_usable (keys_of h said.keys))

  records_are : verified_records a k h ≡ verified_in_answer w k h.answer_bytes said.answer.records h.asked.name h.asked.rtype
  records_are =
      (λ i. elim (if not (said.asked i) || unrefused_first.1 i then None else elim (unrefused_then i) as (λ _. Option (Message × Message)) [ Some e ↦ None | None ↦ both_spelled (said.keys_read i) (said.answer_read i) ]) as (λ _. List ℕ) [
        | None ↦ []
        | Some messages ↦ verified_in_messages a k h messages.0 messages.1
      ])
      ∙ (λ i. elim (if said.chained i then Some (filter is_usable (keys_of h said.keys)) else None) as (λ _. List ℕ) [
        | None ↦ []
        | Some usable ↦ verified_in_answer (trusting a h usable) k h.answer_bytes said.answer.records h.asked.name h.asked.rtype
      ])

  added : ((47 == h.asked.rtype) ≡ false) × ((50 == h.asked.rtype) ≡ false)
  added =
      let t = h.asked.rtype in
      let c46 = or_parts (t == 46) _ (judged_type h said.asked) in
      let c47 = or_parts (t == 47) _ c46.1 in
      let c48 = or_parts (t == 48) _ c47.1 in
      let c50 = or_parts (t == 50) _ c48.1 in
      (eq_swap 47 t ∙ c47.0, eq_swap 50 t ∙ c50.0)

  have_data : HaveData a k h ds
  have_data answer read =
      let m = h.answer_bytes in
      let q = h.asked.name in
      let t = h.asked.rtype in
      let rs = said.answer.records in
      let one : said.answer ≡ answer = ok_is (message k m) said.answer answer said.answer_read read in
      let f = facts_of a k h said.keys said.answer in
      let told = decided_tells h.apex (hash_among a.hash f.hash_links) f q t v ds said.decided tells in
      let items = rrset_in k m rs q t in
      let by = mapped (λ (g : Fields). let x : Rrset = record { datas = items; labels = g.labels } in x) (verified_by w k m rs q t items) told.0 told.1 in
      let verified : is_verified w k m rs q t items ≡ true = sym (by_is w k m rs q t items) ∙ ap is_some by.1 in
      let datas : items ≡ ds = ap (λ (x : Rrset). x.datas) by.2 ∙ told.2 in
      ap (λ (x : Message). data_of_type k m x.records t (verified_records a k h)) (sym one)
      ∙ ap (data_of_type k m rs t) records_are
      ∙ data_are w k m rs q t added.0 added.1 verified
      ∙ datas

pub verdicts_are_verified : VerdictsAreVerified
verdicts_are_verified a k h ds = (λ says. have_data a k h (Records ds) ds says refl, λ says. have_data a k h (StarRecords ds) ds says refl)
