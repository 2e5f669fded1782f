-- The records of groups that are verified are those that the definitions verify.
use Rattle.std.proofs.Common.{◌≡◌, ℕ, suc, ◌+◌, ◌<◌, Bool, true, false, ◌&&◌, ◌||◌, ◌==◌, List, [], ◌∷◌, ◌++◌, drop, get_or, map, length, refl, sym, ap, ◌∙◌, add-one}
use Rattle.std.specs.Prelude.{None, is_some, if◌then◌else◌}
use Rattle.std.specs.List.{AllByRecursion, list_any}
use Rattle.std.proofs.lemmas.Bool.{and_parts, eqb-true}
use Rattle.definitions.specs.Limits.{pointer_limit}
use Rattle.definitions.specs.Name.{Name, low, same}
use Rattle.messages.specs.Message.{Spelled, canonical_data}
use Rattle.messages.specs.Record.{spelled}
use Rattle.messages.specs.declared.view.ViewRecord.{ViewRecord}
use Rattle.messages.proofs.Lists.{items_from, list_any-map}
use Rattle.messages.proofs.ZoneNames.{same_labels}
use Rattle.answer_judge_facts.specs.Marked.{data_in, is_of, is_proved, marked}
use Rattle.answer_judge_facts.specs.Sought.{Sought, answer_sought}
use Rattle.answer_judge_facts.specs.Verified.{Trusting, is_verified}
use Rattle.answer_judge_facts.specs.declared.groups.SignedRrset.{SignedRrset}
use Rattle.answer_judge_facts.proofs.JudgeCase.{is_verified-owner}
use Rattle.answer_judge_facts.proofs.JudgeCounted.{AreSought, any_alike}
use Rattle.answer_judge_facts.proofs.JudgeMarks.{marked_is}
use Rattle.answer_verified_records.specs.Groups.{is_of_verified}
use Rattle.answer_verified_records.specs.Records.{is_verified_record, numbers_from, verified_in_answer}

and_swap : (a b : Bool) → (a && b) ≡ (b && a)
and_swap true true = refl
and_swap true false = refl
and_swap false true = refl
and_swap false false = refl

module _ (w : Trusting) (m : List ℕ) (rs : List Spelled) (s : Sought) (gs : List SignedRrset) (a : AreSought s gs) where
  -- an RRset that is verified
  each_proved : (o : Name) (t : ℕ) (xs : List SignedRrset) → AllByRecursion (λ g. is_of o t g ≡ true → data_in g ≡ s.datas o t) xs → AllByRecursion (λ g. g.verified ≡ None) xs
      → AllByRecursion (λ g. is_of o t g ≡ true → is_some (marked w m rs g).verified ≡ is_verified w pointer_limit m rs o t (s.datas o t)) xs
  each_proved o t [] d v = tt
  each_proved o t (g ∷ xs) d v = (
    (λ is.
        let p = and_parts (g.rtype == t) (same o g.owner) is in
        let owner : low g.owner ≡ low o = sym (same_labels (low o) (low g.owner) p.1) in
        let kind : g.rtype ≡ t = eqb-true g.rtype t p.0 in
        let items = d.0 is in
        marked_is w m rs g
        ∙ (λ i. is_some (v.0 i) || is_verified w pointer_limit m rs g.owner (kind i) (items i))
        ∙ is_verified-owner w pointer_limit m rs g.owner o t (s.datas o t) owner),
    each_proved o t xs d.1 v.1,
  )

  proved_any : (o : Name) (t : ℕ) → list_any (is_proved o t) (map (marked w m rs) gs) ≡ (s.is o t && is_verified w pointer_limit m rs o t (s.datas o t))
  proved_any o t =
      list_any-map (is_proved o t) (marked w m rs) gs
      ∙ (λ i. list_any (λ g. and_swap (is_some (marked w m rs g).verified) (is_of o t g) i) gs)
      ∙ any_alike (is_of o t) (λ g. is_some (marked w m rs g).verified) (is_verified w pointer_limit m rs o t (s.datas o t)) gs (each_proved o t gs (a.datas o t) a.fresh)
      ∙ ap (λ b. b && is_verified w pointer_limit m rs o t (s.datas o t)) (sym (a.found o t))

module _ (w : Trusting) (m : List ℕ) (rs : List Spelled) (q : Name) (t : ℕ) (gs : List SignedRrset) (a : AreSought (answer_sought pointer_limit m w.apex rs q t) gs) (new : List SignedRrset) (n : new ≡ map (marked w m rs) gs) where
  record_is : (r : Spelled) → is_of_verified m new r ≡ is_verified_record w pointer_limit m rs q t r
  record_is r =
      ap (λ ys. is_of_verified m ys r) n
      ∙ ap (λ b. (r.class == 1) && is_some (canonical_data pointer_limit m r) && b) (proved_any w m rs (answer_sought pointer_limit m w.apex rs q t) gs a r.owner r.rtype)

  pub numbers_are : numbers_from (is_of_verified m new) 0 rs ≡ verified_in_answer w pointer_limit m rs q t
  numbers_are = λ i. numbers_from (λ r. record_is r i) 0 rs

-- ---- one record after another

module _ {X : Type 0} (f : X → Bool) (n : ℕ) (x : X) (xs : List X) where
  abbrev by_test : Bool → List ℕ
  by_test b = if b then n ∷ numbers_from f (suc n) xs else numbers_from f (suc n) xs

  counted_one : f x ≡ true → numbers_from f n (x ∷ xs) ≡ n ∷ numbers_from f (n + 1) xs
  counted_one h = ap by_test h ∙ ap (λ k. n ∷ numbers_from f k xs) (sym (add-one n))

  passed_over : f x ≡ false → numbers_from f n (x ∷ xs) ≡ numbers_from f (n + 1) xs
  passed_over h = ap by_test h ∙ ap (λ k. numbers_from f k xs) (sym (add-one n))

append_more : (xs : List ℕ) (n : ℕ) (ys : List ℕ) → xs ++ n ∷ ys ≡ (xs ++ n ∷ []) ++ ys
append_more [] n ys = refl
append_more (x ∷ xs) n ys = ap (λ zs. x ∷ zs) (append_more xs n ys)

module _ (f : Spelled → Bool) (rs : List ViewRecord) (i : ℕ) (r : ViewRecord) (inside : i < length rs) (is : r ≡ get_or rs i r) where
  abbrev rest : ℕ → List Spelled
  rest n = map spelled (drop n rs)

  from : rest i ≡ spelled r ∷ rest (i + 1)
  from = ap (map spelled) (items_from rs i r inside is)

  pub after_one : (before all : List ℕ) → before ++ numbers_from f i (rest i) ≡ all → f (spelled r) ≡ true → (before ++ i ∷ []) ++ numbers_from f (i + 1) (rest (i + 1)) ≡ all
  after_one before all h passes =
      sym (append_more before i (numbers_from f (i + 1) (rest (i + 1))))
      ∙ ap (λ ys. before ++ ys) (sym (ap (numbers_from f i) from ∙ counted_one f i (spelled r) (rest (i + 1)) passes)) ∙ h

  pub after_none : (before all : List ℕ) → before ++ numbers_from f i (rest i) ≡ all → f (spelled r) ≡ false → before ++ numbers_from f (i + 1) (rest (i + 1)) ≡ all
  after_none before all h fails = ap (λ ys. before ++ ys) (sym (ap (numbers_from f i) from ∙ passed_over f i (spelled r) (rest (i + 1)) fails)) ∙ h
