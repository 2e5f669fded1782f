-- What messages whose used records are alike verify is the same, up to the case of the names in links.
use Rattle.std.proofs.Common.{◌≡◌, ℕ, Bool, true, false, ◌&&◌, ◌||◌, List, length, Option, None, eqb, refl, sym, ap, subst, ◌∙◌}
use Rattle.std.specs.List.{AllZip, filter, list_any}
use Rattle.std.specs.Option.{option_map}
use Rattle.std.proofs.lemmas.Bool.{eq-eqb, eqb-true, or_parts, true≢false}
use Rattle.definitions.specs.Name.{Name, at_or_above, same}
use Rattle.messages.specs.Message.{Spelled}
use Rattle.answer_terms.specs.Alike.{IsLike}
use Rattle.answer_terms.specs.FactsCase.{low_facts}
use Rattle.answer_terms.specs.HashOwner.{spells_hash}
use Rattle.answer_judge_facts.specs.Sought.{answer_sought, is_alone}
use Rattle.answer_judge_facts.specs.Times.{Times, proof_times, times_at, times_of}
use Rattle.answer_judge_facts.specs.Verified.{Trusting, is_hash_alone, one_known, rrset_in, verified_by, verified_facts, verified_rrset}
use Rattle.answer_judge_facts.proofs.JudgeTimes.{alike_verified, sought-owner}
use Rattle.message_laws.specs.SeenAlike.{is_covering, is_used, is_used_type}
use Rattle.message_laws.proofs.Picked.{some_picked, some_zipped}
use Rattle.message_laws.proofs.UsedAlike.{asked_alike, covering_alike, first_verified, no_rrset, none_verified, rrset_alike}
use Rattle.message_laws.proofs.LinksAlike.{hash_links_alike, links_alike}

flipped : (a b : ℕ) → eqb a b ≡ false → eqb b a ≡ false
flipped a b e = go (eqb b a) refl
  where
    go : (x : Bool) → eqb b a ≡ x → x ≡ false
    go true f = absurd (true≢false (sym (eq-eqb a b (sym (eqb-true b a f))) ∙ e))
    go false f = refl

no_when : (sought class : Bool) (o : Option Times) → o ≡ None → (elim (class && sought) as (λ _. Option Times) [ true ↦ o | false ↦ None ]) ≡ None
no_when sought class o e = go (class && sought)
  where
    go : (b : Bool) → (elim b as (λ _. Option Times) [ true ↦ o | false ↦ None ]) ≡ None
    go true = e
    go false = refl

-- what is used is alike of one type, and another is asked for
module _ (k : ℕ) (m n : List ℕ) (v t : ℕ) (rs ss : List Spelled) (z : AllZip (IsLike k m n) (filter (is_used v) rs) (filter (is_used v) ss)) (w : Trusting) (q : Name) where
  facts_where : verified_rrset w k m rs q t ≡ verified_rrset w k n ss q t → low_facts (verified_facts w k m rs q t) ≡ low_facts (verified_facts w k n ss q t)
  facts_where rrset =
      let links = links_alike k m n v rs ss z w in
      let hash_links = hash_links_alike k m n v rs ss z w in
      λ i. record { rrset = rrset i; links = links i; hash_links = hash_links i }

  -- ---- times of signatures

  sought_alike : (o : Name) (u : ℕ) → (answer_sought k m w.apex rs q t).is o u ≡ (answer_sought k n w.apex ss q t).is o u
  sought_alike o u =
      let nsec = rrset_alike k m n v rs ss z o 47 refl in
      let nsec3 = rrset_alike k m n v rs ss z o 50 refl in
      λ i. (eqb 47 u && (at_or_above w.apex o && eqb (length (nsec i)) 1)) || (eqb 50 u && (spells_hash w.apex o && one_known (nsec3 i))) || (eqb t u && same o q)

  abbrev times_when : Bool → Option Times → Option Times
  times_when b o = elim b [ true ↦ o | false ↦ None ]

  abbrev times_there : List ℕ → List Spelled → Name → ℕ → Option Times
  times_there x xs o u = option_map times_of (verified_by w k x xs o u (rrset_in k x xs o u))

  none_is : (c a b d : Bool) → (c && ((false && a) || (false && b) || (false && d))) ≡ false
  none_is true a b d = refl
  none_is false a b d = refl

  -- a record that is not used, of another type than the one that is asked for
  no_times : (x : List ℕ) (xs : List Spelled) (r : Spelled) → is_used v r ≡ false → eqb t r.rtype ≡ false → times_at w k x xs q t r ≡ None
  no_times x xs r unused other =
      let p = or_parts _ (eqb r.rtype v) unused in
      let o = or_parts _ (eqb r.rtype 50) p.0 in
      let nsec = flipped r.rtype 47 (or_parts (eqb r.rtype 46) (eqb r.rtype 47) o.0).1 in
      let nsec3 = flipped r.rtype 50 o.1 in
      (λ i. times_when (eqb r.class 1 && ((nsec i && is_alone k x w.apex xs r.owner) || (nsec3 i && is_hash_alone k x w.apex xs r.owner) || (other i && same r.owner q))) (times_there x xs r.owner r.rtype))
      ∙ ap (λ b. times_when b (times_there x xs r.owner r.rtype)) (none_is (eqb r.class 1) (is_alone k x w.apex xs r.owner) (is_hash_alone k x w.apex xs r.owner) (same r.owner q))

  used_times : (r s : Spelled) → IsLike k m n r s → is_used v r ≡ true → times_at w k m rs q t r ≡ times_at w k n ss q t s
  used_times r s like used =
      let there : (answer_sought k m w.apex rs q t).is r.owner r.rtype ≡ (answer_sought k n w.apex ss q t).is s.owner s.rtype =
      sought_alike r.owner r.rtype ∙ sought-owner k n w.apex ss q t r.owner s.owner r.rtype like.owner_is ∙ ap (λ u. (answer_sought k n w.apex ss q t).is s.owner u) like.type_is in
      let first : verified_by w k m rs r.owner r.rtype (rrset_in k m rs r.owner r.rtype) ≡ verified_by w k n ss s.owner s.rtype (rrset_in k n ss s.owner s.rtype) =
      first_verified k m n v rs ss z w r.owner r.rtype (rrset_in k m rs r.owner r.rtype)
      ∙ ap (verified_by w k n ss r.owner r.rtype) (rrset_alike k m n v rs ss z r.owner r.rtype used)
      ∙ alike_verified w k n ss r.owner s.owner r.rtype s.rtype like.owner_is like.type_is in
      λ i. times_when (eqb (like.class_is i) 1 && there i) (option_map times_of (first i))

  -- where records that are not used have no times
  abbrev NoTimes : List ℕ → List Spelled → Type 0
  NoTimes x xs = (r : Spelled) → is_used v r ≡ false → times_at w k x xs q t r ≡ None

  times_alike : NoTimes m rs → NoTimes n ss → (r s : Spelled) → IsLike k m n r s → times_at w k m rs q t r ≡ times_at w k n ss q t s
  times_alike none_one none_other r s like = go (is_used v r) refl
    where
      go : (b : Bool) → is_used v r ≡ b → times_at w k m rs q t r ≡ times_at w k n ss q t s
      go true e = used_times r s like e
      go false e = none_one r e ∙ sym (none_other s (ap (is_used_type v) (sym like.type_is) ∙ e))

  times_where : NoTimes m rs → NoTimes n ss → proof_times w k m rs q t ≡ proof_times w k n ss q t
  times_where none_one none_other =
      some_picked (is_used v) (times_at w k m rs q t) rs none_one
      ∙ some_zipped (IsLike k m n) (times_at w k m rs q t) (times_at w k n ss q t) (filter (is_used v) rs) (filter (is_used v) ss) (times_alike none_one none_other) z
      ∙ sym (some_picked (is_used v) (times_at w k n ss q t) ss none_other)

-- ---- what is used is alike of the type that is asked for

module _ (k : ℕ) (m n : List ℕ) (t : ℕ) (rs ss : List Spelled) (z : AllZip (IsLike k m n) (filter (is_used t) rs) (filter (is_used t) ss)) (w : Trusting) (q : Name) where
  pub facts_alike : low_facts (verified_facts w k m rs q t) ≡ low_facts (verified_facts w k n ss q t)
  facts_alike = facts_where k m n t t rs ss z w q (asked_alike k m n t rs ss z w q)

  pub all_times : proof_times w k m rs q t ≡ proof_times w k n ss q t
  all_times =
      times_where k m n t t rs ss z w q
      (λ r unused. no_times k m n t t rs ss z w q m rs r unused (flipped r.rtype t (or_parts _ (eqb r.rtype t) unused).1))
      (λ r unused. no_times k m n t t rs ss z w q n ss r unused (flipped r.rtype t (or_parts _ (eqb r.rtype t) unused).1))

-- ---- no signature covers the type that is asked for

module _ (k : ℕ) (m n : List ℕ) (t : ℕ) (rs ss : List Spelled) (z : AllZip (IsLike k m n) (filter (is_used 46) rs) (filter (is_used 46) ss)) (bare : list_any (is_covering k n t) ss ≡ false) (w : Trusting) (q : Name) where
  bare_too : list_any (is_covering k m t) rs ≡ false
  bare_too = covering_alike k m n 46 rs ss z t ∙ bare

  pub bare_facts : low_facts (verified_facts w k m rs q t) ≡ low_facts (verified_facts w k n ss q t)
  bare_facts = facts_where k m n 46 t rs ss z w q (no_rrset w k m rs q t bare_too ∙ sym (no_rrset w k n ss q t bare))

  -- records of the type have none, and others as ever
  bare_times : (x : List ℕ) (xs : List Spelled) → list_any (is_covering k x t) xs ≡ false → (r : Spelled) → is_used 46 r ≡ false → times_at w k x xs q t r ≡ None
  bare_times x xs none r unused = go (eqb t r.rtype) refl
    where
      go : (b : Bool) → eqb t r.rtype ≡ b → times_at w k x xs q t r ≡ None
      go true e =
          let there : verified_by w k x xs r.owner r.rtype (rrset_in k x xs r.owner r.rtype) ≡ None =
          none_verified w k x xs r.owner r.rtype (rrset_in k x xs r.owner r.rtype) (subst (λ u. list_any (is_covering k x u) xs ≡ false) (eqb-true t r.rtype e) none) in
          no_when ((answer_sought k x w.apex xs q t).is r.owner r.rtype) (eqb r.class 1) (option_map times_of (verified_by w k x xs r.owner r.rtype (rrset_in k x xs r.owner r.rtype))) (ap (option_map times_of) there)
      go false e = no_times k m n 46 t rs ss z w q x xs r unused e

  pub all_bare_times : proof_times w k m rs q t ≡ proof_times w k n ss q t
  all_bare_times = times_where k m n 46 t rs ss z w q (bare_times m rs bare_too) (bare_times n ss bare)
