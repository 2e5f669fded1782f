-- What NSEC records decide, more of them decide too: each rule answers on one of them.
use Rattle.std.proofs.Common.{◌≡◌, ℕ, Bool, true, false, List, Option, Some, None, refl, inl, inr}
use Rattle.definitions.specs.Name.{Name, strictly_above}
use Rattle.definitions.specs.Zone.{NoType, Verdict, star_under}
use Rattle.definitions.proofs.Members.{In}
use Rattle.denial_laws.specs.Facts.{Link, Rrset}
use Rattle.denial_laws.specs.NsecRules.{at_owner, at_star, below_cut, closest, covered, denied, denies, expanded, expanded_by, first_some, link_covers, or_else}
use Rattle.denial_laws.proofs.AtName.{Answers}
use Rattle.denial_laws.proofs.Found.{either_from, first_from, first_is, left_is, right_is}

-- what answers on an item of a list answers on the items of a longer one
pub more_answer : {A : Type 0} (f g : A → Option Verdict) (xs ys : List A) → ((x : A) → In x xs → In x ys) → ((x : A) (v : Verdict) → f x ≡ Some v → Answers (g x))
    → (v : Verdict) → first_some f xs ≡ Some v → Answers (first_some g ys)
more_answer f g xs ys more step v h =
    let found = first_from f xs v h in
    let told = step found.0 v found.1.1 in
    first_is g ys found.0 told.0 (more found.0 found.1.0) told.1

module _ (apex q : Name) (t : ℕ) (fs gs : List Link) (more : (l : Link) → In l fs → In l gs) where
  abbrev covering : List Link → Bool → Bool → Option Name → Option Verdict
  covering ls c b e = elim c [
    | true ↦ elim b [
      | true ↦ Some NoType
      | false ↦ elim e [ None ↦ None | Some n ↦ first_some (at_star apex (star_under n) t) ls ]
    ]
    | false ↦ None
  ]

  covered_more : (l : Link) (v : Verdict) → covered apex q t fs l ≡ Some v → Answers (covered apex q t gs l)
  covered_more l v h = go (link_covers apex l q) (strictly_above q l.next) (closest l q) h
    where
      go : (c b : Bool) (e : Option Name) → covering fs c b e ≡ Some v → Answers (covering gs c b e)
      go true true e h = (NoType, refl)
      go true false None h = absurd cc
      go true false (Some n) h = more_answer (at_star apex (star_under n) t) (at_star apex (star_under n) t) fs gs more (λ x w k. (w, k)) v h
      go false b e h = absurd cc

  abbrev later : List Link → Option Verdict
  later ls = or_else (first_some (below_cut apex q) ls) (first_some (covered apex q t ls) ls)

  later_more : (v : Verdict) → later fs ≡ Some v → Answers (later gs)
  later_more v h = elim (either_from (first_some (below_cut apex q) fs) (first_some (covered apex q t fs) fs) v h) [
    | inl here ↦
        let told = more_answer (below_cut apex q) (below_cut apex q) fs gs more (λ x w k. (w, k)) v here in
        left_is (first_some (below_cut apex q) gs) (first_some (covered apex q t gs) gs) told.0 told.1
    | inr there ↦
        let told = more_answer (covered apex q t fs) (covered apex q t gs) fs gs more covered_more v there.1 in
        right_is (first_some (below_cut apex q) gs) (first_some (covered apex q t gs) gs) told.0 told.1
  ]

  abbrev undenied : List Link → Option Verdict
  undenied ls = or_else (first_some (at_owner apex q t) ls) (later ls)

  undenied_more : (v : Verdict) → undenied fs ≡ Some v → Answers (undenied gs)
  undenied_more v h = elim (either_from (first_some (at_owner apex q t) fs) (later fs) v h) [
    | inl here ↦
        let told = more_answer (at_owner apex q t) (at_owner apex q t) fs gs more (λ x w k. (w, k)) v here in
        left_is (first_some (at_owner apex q t) gs) (later gs) told.0 told.1
    | inr there ↦
        let told = later_more v there.1 in
        right_is (first_some (at_owner apex q t) gs) (later gs) told.0 told.1
  ]

  pub denied_more : (v : Verdict) → denied apex q t fs ≡ Some v → Answers (denied apex q t gs)
  denied_more v h = elim (either_from (first_some (denies q) fs) (undenied fs) v h) [
    | inl here ↦
        let told = more_answer (denies q) (denies q) fs gs more (λ x w k. (w, k)) v here in
        left_is (first_some (denies q) gs) (undenied gs) told.0 told.1
    | inr there ↦
        let told = undenied_more v there.1 in
        right_is (first_some (denies q) gs) (undenied gs) told.0 told.1
  ]

  pub expanded_more : (r : Rrset) (v : Verdict) → expanded apex q r fs ≡ Some v → Answers (expanded apex q r gs)
  expanded_more r v h = more_answer (expanded_by apex q r) (expanded_by apex q r) fs gs more (λ x w k. (w, k)) v h
