-- The RRsets of chains' records alone are those of the message.
use Rattle.std.proofs.Common.{◌≡◌, ℕ, zero, suc, ◌<◌, ◌+◌, Bool, true, false, ◌&&◌, ◌||◌, ◌==◌, cond, List, [], ◌∷◌, map, length, get_or, refl, sym, ap, subst, ◌∙◌, arith, inl, inr, Ordering}
use Rattle.std.specs.Prelude.{Option, Some, None}
use Rattle.std.specs.Cmp.Lexicographic.{slice_cmp}
use Rattle.std.specs.FinMap.{nat_cmp-IsAntisymmetric, slice_cmp-IsAntisymmetric}
use Rattle.std.specs.Fn.{Called, ComparesAs}
use Rattle.std.specs.List.{AllByRecursion, cons_option, filter, filter_map}
use Rattle.std.specs.List.Sorted.{IsPermutation, IsSortedBy, IsSortedByClosure}
use Rattle.std.specs.Ordering.{is_lt, nat_cmp}
use Rattle.std.proofs.lemmas.Bool.{and_from, and_parts, eqb-true}
use Rattle.std.proofs.lemmas.Cmp.{nat_list_cmp_total}
use Rattle.std.proofs.lemmas.Fn.{always_returns_same}
use Rattle.std.proofs.lemmas.List.Sorted.{Contains-permutation, IsPermutation-sym, ranks_by}
use denote.Param.Members.{Mut}
use denote.Ref.{Bor}
use Rattle.definitions.proofs.Members.{In, Within, sort_same, within_contained}
use Rattle.definitions.specs.Limits.{pointer_limit}
use Rattle.definitions.specs.Name.{Name, same, at_or_above}
use Rattle.messages.specs.Message.{Spelled, canonical_data}
use Rattle.messages.specs.Record.{spelled}
use Rattle.messages.specs.declared.view.ViewRecord.{ViewRecord}
use Rattle.answer_judge_facts.specs.Marked.{AreGathered, IsAlone, IsGathered, is_chain, is_chain_type, stands_alone}
use Rattle.answer_judge_facts.specs.Ranked.{chain_cmp}
use Rattle.answer_judge_facts.specs.Verified.{datum_of, one_known, rrset_in}
use Rattle.answer_judge_keys.specs.HashOwner.{spells_hash}
use Rattle.answer_judge_facts.specs.declared.groups.SignedRrset.{SignedRrset}
use Rattle.answer_judge_facts.proofs.ChainRuns.{chain_total}
use Rattle.answer_judge_keys.proofs.GivenSorted.{all_has}
use Rattle.answer_judge_facts.proofs.JudgeFacts.{chain_type}
use Rattle.messages.proofs.Lists.{Has, all_at, all_more}

-- ---- items that are kept

in_kept : {X Y : Type 0} (f : X → Option Y) (xs : List X) (x : X) (y : Y) → In x xs → f x ≡ Some y → In y (filter_map f xs)
in_kept f [] x y h e = absurd h
in_kept f (z ∷ zs) x y h e = elim h [
  | inl same ↦ subst (λ o. In y (cons_option o (filter_map f zs))) (sym (ap f (sym same) ∙ e)) (inl refl)
  | inr later ↦ behind (f z) (in_kept f zs x y later e)
]
  where
    behind : (o : Option _) → In y (filter_map f zs) → In y (cons_option o (filter_map f zs))
    behind None i = i
    behind (Some w) i = inr i

kept_from : {X Y : Type 0} (f : X → Option Y) (xs : List X) (y : Y) → In y (filter_map f xs) → (x : X) × In x xs × (f x ≡ Some y)
kept_from f [] y h = absurd h
kept_from {X} {Y} f (z ∷ zs) y h = go (f z) refl h (kept_from f zs y)
  where
    go : (o : Option Y) → f z ≡ o → In y (cons_option o (filter_map f zs)) → (In y (filter_map f zs) → (x : X) × In x zs × (f x ≡ Some y)) → (x : X) × In x (z ∷ zs) × (f x ≡ Some y)
    go None e i rest = let r = rest i in (r.0, inr r.1, r.2)
    go (Some w) e i rest = elim i [
      | inl same ↦ (z, inl refl, e ∙ ap Some (sym same))
      | inr later ↦ let r = rest later in (r.0, inr r.1, r.2)
    ]

in_filter : (p : Spelled → Bool) (xs : List Spelled) (x : Spelled) → In x xs → p x ≡ true → In x (filter p xs)
in_filter p [] x h e = absurd h
in_filter p (z ∷ zs) x h e = elim h [
  | inl same ↦ subst (λ b. In x (cond b (z ∷ filter p zs) (filter p zs))) (sym (ap p (sym same) ∙ e)) (inl same)
  | inr later ↦ behind (p z) (in_filter p zs x later e)
]
  where
    behind : (b : Bool) → In x (filter p zs) → In x (cond b (z ∷ filter p zs) (filter p zs))
    behind true i = inr i
    behind false i = i

from_filter : (p : Spelled → Bool) (xs : List Spelled) (x : Spelled) → In x (filter p xs) → In x xs
from_filter p [] x h = absurd h
from_filter p (z ∷ zs) x h = go (p z) h (from_filter p zs x)
  where
    go : (b : Bool) → In x (cond b (z ∷ filter p zs) (filter p zs)) → (In x (filter p zs) → In x zs) → In x (z ∷ zs)
    go true i rest = elim i [ inl same ↦ inl same | inr later ↦ inr (rest later) ]
    go false i rest = inr (rest i)

pub filter_chain : (p : Spelled → Bool) (xs : List Spelled) → AllByRecursion (λ x. p x ≡ true) (filter p xs)
filter_chain p [] = tt
filter_chain p (z ∷ zs) = go (p z) refl (filter_chain p zs)
  where
    go : (b : Bool) → p z ≡ b → AllByRecursion (λ x. p x ≡ true) (filter p zs) → AllByRecursion (λ x. p x ≡ true) (cond b (z ∷ filter p zs) (filter p zs))
    go true e rest = (e, rest)
    go false e rest = rest

to_in : (xs : List Spelled) (x : Spelled) → Has xs x → In x xs
to_in [] x h = absurd h
to_in (y ∷ ys) x h = elim h [ inl e ↦ inl e | inr later ↦ inr (to_in ys x later) ]

to_has : (xs : List Spelled) (x : Spelled) → In x xs → Has xs x
to_has [] x h = absurd h
to_has (y ∷ ys) x h = elim h [ inl e ↦ inl e | inr later ↦ inr (to_has ys x later) ]

-- ---- the same RRsets

tested : (b : Bool) (x : Option (List ℕ)) (d : List ℕ) → elim b as (λ _. Option (List ℕ)) [ true ↦ x | false ↦ None ] ≡ Some d → b ≡ true
tested true x d e = refl
tested false x d e = cc

module _ (m : List ℕ) (apex : Name) (rs ys : List Spelled) (moved : IsPermutation (filter is_chain rs) ys) where
  chained_in : Within (filter is_chain rs) ys
  chained_in = within_contained (filter is_chain rs) ys (λ x c. Contains-permutation (filter is_chain rs) ys x moved c)

  in_chained : Within ys (filter is_chain rs)
  in_chained = within_contained ys (filter is_chain rs) (λ x c. Contains-permutation ys (filter is_chain rs) x (IsPermutation-sym (filter is_chain rs) ys moved) c)

  chained : (r : Spelled) → In r rs → is_chain r ≡ true → In r ys
  chained r i c = chained_in r (in_filter is_chain rs r i c)

  pub all_chain : AllByRecursion (λ r. is_chain r ≡ true) ys
  all_chain = all_has (λ r. is_chain r ≡ true) ys (λ r h. all_at (λ r. is_chain r ≡ true) (filter is_chain rs) r (filter_chain is_chain rs) (to_has (filter is_chain rs) r (in_chained r (to_in ys r h))))

  rrset_same : (o : Name) (t : ℕ) → is_chain_type t ≡ true → rrset_in pointer_limit m ys o t ≡ rrset_in pointer_limit m rs o t
  rrset_same o t chain =
      let f = datum_of pointer_limit m o t in
      sort_same (slice_cmp nat_cmp) nat_list_cmp_total (slice_cmp-IsAntisymmetric nat_cmp-IsAntisymmetric) (filter_map f ys) (filter_map f rs)
      (λ d i. let k = kept_from f ys d i in in_kept f rs k.0 d (from_filter is_chain rs k.0 (in_chained k.0 k.1)) k.2)
      (λ d i.
      let k = kept_from f rs d i in
      let r : Spelled = k.0 in
      let test = tested _ (canonical_data pointer_limit m r) d k.2 in
      let p = and_parts ((r.class == 1) && (r.rtype == t)) (same r.owner o) test in
      let q = and_parts (r.class == 1) (r.rtype == t) p.0 in
      in_kept f ys r d (chained r k.1 (and_from _ _ (ap is_chain_type (eqb-true r.rtype t q.1) ∙ chain) q.0)) k.2)

  alone_same : (t : ℕ) (o : Name) → stands_alone m apex ys t o ≡ stands_alone m apex rs t o
  alone_same t o = (λ i. ((47 == t) && (at_or_above apex o && (length (rrset_same o 47 refl i) == 1))) || ((50 == t) && (spells_hash apex o && one_known (rrset_same o 50 refl i))))

  each_same : (g : SignedRrset) → IsAlone m apex ys g → IsAlone m apex rs g
  each_same g a = record {
    data_are = a.data_are ∙ rrset_same g.owner g.rtype (chain_type m apex ys g.rtype g.owner a.alone);
    alone = sym (alone_same g.rtype g.owner) ∙ a.alone;
    unverified = a.unverified;
  }

  -- what was gathered of them was gathered of the message
  pub gathered_whole : (gs : List SignedRrset) → AreGathered m apex ys ys gs → AreGathered m apex rs rs gs
  gathered_whole gs a = record {
    each = all_more (IsAlone m apex ys) (IsAlone m apex rs) gs each_same a.each;
    all = all_has (IsGathered m apex rs gs) rs (λ r h c s. all_at (IsGathered m apex ys gs) ys r a.all (to_has ys r (chained r (to_in rs r h) c)) c (alone_same r.rtype r.owner ∙ s));
  }

-- ---- records that a closure sorts

same_default : {X : Type 0} (xs : List X) (k : ℕ) (d e : X) → k < length xs → get_or xs k d ≡ get_or xs k e
same_default [] k d e h = absurd (omega arith)
same_default (x ∷ xs) zero d e h = refl
same_default (x ∷ xs) (suc k) d e h = same_default xs k d e (omega arith)

get_mapped : {X Y : Type 0} (f : X → Y) (xs : List X) (k : ℕ) (d : Y) (e : X) → k < length xs → get_or (map f xs) k d ≡ f (get_or xs k e)
get_mapped f [] k d e h = absurd (omega arith)
get_mapped f (x ∷ xs) zero d e h = refl
get_mapped f (x ∷ xs) (suc k) d e h = get_mapped f xs k d e (omega arith)

long : {X Y : Type 0} (f : X → Y) (xs : List X) → length (map f xs) ≡ length xs
long f [] = refl
long f (x ∷ xs) = ap suc (long f xs)

sorted_mapped : {X Y : Type 0} (f : X → Y) (lt : Y → Y → Bool) (xs : List X) → IsSortedBy (λ a b. lt (f a) (f b)) xs → IsSortedBy lt (map f xs)
sorted_mapped f lt [] s k d low h = absurd (omega arith)
sorted_mapped f lt (x ∷ xs) s k d low h =
    let len = long f (x ∷ xs) in
    (λ i. lt (get_mapped f (x ∷ xs) (k + 1) d x (omega (arith, len, h)) i) (get_mapped f (x ∷ xs) k d x (omega (arith, len, h)) i)) ∙ s k x low (omega (arith, len, h))

module _ {F : Type 0} {call : Mut F (Bor ViewRecord × (Bor ViewRecord × Unit {0})) Ordering} {f : F} (gives : (a : Bor ViewRecord × (Bor ViewRecord × Unit {0})) (r : Ordering) (f' : F) → Called call f a r f' → (r ≡ chain_cmp (spelled a.0.now) (spelled a.1.0.now)) × (f' ≡ f)) where
  before : ViewRecord → ViewRecord → Bool
  before a b = is_lt (chain_cmp (spelled a) (spelled b))

  pub sorted_records : (vs : List ViewRecord) → IsSortedByClosure call f vs → IsSortedBy (λ a b. is_lt (chain_cmp a b)) (map spelled vs)
  unfolding before
  sorted_records vs s =
      let compares : ComparesAs call before f = always_returns_same call _ f (λ a r f' k. let p = gives a r f' k in (ap is_lt p.0, p.1)) in
      sorted_mapped spelled (λ a b. is_lt (chain_cmp a b)) vs (s before (ranks_by chain_total spelled) compares)
