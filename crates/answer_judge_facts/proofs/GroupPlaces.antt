-- Groups in order: the one of an owner and a type is found by a search.
use Rattle.std.proofs.Common.{◌≡◌, ℕ, zero, suc, ◌<◌, ◌+◌, Bool, true, false, not, ◌&&◌, ◌||◌, ◌==◌, cond, List, [], ◌∷◌, ◌++◌, map, length, get_or, refl, sym, ap, subst, ◌∙◌, arith, ⊎_elim, Ordering}
use Rattle.std.specs.Fn.{Called, ComputesKey}
use Rattle.std.specs.List.Sorted.{IsBinarySearchResult, IsSearchInRange}
use Rattle.std.specs.Prelude.{Err, IfSome, MatchOption, Ok, Option, Result, is_some, option_to_list}
use Rattle.std.specs.Result.{result_ok}
use Rattle.std.proofs.lemmas.Fn.{always_returns_same}
use denote.Param.Members.{Mut}
use denote.Ref.{Bor}
use Rattle.std.specs.declared.cmp.Ordering.TheVariants.{Less, Equal}
use Rattle.std.specs.Cmp.{nat_cmp_total, tied_itself}
use Rattle.std.specs.FinMap.{nat_cmp-IsAntisymmetric}
use Rattle.std.specs.List.{AllByRecursion, list_any}
use Rattle.std.specs.List.Sorted.{IsStrictlySortedBy}
use Rattle.std.specs.Ordering.{nat_cmp, ordering_then}
use Rattle.std.proofs.lemmas.Bool.{and_from, and_parts, eq-eqb, eqb-true, false_from_ne_true, false≢true, not-true, or_cases}
use Rattle.definitions.proofs.NameLaws.{equal_is_same, same_is_equal}
use Rattle.definitions.specs.Name.{Name, name_cmp, same}
use Rattle.messages.specs.Message.{Spelled}
use Rattle.answer_judge_facts.specs.Marked.{IsAlone, is_chain_type, is_of, is_proved, marked, marked_if}
use Rattle.answer_judge_facts.specs.Ranked.{AreRanked, place_of, sought_cmp, type_rank}
use Rattle.answer_judge_facts.specs.Verified.{Trusting}
use Rattle.answer_judge_facts.specs.declared.groups.SignedRrset.{SignedRrset}
use Rattle.answer_judge_facts.specs.declared.groups.Signed.{Signed}
use Rattle.answer_judge_facts.proofs.ChainRuns.{both_equal, sought_total}
use Rattle.answer_judge_facts.proofs.JudgeFacts.{chain_type}
use Rattle.answer_judge_facts.proofs.Places.{none_found, none_ranked, ranked_front, ranked_push}
use Rattle.answer_judge_facts.proofs.JudgeGathered.{same_swap}
use Rattle.answer_judge_facts.proofs.JudgeMarks.{any_at, are_apart, is_like, none_like, or_no}
use Rattle.answer_judge_facts.proofs.JudgeTried.{both_of}

places_kept : (b : SignedRrset → Option Signed) (gs : List SignedRrset) → map place_of (map (λ g. marked_if (b g) g) gs) ≡ map place_of gs
places_kept b [] = refl
places_kept b (g ∷ gs) = ap (λ ps. place_of g ∷ ps) (places_kept b gs)

-- what is marked stays in order
pub ranked_next : (w : Trusting) (m : List ℕ) (rs : List Spelled) (now new : List SignedRrset) → new ≡ map (marked w m rs) now → AreRanked now → AreRanked new
ranked_next w m rs now new n s =
    let kept : map place_of now ≡ map place_of new = sym (ap (map place_of) n ∙ places_kept _ now) in
    subst (λ ps. IsStrictlySortedBy sought_cmp ps) kept s

-- ---- types by rank

chain_small : (t : ℕ) → is_chain_type t ≡ true → t < 65536
chain_small t h = ⊎_elim (λ (a : (t == 47) ≡ true). let e = eqb-true t 47 a in omega (arith, e)) (λ (b : (t == 50) ≡ true). let e = eqb-true t 50 b in omega (arith, e)) (or_cases (t == 47) (t == 50) h)

rank_exact : (a b : ℕ) → type_rank a ≡ type_rank b → a ≡ b
rank_exact a b e = go (is_chain_type a) refl (is_chain_type b) refl e
  where
    go : (x : Bool) → is_chain_type a ≡ x → (y : Bool) → is_chain_type b ≡ y → cond x a (a + 65536) ≡ cond y b (b + 65536) → a ≡ b
    go true p true q k = k
    go true p false q k = let s = chain_small a p in absurd (omega (arith, s, k))
    go false p true q k = let s = chain_small b q in absurd (omega (arith, s, k))
    go false p false q k = omega (arith, k)

-- ---- a group of an owner and a type

pub of_place : (o : Name) (t : ℕ) (g : SignedRrset) → sought_cmp (place_of g) (t, o) ≡ Equal → is_of o t g ≡ true
of_place o t g e =
    let p = both_equal (nat_cmp (type_rank g.rtype) (type_rank t)) (name_cmp g.owner o) e in
    let types : g.rtype ≡ t = rank_exact g.rtype t (nat_cmp-IsAntisymmetric (type_rank g.rtype) (type_rank t) p.0) in
    and_from _ _ (eq-eqb g.rtype t types) (same_swap g.owner o (equal_is_same g.owner o p.1))

pub place_of_own : (o : Name) (t : ℕ) (g : SignedRrset) → is_of o t g ≡ true → sought_cmp (place_of g) (t, o) ≡ Equal
place_of_own o t g h =
    let p = and_parts (g.rtype == t) (same o g.owner) h in
    let types : nat_cmp (type_rank g.rtype) (type_rank t) ≡ Equal = ap (λ n. nat_cmp (type_rank g.rtype) (type_rank n)) (sym (eqb-true g.rtype t p.0)) ∙ tied_itself nat_cmp_total (type_rank g.rtype) in
    (λ i. ordering_then (types i) (same_is_equal g.owner o (same_swap o g.owner p.1) i))

-- ---- whether one is verified

pub none_proved : (o : Name) (t : ℕ) (gs : List SignedRrset) → list_any (is_of o t) gs ≡ false → list_any (is_proved o t) gs ≡ false
none_proved o t gs h = none_like (is_proved o t) (is_of o t) (λ g k. (and_parts (is_some g.verified) (is_of o t g) k).1) gs h

and_true : (b : Bool) → (b && true) ≡ b
and_true true = refl
and_true false = refl

pub proved_at : (o : Name) (t : ℕ) (gs : List SignedRrset) (i : ℕ) (g : SignedRrset) → are_apart gs ≡ true → i < length gs → g ≡ get_or gs i g → is_of o t g ≡ true → list_any (is_proved o t) gs ≡ is_some g.verified
proved_at o t [] i g a h e own = absurd (omega arith)
proved_at o t (x ∷ gs) zero g a h e own =
    let p = and_parts (not (list_any (is_like x) gs)) (are_apart gs) a in
    let is : is_of o t x ≡ true = ap (is_of o t) (sym e) ∙ own in
    let rest = none_like (is_proved o t) (is_like x) (λ y k. both_of o t x y is (and_parts (is_some y.verified) (is_of o t y) k).1) gs (not-true _ p.0) in
    (λ i. (is_some x.verified && is i) || rest i) ∙ or_no (is_some x.verified && true) ∙ and_true (is_some x.verified) ∙ ap (λ (y : SignedRrset). is_some y.verified) (sym e)
proved_at o t (x ∷ gs) (suc i) g a h e own =
    let p = and_parts (not (list_any (is_like x) gs)) (are_apart gs) a in
    let first : is_proved o t x ≡ false = false_from_ne_true (is_proved o t x) (λ k.
    false≢true (sym (not-true _ p.0) ∙ any_at (is_like x) gs i g (omega arith) e (both_of o t x g (and_parts (is_some x.verified) (is_of o t x) k).1 own))) in
    ap (λ b. b || list_any (is_proved o t) gs) first ∙ proved_at o t gs i g p.1 (omega arith) e own

-- ---- the group that was asked for stands last

nat_less : (m n : ℕ) → m < n → nat_cmp m n ≡ Less
nat_less m n h = grind arith

other_rank : (t u : ℕ) → is_chain_type t ≡ true → is_chain_type u ≡ false → nat_cmp (type_rank t) (type_rank u) ≡ Less
other_rank t u c d =
    let small = chain_small t c in
    let first : type_rank t ≡ t = ap (λ (b : Bool). cond b t (t + 65536)) c in
    let second : type_rank u ≡ u + 65536 = ap (λ (b : Bool). cond b u (u + 65536)) d in
    nat_less (type_rank t) (type_rank u) (omega (arith, small, first, second))

below_asked : (m : List ℕ) (apex : Name) (rs : List Spelled) (gs : List SignedRrset) (x : SignedRrset) → AllByRecursion (IsAlone m apex rs) gs → is_chain_type x.rtype ≡ false → AllByRecursion (λ (g : SignedRrset). sought_cmp (place_of g) (place_of x) ≡ Less) gs
below_asked m apex rs [] x each d = tt
below_asked m apex rs (g ∷ gs) x each d = (
  ap (λ o. ordering_then o (name_cmp g.owner x.owner)) (other_rank g.rtype x.rtype (chain_type m apex rs g.rtype g.owner (each.0).alone) d),
  below_asked m apex rs gs x each.1 d,
)

pub asked_ranked : (m : List ℕ) (apex : Name) (rs : List Spelled) (gs : List SignedRrset) (x : SignedRrset) (new : List SignedRrset) → AllByRecursion (IsAlone m apex rs) gs → AreRanked gs → is_chain_type x.rtype ≡ false → new ≡ gs ++ x ∷ [] → AreRanked new
asked_ranked m apex rs gs x new each s d n = subst AreRanked (sym n) (ranked_push place_of sought_cmp sought_total gs x s (below_asked m apex rs gs x each d))

-- without the last
pub front_ranked : (gs : List SignedRrset) (last : Option SignedRrset) → AreRanked (gs ++ option_to_list last) → AreRanked gs
front_ranked gs last s = ranked_front place_of sought_cmp sought_total gs (option_to_list last) s

-- one group is in order
pub one_ranked : (x : SignedRrset) → AreRanked (x ∷ [])
one_ranked x = ranked_push place_of sought_cmp sought_total [] x (none_ranked place_of sought_cmp sought_total) tt

-- ---- a search by a closure

module _ (o : Name) (t : ℕ) (gs : List SignedRrset) (ranked : AreRanked gs) where
  found_or_none : (r : Result ℕ ℕ) → IsBinarySearchResult (λ g. sought_cmp (place_of g) (t, o)) gs r → MatchOption (result_ok r) (list_any (is_of o t) gs ≡ false) (λ i. (g : SignedRrset) → g ≡ get_or gs i g → is_of o t g ≡ true)
  found_or_none (Ok i) h = λ g e. of_place o t g (subst (λ (x : SignedRrset). sought_cmp (place_of x) (t, o) ≡ Equal) (sym e) (h g))
  found_or_none (Err i) h = none_found place_of sought_cmp sought_total (is_of o t) gs (t, o) i ranked (place_of_own o t) h

  pub within : (r : Result ℕ ℕ) → IsSearchInRange r (length gs) → IfSome (result_ok r) (λ i. i < length gs)
  within (Ok i) h = h
  within (Err i) h = tt

  pub found_by_closure : {F : Type 0} {call : Mut F (Bor SignedRrset × Unit {0}) Ordering} {f : F} → ((a : Bor SignedRrset × Unit {0}) (r : Ordering) (f' : F) → Called call f a r f' → (r ≡ sought_cmp (place_of a.0.now) (t, o)) × (f' ≡ f)) → (r : Result ℕ ℕ) → ((ord : SignedRrset → Ordering) → ComputesKey call ord f → IsBinarySearchResult ord gs r)
      → MatchOption (result_ok r) (list_any (is_of o t) gs ≡ false) (λ i. (g : SignedRrset) → g ≡ get_or gs i g → is_of o t g ≡ true)
  found_by_closure {F} {call} {f} gives r h = found_or_none r (h (λ g. sought_cmp (place_of g) (t, o)) (always_returns_same call _ f gives))
