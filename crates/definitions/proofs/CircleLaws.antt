-- Exactly one link of an ascending circle speaks for each item.
use Rattle.std.proofs.Common.{◌≡◌, ℕ, Bool, true, false, ◌&&◌, ◌||◌, cond, List, [], ◌∷◌, refl, sym, ap, ◌∙◌, IsTrue}
use Rattle.std.specs.Prelude.{filter, not}
use Rattle.std.specs.Str.{bytes_eq}
use Rattle.std.specs.declared.cmp.Ordering.{Ordering}
use Rattle.std.specs.declared.cmp.Ordering.TheVariants.{Less, Equal, Greater}
use Rattle.std.specs.Ordering.{nat_cmp, is_lt, is_eq, ordering_reverse}
use Rattle.std.specs.Cmp.{IsTotalOrder}
use Rattle.std.specs.Cmp.Lexicographic.{slice_cmp, bytes_decides}
use Rattle.std.specs.FinMap.{nat_cmp-IsAntisymmetric, slice_cmp-IsAntisymmetric}
use Rattle.std.proofs.lemmas.Cmp.{nat_list_cmp_total, tied_itself}
use Rattle.definitions.specs.Covering.{octets_before, hash_covers}
use Rattle.definitions.specs.Signing.{ascending}
use Rattle.definitions.specs.ZoneChain.{links}
use Rattle.definitions.specs.Laws.{hash_link_speaks, OneHashLinkSpeaks}

module _ {A : Type 0} (R : A → A → Ordering) (o : IsTotalOrder R) where
  -- what speaks says once the owner is compared with an item, the item with the next, and the owner with the next
  abbrev said : Ordering → Ordering → Ordering → Bool
  said r s t = is_eq r || ((is_lt r && is_lt s) || (not (is_lt t) && (is_lt r || is_lt s)))

  -- matches, or covers on the circle
  abbrev pub circles : A → A × A → Bool
  circles q l = said (R l.0 q) (R q l.1) (R l.0 l.1)

  -- each item strictly before the next
  abbrev pub Climbs : A → List A → Type 0
  Climbs a [] = Unit {0}
  Climbs a (b ∷ bs) = (R a b ≡ Less) × Climbs b bs

  flipped : (x y : A) (r : Ordering) → R x y ≡ r → R y x ≡ ordering_reverse r
  flipped x y r e = o.antisymm y x ∙ ap ordering_reverse e

  chosen : {B : Type 0} (l : B) (ls : List B) (t : Bool) → t ≡ true → ls ≡ [] → cond t (l ∷ ls) ls ≡ l ∷ []
  chosen l ls t e n = ap (λ t. cond t (l ∷ ls) ls) e ∙ ap (λ ls. l ∷ ls) n

  passed : {B : Type 0} (l : B) (ls ms : List B) (t : Bool) → t ≡ false → ls ≡ ms → cond t (l ∷ ls) ls ≡ ms
  passed l ls ms t e n = ap (λ t. cond t (l ∷ ls) ls) e ∙ n

  not_lt : (r : Ordering) → (r ≡ Less → ⊥) → is_lt r ≡ false
  not_lt Less h = absurd (h refl)
  not_lt Equal h = refl
  not_lt Greater h = refl

  -- a link of two items of which the first is behind what is looked for
  behind_inner : (r s t : Ordering) → r ≡ Greater → t ≡ Less → said r s t ≡ false
  behind_inner r s t e f i = is_eq (e i) || ((is_lt (e i) && is_lt s) || (not (is_lt (f i)) && (is_lt (e i) || is_lt s)))

  not_both : (t : Bool) → (not t && (false || false)) ≡ false
  not_both true = refl
  not_both false = refl

  -- the last link, where what is looked for is before its owner but not before the first
  behind_last : (r s t : Ordering) → r ≡ Greater → (s ≡ Less → ⊥) → said r s t ≡ false
  behind_last r s t e f = (λ i. is_eq (e i) || ((is_lt (e i) && is_lt s) || (not (is_lt t) && (is_lt (e i) || not_lt s f i)))) ∙ not_both (is_lt t)

  -- none speaks for what stands before them and not before the first
  none_before : (first q a : A) (bs : List A) → (R q first ≡ Less → ⊥) → R q a ≡ Less → Climbs a bs → filter (circles q) (links first (a ∷ bs)) ≡ []
  none_before first q a [] late lt h = passed (a, first) [] [] _ (behind_last (R a q) (R q first) (R a first) (flipped q a Less lt) late) refl
  none_before first q a (b ∷ bs) late lt h =
      passed (a, b) _ [] _ (behind_inner (R a q) (R q b) (R a b) (flipped q a Less lt) h.0) (none_before first q b bs late (o.trans q a b lt h.0) h.1)

  later : (first a b : A) → (R a first ≡ Less → ⊥) → R a b ≡ Less → R b first ≡ Less → ⊥
  later first a b h lt e = h (o.trans a b first lt e)

  -- what stands before the first is covered by the last alone
  last_speaks : (first q a : A) (bs : List A) → R q first ≡ Less → R q a ≡ Less → (R a first ≡ Less → ⊥) → Climbs a bs → (l : A × A) × (filter (circles q) (links first (a ∷ bs)) ≡ l ∷ [])
  last_speaks first q a [] early lt wraps h =
      let yes : circles q (a, first) ≡ true = (λ i. said (flipped q a Less lt i) (early i) (R a first)) ∙ (λ i. false || ((false && true) || (not (not_lt (R a first) wraps i) && (false || true)))) in
      ((a, first), chosen (a, first) [] (circles q (a, first)) yes refl)
  last_speaks first q a (b ∷ bs) early lt wraps h =
      let rest : (l : A × A) × (filter (circles q) (links first (b ∷ bs)) ≡ l ∷ []) = last_speaks first q b bs early (o.trans q a b lt h.0) (later first a b wraps h.0) h.1 in
      (rest.0, passed (a, b) _ (rest.0 ∷ []) _ (behind_inner (R a q) (R q b) (R a b) (flipped q a Less lt) h.0) rest.1)

  equal_speaks : (r s t : Ordering) → r ≡ Equal → said r s t ≡ true
  equal_speaks r s t e = ap (λ r. said r s t) e

  inner_speaks : (r s t : Ordering) → r ≡ Less → s ≡ Less → said r s t ≡ true
  inner_speaks r s t e f i = is_eq (e i) || ((is_lt (e i) && is_lt (f i)) || (not (is_lt t) && (is_lt (e i) || is_lt (f i))))

  inner_passes : (r s t : Ordering) → r ≡ Less → (s ≡ Less → ⊥) → t ≡ Less → said r s t ≡ false
  inner_passes r s t e f g i = is_eq (e i) || ((is_lt (e i) && not_lt s f i) || (not (is_lt (g i)) && (is_lt (e i) || not_lt s f i)))

  wrap_speaks : (r s t : Ordering) → r ≡ Less → (s ≡ Less → ⊥) → (t ≡ Less → ⊥) → said r s t ≡ true
  wrap_speaks r s t e f g i = is_eq (e i) || ((is_lt (e i) && not_lt s f i) || (not (not_lt t g i) && (is_lt (e i) || not_lt s f i)))

  -- one speaks for what is not before the first of them
  one_of_rest : (first q a : A) (bs : List A) → (R q first ≡ Less → ⊥) → (R q a ≡ Less → ⊥) → (R a first ≡ Less → ⊥) → Climbs a bs → (l : A × A) × (filter (circles q) (links first (a ∷ bs)) ≡ l ∷ [])
  one_of_rest first q a [] late from wraps h =
      elim (R a q) as (λ r. R a q ≡ r → (l : A × A) × (filter (circles q) ((a, first) ∷ []) ≡ l ∷ [])) [
        | Less ↦ λ e. ((a, first), chosen (a, first) [] _ (wrap_speaks (R a q) (R q first) (R a first) e late wraps) refl)
        | Equal ↦ λ e. ((a, first), chosen (a, first) [] _ (equal_speaks (R a q) (R q first) (R a first) e) refl)
        | Greater ↦ λ e. absurd (from (flipped a q Greater e))
      ] refl
  one_of_rest first q a (b ∷ bs) late from wraps h =
      let on : (R q b ≡ Less → ⊥) → (l : A × A) × (filter (circles q) (links first (b ∷ bs)) ≡ l ∷ []) = λ g. one_of_rest first q b bs late g (later first a b wraps h.0) h.1 in
      elim (R a q) as (λ r. R a q ≡ r → (l : A × A) × (filter (circles q) (links first (a ∷ b ∷ bs)) ≡ l ∷ [])) [
        | Less ↦ λ e. elim (R q b) as (λ s. R q b ≡ s → (l : A × A) × (filter (circles q) (links first (a ∷ b ∷ bs)) ≡ l ∷ [])) [
          | Less ↦ λ f. ((a, b), chosen (a, b) _ _ (inner_speaks (R a q) (R q b) (R a b) e f) (none_before first q b bs late f h.1))
          | Equal ↦ λ f. let g : R q b ≡ Less → ⊥ = λ k. equal_less (sym f ∙ k) in ((on g).0, passed (a, b) _ ((on g).0 ∷ []) _ (inner_passes (R a q) (R q b) (R a b) e g h.0) (on g).1)
          | Greater ↦ λ f. let g : R q b ≡ Less → ⊥ = λ k. greater_less (sym f ∙ k) in ((on g).0, passed (a, b) _ ((on g).0 ∷ []) _ (inner_passes (R a q) (R q b) (R a b) e g h.0) (on g).1)
        ] refl
        | Equal ↦ λ e. ((a, b), chosen (a, b) _ _ (equal_speaks (R a q) (R q b) (R a b) e) (none_before first q b bs late (sym (o.congr a q b e) ∙ h.0) h.1))
        | Greater ↦ λ e. absurd (from (flipped a q Greater e))
      ] refl
    where
      equal_less : Equal ≡ Less → ⊥
      equal_less e = cc

      greater_less : Greater ≡ Less → ⊥
      greater_less e = cc

  not_itself : (x : A) → R x x ≡ Less → ⊥
  not_itself x e = let n : Equal ≡ Less = sym (tied_itself o x) ∙ e in cc

  pub one_circles : (first q : A) (bs : List A) → Climbs first bs → (l : A × A) × (filter (circles q) (links first (first ∷ bs)) ≡ l ∷ [])
  one_circles first q bs h =
      elim (R q first) as (λ r. R q first ≡ r → (l : A × A) × (filter (circles q) (links first (first ∷ bs)) ≡ l ∷ [])) [
        | Less ↦ λ e. last_speaks first q first bs e e (not_itself first) h
        | Equal ↦ λ e. let g : R q first ≡ Less → ⊥ = λ k. unlike_equal (sym e ∙ k) in one_of_rest first q first bs g g (not_itself first) h
        | Greater ↦ λ e. let g : R q first ≡ Less → ⊥ = λ k. unlike_greater (sym e ∙ k) in one_of_rest first q first bs g g (not_itself first) h
      ] refl
    where
      unlike_equal : Equal ≡ Less → ⊥
      unlike_equal e = cc

      unlike_greater : Greater ≡ Less → ⊥
      unlike_greater e = cc

-- ---- hashes

abbrev octets_cmp : List ℕ → List ℕ → Ordering
octets_cmp = slice_cmp nat_cmp

eq_test : (r : Ordering) (b : Bool) → (r ≡ Equal → b ≡ true) → (b ≡ true → r ≡ Equal) → b ≡ is_eq r
eq_test r true f g = sym (ap is_eq (g refl))
eq_test Equal false f g = f refl
eq_test Less false f g = refl
eq_test Greater false f g = refl

bytes_eq-is_eq : (a b : List ℕ) → bytes_eq a b ≡ is_eq (octets_cmp a b)
bytes_eq-is_eq a b =
    eq_test (octets_cmp a b) (bytes_eq a b) (λ e. (bytes_decides a b).1 (slice_cmp-IsAntisymmetric nat_cmp-IsAntisymmetric a b e))
    (λ h. ap (octets_cmp a) (sym ((bytes_decides a b).0 h)) ∙ tied_itself nat_list_cmp_total a)

circles_alike : (h : List ℕ) (l : List ℕ × List ℕ) → hash_link_speaks h l ≡ circles octets_cmp nat_list_cmp_total h l
circles_alike h l i = bytes_eq-is_eq l.0 h i || hash_covers l.0 l.1 h

less : (r : Ordering) → is_lt r ≡ true → r ≡ Less
less Less h = refl
less Equal h = cc
less Greater h = cc

climbs_on : (a : List ℕ) (bs : List (List ℕ)) → IsTrue (ascending (a ∷ bs)) → Climbs octets_cmp nat_list_cmp_total a bs
climbs_on a [] h = tt
climbs_on a (b ∷ bs) h = go (octets_before a b) refl h (λ k. climbs_on b bs k)
  where
    go : (t : Bool) → octets_before a b ≡ t → IsTrue (elim t as (λ _. Bool) [ true ↦ ascending (b ∷ bs) | false ↦ false ]) → (IsTrue (ascending (b ∷ bs)) → Climbs octets_cmp nat_list_cmp_total b bs) → (octets_cmp a b ≡ Less) × Climbs octets_cmp nat_list_cmp_total b bs
    go true e h f = (less (octets_cmp a b) e, f h)
    go false e h f = absurd cc

pub one_hash_link_speaks : OneHashLinkSpeaks
one_hash_link_speaks first hashes h rising =
    let found : (l : List ℕ × List ℕ) × (filter (circles octets_cmp nat_list_cmp_total h) (links first (first ∷ hashes)) ≡ l ∷ []) = one_circles octets_cmp nat_list_cmp_total first h hashes (climbs_on first hashes rising) in
    (found.0, (λ i. filter (λ l. circles_alike h l i) (links first (first ∷ hashes))) ∙ found.1)
