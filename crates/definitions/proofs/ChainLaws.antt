-- Exactly one link of an ascending circle speaks for each item from the first on.
use Rattle.std.proofs.Common.{◌≡◌, Bool, true, false, ◌&&◌, ◌||◌, cond, List, [], ◌∷◌, refl, sym, ap, ◌∙◌}
use Rattle.std.specs.Prelude.{filter}
use Rattle.std.specs.declared.cmp.Ordering.{Ordering}
use Rattle.std.specs.declared.cmp.Ordering.TheVariants.{Less, Equal, Greater}
use Rattle.std.specs.Ordering.{is_lt, is_eq, ordering_reverse}
use Rattle.std.specs.Cmp.{IsTotalOrder}
use Rattle.definitions.specs.ZoneChain.{links}

module _ {A : Type 0} (R : A → A → Ordering) (o : IsTotalOrder R) where
  -- matches, or covers: strictly behind the owner, and the order ends or the next is further on
  abbrev pub speaks : A → A → A × A → Bool
  speaks first q l = is_eq (R l.0 q) || (is_lt (R l.0 q) && (is_eq (R l.1 first) || is_lt (R q l.1)))

  -- each item strictly before the next, and each behind the first one strictly behind it
  abbrev pub Rising : A → List A → Type 0
  Rising first [] = Unit {0}
  Rising first (a ∷ []) = Unit {0}
  Rising first (a ∷ b ∷ bs) = (R a b ≡ Less) × (R first b ≡ Less) × Rising first (b ∷ bs)

  flipped : (x y : A) (r : Ordering) → R x y ≡ r → R y x ≡ ordering_reverse r
  flipped x y r e = o.antisymm y x ∙ ap ordering_reverse e

  -- what speaks says once the two comparisons are known
  abbrev said : Ordering → Ordering → Ordering → Bool
  said r s t = is_eq r || (is_lt r && (is_eq s || is_lt t))

  at_less : (a b q first : A) → R a q ≡ Greater → speaks first q (a, b) ≡ false
  at_less a b q first e = ap (λ r. is_eq r || (is_lt r && (is_eq (R b first) || is_lt (R q b)))) e

  -- none speaks for what stands before them
  none_before : (first q : A) (a : A) (bs : List A) → R q a ≡ Less → Rising first (a ∷ bs) → filter (speaks first q) (links first (a ∷ bs)) ≡ []
  none_before first q a [] lt h = ap (λ t. cond t ((a, first) ∷ []) []) (at_less a first q first (flipped q a Less lt))
  none_before first q a (b ∷ bs) lt h =
      ap (λ t. cond t ((a, b) ∷ filter (speaks first q) (links first (b ∷ bs))) (filter (speaks first q) (links first (b ∷ bs)))) (at_less a b q first (flipped q a Less lt))
      ∙ none_before first q b bs (o.trans q a b lt h.0) h.2

  chosen : {B : Type 0} (l : B) (ls : List B) (t : Bool) → t ≡ true → ls ≡ [] → cond t (l ∷ ls) ls ≡ l ∷ []
  chosen l ls t e n = ap (λ t. cond t (l ∷ ls) ls) e ∙ ap (λ ls. l ∷ ls) n

  passed : {B : Type 0} (l m : B) (ls : List B) (t : Bool) → t ≡ false → ls ≡ m ∷ [] → cond t (l ∷ ls) ls ≡ m ∷ []
  passed l m ls t e n = ap (λ t. cond t (l ∷ ls) ls) e ∙ n

  -- one speaks for what stands at or behind the first of them
  pub one_speaks : (first q : A) (a : A) (bs : List A) → R first first ≡ Equal → (R q a ≡ Less → ⊥) → Rising first (a ∷ bs) → (l : A × A) × (filter (speaks first q) (links first (a ∷ bs)) ≡ l ∷ [])
  one_speaks first q a [] itself h rising =
      elim (R a q) as (λ r. R a q ≡ r → (l : A × A) × (filter (speaks first q) ((a, first) ∷ []) ≡ l ∷ [])) [
        | Less ↦ λ e. ((a, first), chosen (a, first) [] (speaks first q (a, first)) ((λ i. said (e i) (itself i) (R q first))) refl)
        | Equal ↦ λ e. ((a, first), chosen (a, first) [] (speaks first q (a, first)) (ap (λ r. said r (R first first) (R q first)) e) refl)
        | Greater ↦ λ e. absurd (h (flipped a q Greater e))
      ] refl
  one_speaks first q a (b ∷ bs) itself h rising =
      let rest : List (A × A) = filter (speaks first q) (links first (b ∷ bs)) in
      elim (R a q) as (λ r. R a q ≡ r → (l : A × A) × (filter (speaks first q) (links first (a ∷ b ∷ bs)) ≡ l ∷ [])) [
        | Less ↦ λ e. elim (R q b) as (λ s. R q b ≡ s → (l : A × A) × (filter (speaks first q) (links first (a ∷ b ∷ bs)) ≡ l ∷ [])) [
          | Less ↦ λ f. ((a, b), chosen (a, b) _ (speaks first q (a, b)) (λ i. said (e i) (flipped first b Less rising.1 i) (f i)) (none_before first q b bs f rising.2))
          | Equal ↦ λ f. let r = one_speaks first q b bs itself (λ g. not_both (R q b) f g) rising.2 in (r.0, passed (a, b) r.0 _ (speaks first q (a, b)) (λ i. said (e i) (flipped first b Less rising.1 i) (f i)) r.1)
          | Greater ↦ λ f. let r = one_speaks first q b bs itself (λ g. not_greater (R q b) f g) rising.2 in (r.0, passed (a, b) r.0 _ (speaks first q (a, b)) (λ i. said (e i) (flipped first b Less rising.1 i) (f i)) r.1)
        ] refl
        | Equal ↦ λ e. ((a, b), chosen (a, b) _ (speaks first q (a, b)) (ap (λ r. said r (R b first) (R q b)) e) (none_before first q b bs (sym (o.congr a q b e) ∙ rising.0) rising.2))
        | Greater ↦ λ e. absurd (h (flipped a q Greater e))
      ] refl
    where
      not_both : (r : Ordering) → r ≡ Equal → r ≡ Less → ⊥
      not_both r e f = let x : Equal ≡ Less = sym e ∙ f in cc

      not_greater : (r : Ordering) → r ≡ Greater → r ≡ Less → ⊥
      not_greater r e f = let x : Greater ≡ Less = sym e ∙ f in cc
