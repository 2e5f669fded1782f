-- The closest encloser of a name, by how many labels it has.
use Rattle.std.proofs.Common.{◌≡◌, ℕ, zero, suc, ◌-◌, ◌<◌, ◌≤◌, max, Bool, true, false, ◌||◌, [], ◌∷◌, length, drop, refl, sym, ap, ◌∙◌, subst, arith}
use Rattle.std.specs.Prelude.{◌↔◌, if◌then◌else◌, Option, Some, None, IsNone, Result, Ok, Err, IfOk, IfSome, slice_get}
use Rattle.std.specs.Option.{option_map}
use Rattle.definitions.specs.Name.{Name, Label, IsName, wire_len, at_or_above}
use Rattle.names_labels.specs.Suffixes.{suffixes}
use Rattle.definitions.specs.Zone.{star_under}
use Rattle.denial_laws.specs.Facts.{Link}
use Rattle.denial_laws.specs.NsecRules.{closest, has_more, shown_owner}
use Rattle.denial_laws.specs.Nsec3Rules.{last_labels}
use Rattle.messages.proofs.NameLaws.{IsName-drop, star_room}
use Rattle.answer_judge_rules.specs.Enclosers.{shared}
use Rattle.answer_judge_rules.proofs.SharedLabels.{root_above, shared-le}

-- ---- an owner that has no labels shows none

none_shared : (n : Name) → 0 ≡ shared n []
none_shared [] = refl
none_shared (l ∷ n) = none_shared n

pub none_shown : (f : Link) (n : Name) → f.owner ≡ [] → 0 ≡ shared n (shown_owner f)
none_shown f n e = none_shared n ∙ ap (shared n) (sym (go (has_more f.bits)))
  where
    go : (b : Bool) → (if b then f.owner else drop 1 f.owner) ≡ (let none : Name = [] in none)
    go true = e
    go false = ap (drop 1) e

-- ---- it has as many labels as the parent shares with what the owner shows, or with the next name

pub closest_labels : (f : Link) (l : Label) (q : Name) → option_map length (closest f (l ∷ q)) ≡ Some (max (shared q (shown_owner f)) (shared q f.next))
closest_labels f l [] = ap (λ (b : Bool). option_map length (elim (b || at_or_above [] f.next) as (λ _. Option Name) [ true ↦ Some [] | false ↦ None ])) (root_above (shown_owner f))
closest_labels f l (k ∷ r) = step (at_or_above (k ∷ r) (shown_owner f)) (at_or_above (k ∷ r) f.next) (closest_labels f k r)
  where
    step : (x y : Bool) → option_map length (closest f (k ∷ r)) ≡ Some (max (shared r (shown_owner f)) (shared r f.next))
        → option_map length (elim (x || y) as (λ _. Option Name) [ true ↦ Some (k ∷ r) | false ↦ closest f (k ∷ r) ])
        ≡ Some (max (elim x as (λ _. ℕ) [ true ↦ length (k ∷ r) | false ↦ shared r (shown_owner f) ]) (elim y as (λ _. ℕ) [ true ↦ length (k ∷ r) | false ↦ shared r f.next ]))
    step true true h = let e : length (k ∷ r) ≡ max (length (k ∷ r)) (length (k ∷ r)) = omega arith in ap (λ (n : ℕ). Some n) e
    step true false h = let e : length (k ∷ r) ≡ max (length (k ∷ r)) (shared r f.next) = omega (arith, shared-le r f.next) in ap (λ (n : ℕ). Some n) e
    step false true h = let e : length (k ∷ r) ≡ max (shared r (shown_owner f)) (length (k ∷ r)) = omega (arith, shared-le r (shown_owner f)) in ap (λ (n : ℕ). Some n) e
    step false false h = h

pub parent_labels : (f : Link) (n p : Name) (a b m : ℕ) → IsNone (Some p) ↔ (n ≡ []) → p ≡ drop 1 n → a ≡ shared p (shown_owner f) → b ≡ shared p f.next → m ≡ max a b → Some m ≡ option_map length (closest f n)
parent_labels f [] p a b m h e x y z = let none : IsNone (Some p) = h.1 refl in absurd cc
parent_labels f (l ∷ q) p a b m h e x y z =
    let is : m ≡ max (shared q (shown_owner f)) (shared q f.next) = z ∙ (λ i. max (x i) (y i)) ∙ ap (λ k. max (shared k (shown_owner f)) (shared k f.next)) e in
    ap (λ k. Some k) is ∙ sym (closest_labels f l q)

-- it is what the name ends with, and shorter than the name
pub closest_end : (f : Link) (n e : Name) → closest f n ≡ Some e → (e ≡ last_labels (length e) n) × (length e < length n)
closest_end f [] e c = absurd cc
closest_end f (l ∷ q) e c = go (at_or_above q (shown_owner f) || at_or_above q f.next) (closest_end f q e) c
  where
    go : (b : Bool) → (closest f q ≡ Some e → (e ≡ last_labels (length e) q) × (length e < length q)) → (elim b as (λ _. Option Name) [ true ↦ Some q | false ↦ closest f q ]) ≡ Some e → (e ≡ last_labels (length e) (l ∷ q)) × (length e < length (l ∷ q))
    go true k d =
        let is : q ≡ e = cc in
        let one : 1 ≡ length (l ∷ q) - length q = omega arith in
        (subst (λ m. m ≡ last_labels (length m) (l ∷ q)) is (ap (λ k. drop k (l ∷ q)) one), omega (arith, ap length is))
    go false k d =
        let h = k d in
        let more : suc (length q - length e) ≡ length (l ∷ q) - length e = omega (arith, h.1) in
        (h.0 ∙ ap (λ k. drop k (l ∷ q)) more, omega (arith, h.1))

suffix_at : (n : Name) (k : ℕ) → k ≤ length n → slice_get (suffixes n) k ≡ Some (drop k n)
suffix_at [] zero h = refl
suffix_at [] (suc k) h = absurd (omega arith)
suffix_at (l ∷ n) zero h = refl
suffix_at (l ∷ n) (suc k) h = suffix_at n k (omega arith)

module _ (f : Link) (n : Name) (labels : ℕ) where
  found : (o : Option Name) → closest f n ≡ o → option_map length o ≡ Some labels → slice_get (suffixes n) (length n - labels) ≡ o
  found None c h = absurd cc
  found (Some e) c h =
      let is : length e ≡ labels = cc in
      let end = closest_end f n e c in
      suffix_at n (length n - labels) (omega arith) ∙ ap (λ m. Some m) (ap (λ k. last_labels k n) (sym is) ∙ sym end.0)

  -- the name that ends with so many labels is the closest encloser
  pub closest_at : Some labels ≡ option_map length (closest f n) → slice_get (suffixes n) (length n - labels) ≡ closest f n
  closest_at h = found (closest f n) refl (sym h)

  fewer : (o : Option Name) → closest f n ≡ o → option_map length o ≡ Some labels → labels < length n
  fewer None c h = absurd cc
  fewer (Some e) c h = let is : length e ≡ labels = cc in let end = closest_end f n e c in omega (arith, end.1)

  pub closest_fewer : Some labels ≡ option_map length (closest f n) → labels < length n
  closest_fewer h = fewer (closest f n) refl (sym h)

-- ---- the wildcard under the closest encloser

shorter : (f : Link) (l : Label) (q e : Name) → IsName (l ∷ q) → ((b : Bool) → (at_or_above q (shown_owner f) || at_or_above q f.next) ≡ b → (elim b [ true ↦ Some q | false ↦ closest f q ]) ≡ Some e → wire_len (star_under e) ≤ 255) → closest f (l ∷ q) ≡ Some e → wire_len (star_under e) ≤ 255
shorter f l q e h k c = k (at_or_above q (shown_owner f) || at_or_above q f.next) refl c

-- it is at least a label shorter than the name, so there is room for a star
pub closest_room : (f : Link) (q e : Name) → IsName q → closest f q ≡ Some e → wire_len (star_under e) ≤ 255
closest_room f [] e h c = absurd cc
closest_room f (l ∷ q) e h c = shorter f l q e h (λ b s. elim b as (λ (x : Bool). (elim x [ true ↦ Some q | false ↦ closest f q ]) ≡ Some e → wire_len (star_under e) ≤ 255) [
  | true ↦ λ d. let same : q ≡ e = cc in subst (λ n. wire_len (star_under n) ≤ 255) same (star_room 1 (l ∷ q) h (omega arith) (omega arith))
  | false ↦ λ d. closest_room f q e (IsName-drop 1 (l ∷ q) h) d
]) c

-- a wildcard with room is given
given : (o : Option Name) (star : Name) → IfSome o (λ n. n ≡ star) → (o ≡ None) ↔ (255 < wire_len star) → wire_len star ≤ 255 → o ≡ Some star
given None star s n room = let long : 255 < wire_len star = n.0 refl in absurd (omega arith)
given (Some m) star s n room = ap (λ x. Some x) s

pub wildcard_given : {E : Type 0} (f : Link) (q e : Name) (r : Result (Option Name) E) → IsName q → Some e ≡ closest f q → IfOk r (λ o. IfSome o (λ n. n ≡ star_under e)) → IfOk r (λ o. (o ≡ None) ↔ (255 < wire_len (star_under e))) → IfOk r (λ o. o ≡ option_map star_under (closest f q))
wildcard_given f q e (Ok o) h c s n = given o (star_under e) s n (closest_room f q e h (sym c)) ∙ ap (option_map star_under) c
wildcard_given f q e (Err x) h c s n = tt
