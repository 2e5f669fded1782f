-- Names at or above names: how such steps join, and what the canonical order says of them.
use Rattle.std.proofs.Common.{◌≡◌, ℕ, zero, suc, ◌-◌, ◌≤◌, ◌<◌, true, ◌&&◌, ◌||◌, [], ◌∷◌, length, drop, reverse, refl, sym, ap, ◌∙◌, ◌⊎◌, inl, inr, arith}
use Rattle.std.specs.declared.cmp.Ordering.{Ordering}
use Rattle.std.specs.declared.cmp.Ordering.TheVariants.{Less, Equal, Greater}
use Rattle.std.specs.Ordering.{is_lt, nat_cmp, ordering_reverse}
use Rattle.std.specs.Cmp.Lexicographic.{slice_cmp}
use Rattle.std.proofs.lemmas.Bool.{or_cases, or_left, or_right, false≢true}
use Rattle.definitions.specs.Name.{Name, low, same, labels_eq, name_cmp, at_or_above, strictly_above}
use Rattle.definitions.specs.Covering.{before, covers}
use Rattle.definitions.specs.Zone.{star_under}
use Rattle.definitions.proofs.NameLaws.{Begins, name_cmp_total, labels_decide, equal_is_same, same_is_equal, above_begins, begins_above, apex_first}
use Rattle.definitions.proofs.ZoneNames.{low-low, above_lowered, lowered_above, same-length, above_longer, above_itself}

-- ---- up to case

pub same_names : (a b : Name) → same a b ≡ true → low a ≡ low b
same_names a b h = (labels_decide (low a) (low b)).0 h

pub names_same : (a b : Name) → low a ≡ low b → same a b ≡ true
names_same a b e = (labels_decide (low a) (low b)).1 e

pub same-low : (a b : Name) → same (low a) (low b) ≡ same a b
same-low a b i = labels_eq (low-low a i) (low-low b i)

pub above-low : (a b : Name) → at_or_above (low a) (low b) ≡ at_or_above a b
above-low a b = above_lowered (low a) b ∙ lowered_above a b

pub strictly-low : (a b : Name) → strictly_above (low a) (low b) ≡ strictly_above a b
strictly-low a [] = refl
strictly-low a (l ∷ m) = above-low a m

pub strictly_lowered : (a b : Name) → strictly_above a (low b) ≡ strictly_above a b
strictly_lowered a [] = refl
strictly_lowered a (l ∷ m) = above_lowered a m

name_cmp-low : (a b : Name) → name_cmp (low a) (low b) ≡ name_cmp a b
name_cmp-low a b i = slice_cmp (slice_cmp nat_cmp) (reverse (low-low a i)) (reverse (low-low b i))

pub covers-low : (apex owner next q : Name) → covers (low apex) (low owner) (low next) (low q) ≡ covers apex owner next q
covers-low apex owner next q i = is_lt (name_cmp-low owner q i) && (same-low next apex i || is_lt (name_cmp-low q next i))

-- names that are the same stand at or above the same names
pub above-same : (a b c : Name) → low a ≡ low b → at_or_above a c ≡ at_or_above b c
above-same a b c e = sym (lowered_above a c) ∙ ap (λ n. at_or_above n c) e ∙ lowered_above b c

-- ---- at or above

pub same_above : (a b : Name) → same a b ≡ true → at_or_above a b ≡ true
same_above a [] h = h
same_above a (l ∷ b) h = or_left (same a (l ∷ b)) (at_or_above a b) h

pub strictly_at : (a b : Name) → strictly_above a b ≡ true → at_or_above a b ≡ true
strictly_at a [] h = absurd (false≢true h)
strictly_at a (l ∷ b) h = or_right (same a (l ∷ b)) (at_or_above a b) h

pub strictly_shorter : (a b : Name) → strictly_above a b ≡ true → length a < length b
strictly_shorter a [] h = absurd (false≢true h)
strictly_shorter a (l ∷ b) h = let e : length a ≤ length b = above_longer a b h in omega arith

-- what is at or above a name is it, or strictly above it
pub above_cases : (a b : Name) → at_or_above a b ≡ true → (same a b ≡ true) ⊎ (strictly_above a b ≡ true)
above_cases a [] h = inl h
above_cases a (l ∷ b) h = or_cases (same a (l ∷ b)) (at_or_above a b) h

pub strictly_unlike : (a b : Name) → strictly_above a b ≡ true → same a b ≡ true → ⊥
strictly_unlike a b h s =
    let short : length a < length b = strictly_shorter a b h in
    let long : length a ≡ length b = same-length a b s in
    omega arith

pub strictly_from : (a b : Name) → at_or_above a b ≡ true → (same a b ≡ true → ⊥) → strictly_above a b ≡ true
strictly_from a b h n = elim (above_cases a b h) [ inl s ↦ absurd (n s) | inr s ↦ s ]

drop-nil : (n : ℕ) → drop n [] ≡ (let none : Name = [] in none)
drop-nil zero = refl
drop-nil (suc n) = refl

begins_trans : (p x y : Name) → Begins p x → Begins x y → Begins p y
begins_trans [] x y h k = tt
begins_trans (a ∷ p) [] y h k = absurd h
begins_trans (a ∷ p) (b ∷ x) [] h k = absurd k
begins_trans (a ∷ p) (b ∷ x) (c ∷ y) h k = (h.0 ∙ k.0, begins_trans p x y h.1 k.1)

begins_either : (p q x : Name) → Begins p x → Begins q x → Begins p q ⊎ Begins q p
begins_either [] q x h k = inl tt
begins_either (a ∷ p) [] x h k = inr tt
begins_either (a ∷ p) (b ∷ q) [] h k = absurd h
begins_either (a ∷ p) (b ∷ q) (c ∷ x) h k = elim (begins_either p q x h.1 k.1) [
  | inl r ↦ inl (h.0 ∙ sym k.0, r)
  | inr r ↦ inr (k.0 ∙ sym h.0, r)
]

pub above_trans : (a b c : Name) → at_or_above a b ≡ true → at_or_above b c ≡ true → at_or_above a c ≡ true
above_trans a b c h k = begins_above a c (begins_trans _ _ _ (above_begins a b h) (above_begins b c k))

-- of two names at or above a third, one is at or above the other
pub above_either : (a b c : Name) → at_or_above a c ≡ true → at_or_above b c ≡ true → (at_or_above a b ≡ true) ⊎ (at_or_above b a ≡ true)
above_either a b c h k = elim (begins_either _ _ _ (above_begins a c h) (above_begins b c k)) [
  | inl r ↦ inl (begins_above a b r)
  | inr r ↦ inr (begins_above b a r)
]

-- names at or above each other are the same
pub above_both : (a b : Name) → at_or_above a b ≡ true → at_or_above b a ≡ true → same a b ≡ true
above_both a b h k = elim (above_cases a b h) [
  | inl s ↦ s
  | inr s ↦
      let short : length a < length b = strictly_shorter a b s in
      let long : length b ≤ length a = above_longer b a k in
      absurd (omega arith)
]

pub strictly_above_at : (a b c : Name) → strictly_above a b ≡ true → at_or_above b c ≡ true → strictly_above a c ≡ true
strictly_above_at a b c h k = strictly_from a c (above_trans a b c (strictly_at a b h) k) (λ s.
    let short : length a < length b = strictly_shorter a b h in
    let long : length b ≤ length c = above_longer b c k in
    let even : length a ≡ length c = same-length a c s in
    absurd (omega arith))

pub at_strictly_above : (a b c : Name) → at_or_above a b ≡ true → strictly_above b c ≡ true → strictly_above a c ≡ true
at_strictly_above a b c h k = strictly_from a c (above_trans a b c h (strictly_at b c k)) (λ s.
    let short : length b < length c = strictly_shorter b c k in
    let long : length a ≤ length b = above_longer a b h in
    let even : length a ≡ length c = same-length a c s in
    absurd (omega arith))

-- of two names at or above a third, the shorter is at or above the other
pub shorter_above : (a b c : Name) → at_or_above a c ≡ true → at_or_above b c ≡ true → length a ≤ length b → at_or_above a b ≡ true
shorter_above a b c h k l = elim (above_either a b c h k) [
  | inl r ↦ r
  | inr r ↦ elim (above_cases b a r) [
    | inl s ↦ same_above a b (names_same a b (sym (same_names b a s)))
    | inr s ↦ let short : length b < length a = strictly_shorter b a s in absurd (omega arith)
  ]
]

-- the last labels of a name, as many as a name at or above it has, are that name's
pub above_drop : (a b : Name) → at_or_above a b ≡ true → low a ≡ drop (length b - length a) (low b)
above_drop a [] h = same_names a [] h ∙ sym (drop-nil (0 - length a))
above_drop a (l ∷ b) h = elim (or_cases (same a (l ∷ b)) (at_or_above a b) h) [
  | inl s ↦
      let none : length (l ∷ b) - length a ≡ 0 = (let e : length a ≡ length (l ∷ b) = same-length a (l ∷ b) s in omega arith) in
      same_names a (l ∷ b) s ∙ ap (λ n. drop n (low (l ∷ b))) (sym none)
  | inr r ↦
      let one : length (l ∷ b) - length a ≡ suc (length b - length a) = (let e : length a ≤ length b = above_longer a b r in omega arith) in
      above_drop a b r ∙ ap (λ n. drop n (low (l ∷ b))) (sym one)
]

-- ---- wildcards

pub star_below : (e : Name) → strictly_above e (star_under e) ≡ true
star_below e = above_itself e

-- ---- the order

pub not_after : (a b : Name) → name_cmp a b ≡ Less → name_cmp b a ≡ Greater
not_after a b e = name_cmp_total.antisymm b a ∙ ap ordering_reverse e

pub not_before : (a b : Name) → name_cmp a b ≡ Greater → name_cmp b a ≡ Less
not_before a b e = name_cmp_total.antisymm b a ∙ ap ordering_reverse e

pub less_not_greater : (a b : Name) → name_cmp a b ≡ Less → name_cmp a b ≡ Greater → ⊥
less_not_greater a b e g = let x : Less ≡ Greater = sym e ∙ g in cc

pub before_less : (a b : Name) → before a b ≡ true → name_cmp a b ≡ Less
before_less a b h = go (name_cmp a b) h
  where
    go : (r : Ordering) → is_lt r ≡ true → r ≡ Less
    go Less h = refl
    go Equal h = absurd (false≢true h)
    go Greater h = absurd (false≢true h)

-- what is not behind a name is before it, or the same
up_to : (a b : Name) → (name_cmp a b ≡ Greater → ⊥) → (name_cmp a b ≡ Less) ⊎ (same a b ≡ true)
up_to a b n = go (name_cmp a b) refl
  where
    go : (r : Ordering) → name_cmp a b ≡ r → (name_cmp a b ≡ Less) ⊎ (same a b ≡ true)
    go Less e = inl e
    go Equal e = inr (equal_is_same a b e)
    go Greater e = absurd (n e)

pub before_unlike : (a b : Name) → name_cmp a b ≡ Less → same a b ≡ true → ⊥
before_unlike a b e s = let x : Less ≡ Equal = sym e ∙ same_is_equal a b s in cc

-- a name strictly above another is before it
pub strictly_before : (a b : Name) → strictly_above a b ≡ true → name_cmp a b ≡ Less
strictly_before a b h = elim (up_to a b (apex_first a b (strictly_at a b h))) [
  | inl e ↦ e
  | inr s ↦ absurd (strictly_unlike a b h s)
]

-- of names in order: not behind, then before
pub up_to_before : (a b c : Name) → (name_cmp a b ≡ Greater → ⊥) → name_cmp b c ≡ Less → name_cmp a c ≡ Less
up_to_before a b c n e = elim (up_to a b n) [
  | inl l ↦ name_cmp_total.trans a b c l e
  | inr s ↦ name_cmp_total.congr a b c (same_is_equal a b s) ∙ e
]

pub before_up_to : (a b c : Name) → name_cmp a b ≡ Less → (name_cmp b c ≡ Greater → ⊥) → name_cmp a c ≡ Less
before_up_to a b c e n = elim (up_to b c n) [
  | inl l ↦ name_cmp_total.trans a b c e l
  | inr s ↦
      let back : name_cmp c a ≡ Greater = sym (name_cmp_total.congr b c a (same_is_equal b c s)) ∙ not_after a b e in
      not_before c a back
]
