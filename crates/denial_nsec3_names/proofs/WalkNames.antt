-- The names that kept owners in canonical order give one by one are the names of the chain.
use Rattle.std.proofs.Common.{◌≡◌, ℕ, ◌≤◌, Bool, true, false, ◌||◌, cond, List, [], ◌∷◌, ◌++◌, length, drop, refl, sym, ap, subst, ◌∙◌, ◌⊎◌, inl, inr, arith}
use Rattle.std.specs.Prelude.{filter, if◌then◌else◌}
use Rattle.std.specs.List.{list_any, flat_map, Contains}
use Rattle.std.specs.declared.cmp.Ordering.{Ordering}
use Rattle.std.specs.declared.cmp.Ordering.TheVariants.{Less, Equal, Greater}
use Rattle.std.specs.Ordering.{ordering_reverse}
use Rattle.std.specs.Cmp.{IsTotalOrder}
use Rattle.definitions.specs.Name.{Name, low, same, name_cmp, at_or_above, from_root}
use Rattle.definitions.specs.Zone.{Zone, apex_of, owners, is_live, is_kept, kept_owners, kept}
use Rattle.definitions.specs.ZoneChain.{with_parents, nsec3_names}
use Rattle.definitions.proofs.Members.{either, append_in, In, Within, Rises, in_contained, in_filter, filter_in, in_append_left, in_append_right, any_of, any_in, rising_same, sort_rises}
use Rattle.definitions.proofs.NameLaws.{Begins, name_cmp_total, equal_is_same, above_begins, begins_above, interval, apex_first}
use Rattle.definitions.proofs.ZoneNames.{same-length, above_longer, low-low, apex_kept, above_itself, and_parts, and_from, same_lowered, chain_lowered, chain_kept, kept_in_chain, kept_owner_lowered, apex_in_chain}

-- what an owner adds behind the one before it: itself and what it stands under, the shortest first, but for what the one
-- before it is or stands under too
abbrev pub fresh_names : Name → Name → List Name
fresh_names p [] = []
fresh_names p (l ∷ o) = if at_or_above (l ∷ o) p then [] else fresh_names p o ++ (l ∷ o) ∷ []

abbrev pub names_behind : Name → List Name → List Name
names_behind p [] = []
names_behind p (o ∷ os) = fresh_names p o ++ names_behind o os

-- of owners that begin with the apex
abbrev pub names_of : List Name → List Name
names_of [] = []
names_of (o ∷ os) = o ∷ names_behind o os

-- ---- lists that rise

module _ {A : Type 0} (R : A → A → Ordering) (o : IsTotalOrder R) where
  pub rises_append : (xs ys : List A) → Rises R o xs → Rises R o ys → ((x y : A) → In x xs → In y ys → R x y ≡ Less) → Rises R o (xs ++ ys)
  rises_append [] ys h k f = k
  rises_append (x ∷ xs) ys h k f = (
    (λ y i. elim (append_in xs ys y i) [ inl j ↦ h.0 y j | inr j ↦ f x y (inl refl) j ]),
    rises_append xs ys h.1 k (λ a b i j. f a b (inr i) j),
  )

  pub less_greater : (x y : A) → R x y ≡ Less → R y x ≡ Greater
  less_greater x y e = o.antisymm y x ∙ ap ordering_reverse e

  pub greater_less : (x y : A) → R x y ≡ Greater → R y x ≡ Less
  greater_less x y e = o.antisymm y x ∙ ap ordering_reverse e

  -- not behind what is before
  pub upto_less : (x y z : A) → (R x y ≡ Greater → ⊥) → R y z ≡ Less → R x z ≡ Less
  upto_less x y z f h = elim (R x y) as (λ r. R x y ≡ r → R x z ≡ Less) [
    | Less ↦ λ e. o.trans x y z e h
    | Equal ↦ λ e. o.congr x y z e ∙ h
    | Greater ↦ λ e. absurd (f e)
  ] refl

  pub less_not_greater : (x y : A) → R x y ≡ Less → R x y ≡ Greater → ⊥
  less_not_greater x y e f = let n : Less ≡ Greater = sym e ∙ f in cc

-- ---- names at or above one another

pub right_true : (s t : Bool) → t ≡ true → (s || t) ≡ true
right_true true t h = refl
right_true false t h = h

begins_trans : (xs ys zs : Name) → Begins xs ys → Begins ys zs → Begins xs zs
begins_trans [] ys zs h k = tt
begins_trans (x ∷ xs) [] zs h k = absurd h
begins_trans (x ∷ xs) (y ∷ ys) [] h k = absurd k
begins_trans (x ∷ xs) (y ∷ ys) (z ∷ zs) h k = (h.0 ∙ k.0, begins_trans xs ys zs h.1 k.1)

pub above_trans : (a b c : Name) → at_or_above a b ≡ true → at_or_above b c ≡ true → at_or_above a c ≡ true
above_trans a b c h k = begins_above a c (begins_trans (from_root a) (from_root b) (from_root c) (above_begins a b h) (above_begins b c k))

begins_either : (xs ys zs : Name) → Begins xs zs → Begins ys zs → Begins xs ys ⊎ Begins ys xs
begins_either [] ys zs h k = inl tt
begins_either (x ∷ xs) [] zs h k = inr tt
begins_either (x ∷ xs) (y ∷ ys) [] h k = absurd h
begins_either (x ∷ xs) (y ∷ ys) (z ∷ zs) h k = elim (begins_either xs ys zs h.1 k.1) [
  | inl b ↦ inl (h.0 ∙ sym k.0, b)
  | inr b ↦ inr (k.0 ∙ sym h.0, b)
]

-- of two names that a name stands at or under, one stands at or under the other
above_either : (a b c : Name) → at_or_above a c ≡ true → at_or_above b c ≡ true → (at_or_above a b ≡ true) ⊎ (at_or_above b a ≡ true)
above_either a b c h k = elim (begins_either (from_root a) (from_root b) (from_root c) (above_begins a c h) (above_begins b c k)) [
  | inl x ↦ inl (begins_above a b x)
  | inr x ↦ inr (begins_above b a x)
]

pub root_above : (p : Name) → at_or_above [] p ≡ true
root_above [] = refl
root_above (l ∷ p) = right_true (same [] (l ∷ p)) (at_or_above [] p) (root_above p)

parent_less : (x o : Name) (l : List ℕ) → at_or_above x o ≡ true → name_cmp x (l ∷ o) ≡ Less
parent_less x o l h = elim (name_cmp x (l ∷ o)) as (λ r. name_cmp x (l ∷ o) ≡ r → name_cmp x (l ∷ o) ≡ Less) [
  | Less ↦ λ e. e
  | Equal ↦ λ e.
      let n : length x ≡ length (l ∷ o) = same-length x (l ∷ o) (equal_is_same x (l ∷ o) e) in
      let m : length x ≤ length o = above_longer x o h in
      absurd (omega arith)
  | Greater ↦ λ e. absurd (apex_first x (l ∷ o) (right_true (same x (l ∷ o)) (at_or_above x o) h) e)
] refl

-- names that stand at or under each other are one, in lower case
pub above_both : (a b : Name) → low a ≡ a → low b ≡ b → at_or_above a b ≡ true → at_or_above b a ≡ true → a ≡ b
above_both a b la lb h k = elim (name_cmp a b) as (λ r. name_cmp a b ≡ r → a ≡ b) [
  | Less ↦ λ e. absurd (apex_first b a k (less_greater name_cmp name_cmp_total a b e))
  | Equal ↦ λ e. same_lowered a b la lb (equal_is_same a b e)
  | Greater ↦ λ e. absurd (apex_first a b h e)
] refl

-- ---- what one owner adds

-- stands at or above the owner, and not above the one before it
pub record IsFresh (p o y : Name) : Type 0 where
  pub above : at_or_above y o ≡ true
  pub new : at_or_above y p ≡ false

longer_fresh : (p o y : Name) (l : List ℕ) → IsFresh p o y → IsFresh p (l ∷ o) y
longer_fresh p o y l f = record { above = right_true (same y (l ∷ o)) (at_or_above y o) f.above; new = f.new }

pub fresh_is : (p o y : Name) → In y (fresh_names p o) → IsFresh p o y
fresh_is p [] y h = absurd h
fresh_is p (l ∷ o) y h = go (at_or_above (l ∷ o) p) refl h (λ i. fresh_is p o y i)
  where
    go : (b : Bool) → at_or_above (l ∷ o) p ≡ b → In y (cond b [] (fresh_names p o ++ (l ∷ o) ∷ [])) → (In y (fresh_names p o) → IsFresh p o y) → IsFresh p (l ∷ o) y
    go true e i f = absurd i
    go false e i f = elim (append_in (fresh_names p o) ((l ∷ o) ∷ []) y i) [
      | inl j ↦ longer_fresh p o y l (f j)
      | inr j ↦ elim j [
        | inl s ↦ record { above = ap (λ n. at_or_above n (l ∷ o)) s ∙ above_itself (l ∷ o); new = ap (λ n. at_or_above n p) s ∙ e }
        | inr k ↦ absurd k
      ]
    ]

tail_lowered : (l : List ℕ) (o : Name) → low (l ∷ o) ≡ l ∷ o → low o ≡ o
tail_lowered l o e = ap (drop 1) e

fresh_lowered : (p o y : Name) → low o ≡ o → In y (fresh_names p o) → low y ≡ y
fresh_lowered p [] y lo h = absurd h
fresh_lowered p (l ∷ o) y lo h = go (at_or_above (l ∷ o) p) h (λ i. fresh_lowered p o y (tail_lowered l o lo) i)
  where
    go : (b : Bool) → In y (cond b [] (fresh_names p o ++ (l ∷ o) ∷ [])) → (In y (fresh_names p o) → low y ≡ y) → low y ≡ y
    go true i f = absurd i
    go false i f = elim (append_in (fresh_names p o) ((l ∷ o) ∷ []) y i) [
      | inl j ↦ f j
      | inr j ↦ elim j [ inl s ↦ ap low s ∙ lo ∙ sym s | inr k ↦ absurd k ]
    ]

is_fresh : (p o y : Name) → low y ≡ y → low o ≡ o → IsFresh p o y → In y (fresh_names p o)
is_fresh p [] y ly lo f =
    let e : y ≡ [] = same_lowered y [] ly refl f.above in
    let n : true ≡ false = sym (root_above p) ∙ ap (λ n. at_or_above n p) (sym e) ∙ f.new in
    absurd cc
is_fresh p (l ∷ o) y ly lo f = go (at_or_above (l ∷ o) p) refl (λ a. is_fresh p o y ly (tail_lowered l o lo) (record { above = a; new = f.new }))
  where
    go : (b : Bool) → at_or_above (l ∷ o) p ≡ b → (at_or_above y o ≡ true → In y (fresh_names p o)) → In y (cond b [] (fresh_names p o ++ (l ∷ o) ∷ []))
    go true e g = let n : true ≡ false = sym (above_trans y (l ∷ o) p f.above e) ∙ f.new in absurd cc
    go false e g = elim (either (same y (l ∷ o)) (at_or_above y o) f.above) [
      | inl s ↦ in_append_right (fresh_names p o) ((l ∷ o) ∷ []) y (inl (same_lowered y (l ∷ o) ly lo s))
      | inr a ↦ in_append_left (fresh_names p o) ((l ∷ o) ∷ []) y (g a)
    ]

fresh_rises : (p o : Name) → Rises name_cmp name_cmp_total (fresh_names p o)
fresh_rises p [] = tt
fresh_rises p (l ∷ o) = go (at_or_above (l ∷ o) p) (fresh_rises p o)
  where
    go : (b : Bool) → Rises name_cmp name_cmp_total (fresh_names p o) → Rises name_cmp name_cmp_total (cond b [] (fresh_names p o ++ (l ∷ o) ∷ []))
    go true h = tt
    go false h = rises_append name_cmp name_cmp_total (fresh_names p o) ((l ∷ o) ∷ []) h ((λ x i. absurd i), tt)
        (λ x y i j. elim j [
          | inl e ↦ ap (name_cmp x) e ∙ parent_less x o l (fresh_is p o x i).above
          | inr k ↦ absurd k
        ])

-- ---- what owners in order add

abbrev pub Climbs : List Name → Type 0
Climbs = Rises name_cmp name_cmp_total

-- a name that is fresh behind a lesser one stands behind that
fresh_behind : (p o y : Name) → name_cmp p o ≡ Less → IsFresh p o y → name_cmp p y ≡ Less
fresh_behind p o y h f = elim (name_cmp y p) as (λ r. name_cmp y p ≡ r → name_cmp p y ≡ Less) [
  | Less ↦ λ e. absurd (there (λ g. less_not_greater name_cmp name_cmp_total y p e g))
  | Equal ↦ λ e. absurd (there (λ g. let n : Equal ≡ Greater = sym e ∙ g in cc))
  | Greater ↦ λ e. greater_less name_cmp name_cmp_total y p e
] refl
  where
    there : (name_cmp y p ≡ Greater → ⊥) → ⊥
    there g =
        let a : at_or_above y p ≡ true = interval y y p o (above_itself y) f.above g (λ k. less_not_greater name_cmp name_cmp_total p o h k) in
        let n : true ≡ false = sym a ∙ f.new in
        cc

pub later_behind : (p : Name) (os : List Name) (y : Name) → Climbs (p ∷ os) → In y (names_behind p os) → name_cmp p y ≡ Less
later_behind p [] y r h = absurd h
later_behind p (o ∷ os) y r h = elim (append_in (fresh_names p o) (names_behind o os) y h) [
  | inl i ↦ fresh_behind p o y (r.0 o (inl refl)) (fresh_is p o y i)
  | inr i ↦ name_cmp_total.trans p o y (r.0 o (inl refl)) (later_behind o os y r.1 i)
]

behind_climb : (p : Name) (os : List Name) → Climbs (p ∷ os) → Climbs (names_behind p os)
behind_climb p [] r = tt
behind_climb p (o ∷ os) r = rises_append name_cmp name_cmp_total (fresh_names p o) (names_behind o os) (fresh_rises p o) (behind_climb o os r.1)
    (λ x y i j. upto_less name_cmp name_cmp_total x o y (λ g. apex_first x o (fresh_is p o x i).above g) (later_behind o os y r.1 j))

pub names_climb : (os : List Name) → Climbs os → Climbs (names_of os)
names_climb [] r = tt
names_climb (o ∷ os) r = ((λ y i. later_behind o os y r i), behind_climb o os r)

-- at or below the apex, at or above an owner, and in lower case
pub record IsParent (apex : Name) (os : List Name) (y : Name) : Type 0 where
  pub inside : at_or_above apex y ≡ true
  pub owner : Name
  pub listed : In owner os
  pub above : at_or_above y owner ≡ true
  pub lowered : low y ≡ y

later_parent : (apex o : Name) (os : List Name) (y : Name) → IsParent apex os y → IsParent apex (o ∷ os) y
later_parent apex o os y p = record { inside = p.inside; owner = p.owner; listed = inr p.listed; above = p.above; lowered = p.lowered }

behind_parents : (apex p : Name) (os : List Name) (y : Name) → at_or_above apex p ≡ true → ((o : Name) → In o os → at_or_above apex o ≡ true) → ((o : Name) → In o os → low o ≡ o) → In y (names_behind p os) → IsParent apex os y
behind_parents apex p [] y a f g h = absurd h
behind_parents apex p (o ∷ os) y a f g h = elim (append_in (fresh_names p o) (names_behind o os) y h) [
  | inl i ↦
      let fresh = fresh_is p o y i in
      let inside : at_or_above apex y ≡ true = elim (above_either apex y o (f o (inl refl)) fresh.above) [
        | inl k ↦ k
        | inr k ↦ let n : true ≡ false = sym (above_trans y apex p k a) ∙ fresh.new in absurd cc
      ] in
      record { inside = inside; owner = o; listed = inl refl; above = fresh.above; lowered = fresh_lowered p o y (g o (inl refl)) i }
  | inr i ↦ later_parent apex o os y (behind_parents apex o os y (f o (inl refl)) (λ q j. f q (inr j)) (λ q j. g q (inr j)) i)
]

parents_behind : (p : Name) (os : List Name) (y o : Name) → low y ≡ y → ((o : Name) → In o os → low o ≡ o) → In o os → at_or_above y o ≡ true → (at_or_above y p ≡ true) ⊎ In y (names_behind p os)
parents_behind p [] y o ly g i h = absurd i
parents_behind p (q ∷ os) y o ly g i h = elim i [
  | inl e ↦ here (ap (at_or_above y) (sym e) ∙ h)
  | inr j ↦ elim (parents_behind q os y o ly (λ n k. g n (inr k)) j h) [
    | inl a ↦ here a
    | inr k ↦ inr (in_append_right (fresh_names p q) (names_behind q os) y k)
  ]
]
  where
    here : at_or_above y q ≡ true → (at_or_above y p ≡ true) ⊎ In y (fresh_names p q ++ names_behind q os)
    here a = elim (at_or_above y p) as (λ b. at_or_above y p ≡ b → (at_or_above y p ≡ true) ⊎ In y (fresh_names p q ++ names_behind q os)) [
      | true ↦ λ e. inl e
      | false ↦ λ e. inr (in_append_left (fresh_names p q) (names_behind q os) y (is_fresh p q y ly (g q (inl refl)) (record { above = a; new = e })))
    ] refl

-- ---- the chain of a zone

module _ (z : Zone) (excluding : Bool) where
  -- kept owners, each once and in canonical order
  pub record AreKeptOwners (os : List Name) : Type 0 where
    pub climb : Climbs os
    pub are : Within os (kept_owners z excluding)
    pub all : Within (kept_owners z excluding) os

  owner_inside : (o : Name) → In o (kept_owners z excluding) → at_or_above (apex_of z) o ≡ true
  owner_inside o h = (and_parts (at_or_above (apex_of z) o) _ (and_parts (is_live z o) _ (filter_in (is_kept z excluding) (owners z) o h).1).0).0

  -- the apex is the first
  pub apex_leads : (os : List Name) → Contains (owners z) (apex_of z) → AreKeptOwners os → (rest : List Name) × (os ≡ apex_of z ∷ rest)
  apex_leads [] c k =
      absurd (k.all (apex_of z) (in_filter (is_kept z excluding) (owners z) (apex_of z) (in_contained (owners z) (apex_of z) c.0 c.1 c.2) (apex_kept z excluding)))
  apex_leads (o ∷ os) c k =
      elim (k.all (apex_of z) (in_filter (is_kept z excluding) (owners z) (apex_of z) (in_contained (owners z) (apex_of z) c.0 c.1 c.2) (apex_kept z excluding))) [
        | inl e ↦ (os, ap (λ n. n ∷ os) (sym e))
        | inr i ↦ absurd (apex_first (apex_of z) o (owner_inside o (k.are o (inl refl))) (less_greater name_cmp name_cmp_total o (apex_of z) (k.climb.0 (apex_of z) i)))
      ]

  owner_lowered_in : (os : List Name) → AreKeptOwners os → (o : Name) → In o os → low o ≡ o
  owner_lowered_in os k o i = kept_owner_lowered z excluding o (k.are o i)

  to_chain : (rest : List Name) → Contains (owners z) (apex_of z) → AreKeptOwners (apex_of z ∷ rest) → Within (names_of (apex_of z ∷ rest)) (nsec3_names z excluding)
  to_chain rest c k y h = elim h [
    | inl e ↦ put (apex_of z) y e (low-low z.name) (kept_in_chain z excluding (apex_of z) (apex_in_chain z excluding c))
    | inr i ↦
        let p = behind_parents (apex_of z) (apex_of z) rest y (above_itself (apex_of z)) (λ o j. owner_inside o (k.are o (inr j))) (λ o j. owner_lowered_in (apex_of z ∷ rest) k o (inr j)) i in
        let is : kept z excluding y ≡ true = and_from (at_or_above (apex_of z) y) (list_any (at_or_above y) (kept_owners z excluding)) p.inside (any_in (at_or_above y) (kept_owners z excluding) p.owner (k.are p.owner (inr p.listed)) p.above) in
        put y y refl p.lowered (kept_in_chain z excluding y is)
  ]
    where
      put : (a b : Name) → b ≡ a → low a ≡ a → In (low a) (nsec3_names z excluding) → In b (nsec3_names z excluding)
      put a b e l i = let P : Name → Type 0 = λ n. In n (nsec3_names z excluding) in subst P (l ∙ sym e) i

  from_chain : (rest : List Name) → AreKeptOwners (apex_of z ∷ rest) → Within (nsec3_names z excluding) (names_of (apex_of z ∷ rest))
  from_chain rest k y h =
      let ly : low y ≡ y = chain_lowered z excluding y h in
      let P : Name → Type 0 = λ n. In n (nsec3_names z excluding) in
      let is : kept z excluding y ≡ true = chain_kept z excluding y (subst P (sym ly) h) in
      let parts = and_parts (at_or_above (apex_of z) y) (list_any (at_or_above y) (kept_owners z excluding)) is in
      let o = any_of (at_or_above y) (kept_owners z excluding) parts.1 in
      elim (k.all o.0 o.1.0) [
        | inl e ↦ inl (above_both y (apex_of z) ly (low-low z.name) (ap (at_or_above y) (sym e) ∙ o.1.1) parts.0)
        | inr i ↦ elim (parents_behind (apex_of z) rest y o.0 ly (λ q j. owner_lowered_in (apex_of z ∷ rest) k q (inr j)) i o.1.1) [
          | inl a ↦ inl (above_both y (apex_of z) ly (low-low z.name) a parts.0)
          | inr j ↦ inr j
        ]
      ]

  -- what kept owners give is the chain
  pub names_are_chain : (os : List Name) → Contains (owners z) (apex_of z) → AreKeptOwners os → names_of os ≡ nsec3_names z excluding
  names_are_chain os c k =
      let first = apex_leads os c k in
      let P : List Name → Type 0 = AreKeptOwners in
      let kept_now : AreKeptOwners (apex_of z ∷ first.0) = subst P first.1 k in
      ap names_of first.1
      ∙ rising_same name_cmp name_cmp_total (names_of (apex_of z ∷ first.0)) (nsec3_names z excluding) (names_climb (apex_of z ∷ first.0) kept_now.climb)
      (sort_rises name_cmp name_cmp_total (filter (kept z excluding) (flat_map with_parents (kept_owners z excluding)))) (to_chain first.0 c kept_now) (from_chain first.0 kept_now)
