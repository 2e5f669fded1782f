-- A link that covers a name: each live owner stands up to the link's owner, or from its next name on. No live owner lies between
-- one of the chain and the next.
use Rattle.std.proofs.Common.{◌≡◌, Bool, true, false, ◌||◌, List, [], ◌∷◌, refl, sym, ap, subst, ◌∙◌, ◌⊎◌, inl, inr}
use Rattle.std.specs.Prelude.{if◌then◌else◌}
use Rattle.std.specs.declared.cmp.Ordering.{Ordering}
use Rattle.std.specs.declared.cmp.Ordering.TheVariants.{Less, Equal, Greater}
use Rattle.std.specs.Ordering.{is_lt}
use Rattle.std.specs.Cmp.{IsTotalOrder}
use Rattle.std.proofs.lemmas.Bool.{and_parts, and_cases, or_cases, or_parts, false≢true, false_from_ne_true}
use Rattle.std.proofs.lemmas.Cmp.{tied_itself}
use Rattle.definitions.specs.Name.{Name, low, same, labels_eq, name_cmp, at_or_above, strictly_above}
use Rattle.definitions.specs.Covering.{before, covers}
use Rattle.definitions.specs.Zone.{Zone, apex_of, owners, is_live, kept_owners}
use Rattle.definitions.specs.ZoneChain.{links, behind, nsec_names, nsec_next}
use Rattle.definitions.proofs.Members.{In, contained, in_contained, Rises, not_less, sort_rises}
use Rattle.definitions.proofs.NameLaws.{name_cmp_total, labels_decide, same_is_equal, interval, apex_first}
use Rattle.definitions.proofs.ZoneNames.{above_itself, kept-live, apex_kept, live_owner, owner_lowered, owner_in_chain}
use Rattle.denial_laws.specs.Facts.{Link}
use Rattle.denial_laws.specs.Truth.{IsServable, SaysTruly}
use Rattle.denial_laws.proofs.NameFacts.{same_names, names_same, covers-low, strictly_from, strictly_at, not_after, not_before, less_not_greater, before_less, before_unlike, strictly_before, up_to_before, before_up_to}

-- ---- what stands behind an item of items that rise

module _ {A : Type 0} (R : A → A → Ordering) (o : IsTotalOrder R) (eq : A → A → Bool) (exact : (a b : A) → eq a b ≡ true → a ≡ b) (itself : (a : A) → eq a a ≡ true) where
  -- a later item, and the items behind a first one are it or behind it
  abbrev Later : List A → A → A → Type 0
  Later xs a next = In next xs × (R a next ≡ Less) × ((w : A) → In w xs → R a w ≡ Less → (w ≡ next) ⊎ (R next w ≡ Less))

  -- the first item, and none is behind a last one
  abbrev Ends : A → List A → A → A → Type 0
  Ends first xs a next = (next ≡ first) × ((w : A) → In w xs → R a w ≡ Less → ⊥)

  abbrev Follows : A → List A → A → A → Type 0
  Follows first xs a next = Later xs a next ⊎ Ends first xs a next

  more : (first x : A) (xs : List A) (a next : A) → R x a ≡ Less → Follows first xs a next → Follows first (x ∷ xs) a next
  more first x xs a next l f =
      let back : R a x ≡ Less → ⊥ = λ b. not_less R o x (o.trans x a x l b) in
      elim f [
        | inl k ↦ inl (
          inr k.0,
          k.1,
          λ w i b. elim i [
            | inl e ↦ absurd (back (ap (R a) (sym e) ∙ b))
            | inr j ↦ k.2 w j b
          ],
        )
        | inr k ↦ inr (
          k.0,
          λ w i b. elim i [
            | inl e ↦ absurd (back (ap (R a) (sym e) ∙ b))
            | inr j ↦ k.1 w j b
          ],
        )
      ]

  follows : (first d : A) (xs : List A) → Rises R o xs → (a : A) → In a xs → Follows first xs a (behind eq d a (links first xs))
  follows first d [] r a i = absurd i
  follows first d (x ∷ []) r a i = elim i [
    | inl e ↦ inr (
      ap (λ b. if b then first else d) (ap (eq a) (sym e) ∙ itself a),
      λ w j l. elim j [ inl f ↦ not_less R o a (ap (R a) (e ∙ sym f) ∙ l) | inr n ↦ absurd n ],
    )
    | inr n ↦ absurd n
  ]
  follows first d (x ∷ y ∷ ys) r a i =
      let later : A = behind eq d a (links first (y ∷ ys)) in
      elim i [
        | inl e ↦
            let here : (if eq a x then y else later) ≡ y = ap (λ b. if b then y else later) (ap (eq a) (sym e) ∙ itself a) in
            subst (Follows first (x ∷ y ∷ ys) a) (sym here) (inl (
              inr (inl refl),
              ap (λ b. R b y) e ∙ r.0 y (inl refl),
              λ w j l. elim j [
                | inl f ↦ absurd (not_less R o a (ap (R a) (e ∙ sym f) ∙ l))
                | inr k ↦ elim k [ inl f ↦ inl f | inr m ↦ inr (r.1.0 w m) ]
              ],
            ))
        | inr j ↦
            let l : R x a ≡ Less = r.0 a j in
            let unlike : eq a x ≡ false = false_from_ne_true (eq a x) (λ e. not_less R o x (ap (R x) (sym (exact a x e)) ∙ l)) in
            let there : (if eq a x then y else later) ≡ later = ap (λ b. if b then y else later) unlike in
            subst (Follows first (x ∷ y ∷ ys) a) (sym there) (more first x (y ∷ ys) a later l (follows first d (y ∷ ys) r.1 a j))
      ]

-- ---- a name that is covered

-- The owner lies in the zone below no delegation, and before the name, and each live owner is up to it, or the name is before the next name and this is not
-- behind the live owner.
pub record Covered (z : Zone) (o n q : Name) : Type 0 where
  pub inside : is_live z o ≡ true
  pub before : name_cmp o q ≡ Less
  pub apart : (w : Name) → In w (nsec_names z) → (name_cmp w o ≡ Greater → ⊥) ⊎ ((name_cmp q n ≡ Less) × (name_cmp n w ≡ Greater → ⊥))

module _ (z : Zone) (s : IsServable z) where
  pub apex_in : In (apex_of z) (nsec_names z)
  apex_in = owner_in_chain z (apex_of z) (in_contained (owners z) (apex_of z) s.apex.0 s.apex.1 s.apex.2) (sym (kept-live z (apex_of z)) ∙ apex_kept z false)

  pub chain_inside : (o : Name) → In o (nsec_names z) → at_or_above (apex_of z) o ≡ true
  chain_inside o i = (and_parts (at_or_above (apex_of z) o) _ (live_owner z o i).1).0

  -- ---- the chain

  next_follows : (o : Name) → In o (nsec_names z) → Follows name_cmp name_cmp_total labels_eq (λ a b. (labels_decide a b).0) (λ a. (labels_decide a a).1 refl) (apex_of z) (nsec_names z) o (nsec_next z o)
  next_follows o i = follows name_cmp name_cmp_total labels_eq (λ a b. (labels_decide a b).0) (λ a. (labels_decide a a).1 refl) (apex_of z) (apex_of z) (nsec_names z) (sort_rises name_cmp name_cmp_total (kept_owners z false)) o i

  pub next_in : (o : Name) → In o (nsec_names z) → In (nsec_next z o) (nsec_names z)
  next_in o i = elim (next_follows o i) [
    | inl k ↦ k.0
    | inr k ↦ subst (λ n. In n (nsec_names z)) (sym k.0) apex_in
  ]

  from_next : (n w : Name) → (w ≡ n) ⊎ (name_cmp n w ≡ Less) → name_cmp n w ≡ Greater → ⊥
  from_next n w h g = elim h [
    | inl e ↦ let x : Equal ≡ Greater = sym (tied_itself name_cmp_total n) ∙ ap (name_cmp n) (sym e) ∙ g in cc
    | inr l ↦ less_not_greater n w l g
  ]

  -- no live owner lies between a live owner and the next
  pub chain_gap : (o w : Name) → In o (nsec_names z) → In w (nsec_names z) → covers (apex_of z) o (nsec_next z o) w ≡ false
  chain_gap o w i j = false_from_ne_true (covers (apex_of z) o (nsec_next z o) w) (λ h.
      let n : Name = nsec_next z o in
      let parts = and_parts (before o w) _ h in
      let l : name_cmp o w ≡ Less = before_less o w parts.0 in
      elim (next_follows o i) [
        | inl k ↦ elim (or_cases (same n (apex_of z)) (before w n) parts.1) [
          | inl e ↦
              let first : name_cmp (apex_of z) n ≡ Less = up_to_before (apex_of z) o n (apex_first (apex_of z) o (chain_inside o i)) k.1 in
              let x : Equal ≡ Greater = sym (same_is_equal n (apex_of z) e) ∙ not_after (apex_of z) n first in
              cc
          | inr b ↦ from_next n w (k.2 w j l) (not_after w n (before_less w n b))
        ]
        | inr k ↦ k.1 w j l
      ])

  -- ---- a record that says truly

  -- an owner is up to another one, or behind it
  sides : (w o : Name) → (name_cmp w o ≡ Greater → ⊥) ⊎ (name_cmp o w ≡ Less)
  sides w o = go (name_cmp w o) refl
    where
      go : (r : Ordering) → name_cmp w o ≡ r → (name_cmp w o ≡ Greater → ⊥) ⊎ (name_cmp o w ≡ Less)
      go Less e = inl (less_not_greater w o e)
      go Equal e = inl (λ g. let x : Equal ≡ Greater = sym e ∙ g in cc)
      go Greater e = inr (not_before w o e)

  pub link_covered : {Q : Name} (f : Link) → SaysTruly z Q f → (q : Name) → covers z.name f.owner f.next q ≡ true → Covered z (low f.owner) (low f.next) (low q)
  link_covered f g q h =
      let o : Name = low f.owner in
      let n : Name = low f.next in
      let lq : Name = low q in
      let parts = and_parts (before o lq) _ (covers-low z.name f.owner f.next q ∙ h) in
      record {
        inside = g.inside;
        before = before_less o lq parts.0;
        apart = λ w i. elim (sides w o) [
          | inl up ↦ inl up
          | inr l ↦
              let lw : low w ≡ w = owner_lowered z w (live_owner z w i).0 in
              let free : covers (apex_of z) o n w ≡ false = ap (covers (apex_of z) o n) (sym lw) ∙ covers-low z.name f.owner f.next w ∙ g.gap w (contained (nsec_names z) w i) in
              let beyond = elim (and_cases (before o w) (same n (apex_of z) || before w n) free) as (λ _. (same n (apex_of z) || before w n) ≡ false) [
                | inl e ↦ absurd (false≢true (sym e ∙ ap is_lt l))
                | inr e ↦ e
              ] in
              let last = or_parts (same n (apex_of z)) (before w n) beyond in
              inr (
                elim (or_cases (same n (apex_of z)) (before lq n) parts.1) [
                  | inl e ↦ absurd (false≢true (sym last.0 ∙ e))
                  | inr b ↦ before_less lq n b
                ],
                λ g. false≢true (sym last.1 ∙ ap is_lt (not_before n w g)),
              )
        ];
      }

  module _ (o n q : Name) (k : Covered z o n q) where
    -- no live owner is the name
    pub no_owner : (w : Name) → In w (nsec_names z) → same w q ≡ true → ⊥
    no_owner w i e = elim (k.apart w i) [
      | inl up ↦ before_unlike w q (up_to_before w o q up k.before) e
      | inr r ↦ before_unlike q w (before_up_to q n w r.0 r.1) (names_same q w (sym (same_names w q e)))
    ]

    -- a live owner at or below the name has the next one below the name
    pub below_next : (w : Name) → In w (nsec_names z) → at_or_above q w ≡ true → strictly_above q n ≡ true
    below_next w i h =
        let behind : name_cmp o w ≡ Less = before_up_to o q w k.before (apex_first q w h) in
        elim (k.apart w i) [
          | inl up ↦ absurd (up (not_after o w behind))
          | inr r ↦ strictly_from q n (interval q q n w (above_itself q) h (less_not_greater q n r.0) r.1) (before_unlike q n r.0)
        ]

    -- what stands at or above the name and a live owner stands at or above the link's owner or next name
    pub beside : (p w : Name) → at_or_above p q ≡ true → In w (nsec_names z) → at_or_above p w ≡ true → (at_or_above p o ≡ true) ⊎ (at_or_above p n ≡ true)
    beside p w h i e = elim (k.apart w i) [
      | inl up ↦ inl (interval p w o q e h up (less_not_greater o q k.before))
      | inr r ↦ inr (interval p q n w h e (less_not_greater q n r.0) r.1)
    ]

    -- a live owner strictly above the name is at or above the link's owner
    pub above_owner : (c : Name) → In c (nsec_names z) → strictly_above c q ≡ true → at_or_above c o ≡ true
    above_owner c i h =
        let ahead : name_cmp c q ≡ Less = strictly_before c q h in
        elim (k.apart c i) [
          | inl up ↦ interval c c o q (above_itself c) (strictly_at c q h) up (less_not_greater o q k.before)
          | inr r ↦ absurd (less_not_greater c q ahead (not_after q c (before_up_to q n c r.0 r.1)))
        ]
