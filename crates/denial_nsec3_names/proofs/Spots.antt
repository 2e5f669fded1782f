-- The places of a chain's names among owners in order.
use Rattle.std.proofs.Common.{◌≡◌, ℕ, zero, suc, ◌-◌, ◌≤◌, ◌<◌, Bool, true, false, cond, List, [], ◌∷◌, ◌++◌, length, drop, map, refl, sym, ap, subst, ◌∙◌, ◌⊎◌, inl, inr, arith, length-drop}
use Rattle.std.proofs.lemmas.List.{map-append}
use Rattle.std.proofs.lemmas.Cmp.{tied_itself}
use Rattle.std.specs.declared.cmp.Ordering.TheVariants.{Less, Equal, Greater}
use Rattle.definitions.specs.Name.{Name, name_cmp, at_or_above}
use Rattle.definitions.proofs.Members.{append_in, In, in_map, not_less}
use Rattle.definitions.proofs.NameLaws.{name_cmp_total, interval, equal_is_same, apex_first}
use Rattle.definitions.proofs.ZoneNames.{same-length, above_itself}
use Rattle.denial_nsec3_names.specs.Walk.{Spot, spot_name, last_spots, spots_behind, spots_of, fresh_count}
use Rattle.denial_nsec3_names.proofs.WalkNames.{Climbs, IsFresh, fresh_names, fresh_is, names_behind, names_of, less_not_greater, upto_less}

-- names that an owner and what it stands under have, so many
abbrev last_names : ℕ → Name → List Name
last_names zero o = []
last_names (suc n) o = drop n o ∷ last_names n o

last_more : (n : ℕ) (l : List ℕ) (o : Name) → last_names (suc n) (l ∷ o) ≡ last_names n o ++ (l ∷ o) ∷ []
last_more zero l o = refl
last_more (suc n) l o = ap (λ ns. drop n o ∷ ns) (last_more n l o)

fresh_are : (p o : Name) → fresh_names p o ≡ last_names (fresh_count p o) o
fresh_are p [] = refl
fresh_are p (l ∷ o) = go (at_or_above (l ∷ o) p) (fresh_are p o)
  where
    go : (b : Bool) → fresh_names p o ≡ last_names (fresh_count p o) o → cond b [] (fresh_names p o ++ (l ∷ o) ∷ []) ≡ last_names (cond b 0 (suc (fresh_count p o))) (l ∷ o)
    go true e = refl
    go false e = ap (λ ns. ns ++ (l ∷ o) ∷ []) e ∙ sym (last_more (fresh_count p o) l o)

module _ {G : Type 0} (name : G → Name) where
  last_named : (n : ℕ) (g : G) → map (spot_name name) (last_spots n g) ≡ last_names n (name g)
  last_named zero g = refl
  last_named (suc n) g = ap (λ ns. drop n (name g) ∷ ns) (last_named n g)

  behind_named : (p : G) (gs : List G) → map (spot_name name) (spots_behind name p gs) ≡ names_behind (name p) (map name gs)
  behind_named p [] = refl
  behind_named p (g ∷ gs) =
      map-append (spot_name name) (last_spots (fresh_count (name p) (name g)) g) (spots_behind name g gs)
      ∙ (λ i. (last_named (fresh_count (name p) (name g)) g ∙ sym (fresh_are (name p) (name g))) i ++ behind_named g gs i)

  pub spots_named : (gs : List G) → map (spot_name name) (spots_of name gs) ≡ names_of (map name gs)
  spots_named [] = refl
  spots_named (g ∷ gs) = ap (λ ns. name g ∷ ns) (behind_named g gs)

  -- what a name of the chain is: an owner, or a name of none
  pub record IsSpot (gs : List G) (s : Spot G) : Type 0 where
    pub inside : In s.owner gs
    pub is : (s.skipped ≡ 0) ⊎ ((0 < s.skipped) × ((g : G) → In g gs → name g ≡ spot_name name s → ⊥))

  last_owner : (n : ℕ) (g : G) (s : Spot G) → In s (last_spots n g) → (s.owner ≡ g) × (s.skipped < n)
  last_owner zero g s h = absurd h
  last_owner (suc n) g s h = elim h [
    | inl e ↦ (ap (λ t. t.owner) e, (let k : s.skipped ≡ n = ap (λ t. t.skipped) e in omega arith))
    | inr i ↦ let r = last_owner n g s i in (r.0, (let k : s.skipped < n = r.1 in omega arith))
  ]

  count_short : (p o : Name) → fresh_count p o ≤ length o
  count_short p [] = omega arith
  count_short p (l ∷ o) = go (at_or_above (l ∷ o) p) (count_short p o)
    where
      go : (b : Bool) → fresh_count p o ≤ length o → cond b 0 (suc (fresh_count p o)) ≤ length (l ∷ o)
      go true h = omega arith
      go false h = omega arith

  above_less : (x o : Name) → at_or_above x o ≡ true → length x < length o → name_cmp x o ≡ Less
  above_less x o h s = elim (name_cmp x o) as (λ r. name_cmp x o ≡ r → name_cmp x o ≡ Less) [
    | Less ↦ λ e. e
    | Equal ↦ λ e. let n : length x ≡ length o = same-length x o (equal_is_same x o e) in absurd (omega arith)
    | Greater ↦ λ e. absurd (apex_first x o h e)
  ] refl

  not_self : (x : Name) → name_cmp x x ≡ Less → ⊥
  not_self = not_less name_cmp name_cmp_total

  -- not behind the one before, or one of the later ones
  abbrev Upto : List G → G → List G → Type 0
  Upto all p gs = (q : G) → In q all → (name_cmp (name q) (name p) ≡ Greater → ⊥) ⊎ In q gs

  -- a fresh name that isn't the owner's is no owner's: those up to the one before it are lesser, the others greater
  not_owner : (all : List G) (p g : G) (gs : List G) (y : Name) → IsFresh (name p) (name g) y → name_cmp y (name g) ≡ Less → Climbs (map name (p ∷ g ∷ gs)) → Upto all p (g ∷ gs)
      → (q : G) → In q all → name q ≡ y → ⊥
  not_owner all p g gs y f less r u q i e = elim (u q i) [
    | inl before ↦
        let yp : at_or_above y (name p) ≡ true = interval y y (name p) (name g) (above_itself y) f.above
        (λ k. before (ap (λ n. name_cmp n (name p)) e ∙ k))
        (λ k. less_not_greater name_cmp name_cmp_total (name p) (name g) (r.0 (name g) (inl refl)) k) in
        let n : true ≡ false = sym yp ∙ f.new in
        cc
    | inr j ↦ elim j [
      | inl s ↦ not_self (name g) (ap (λ n. name_cmp n (name g)) (sym (ap name s) ∙ e) ∙ less)
      | inr k ↦ not_self y (ap (name_cmp y) (sym e) ∙ name_cmp_total.trans y (name g) (name q) less (r.1.0 (name q) (in_map name gs q k)))
    ]
  ]

  next_upto : (all : List G) (p g : G) (gs : List G) → Climbs (map name (p ∷ g ∷ gs)) → Upto all p (g ∷ gs) → Upto all g gs
  next_upto all p g gs r u q i = elim (u q i) [
    | inl before ↦ inl (λ k. less_not_greater name_cmp name_cmp_total (name q) (name g) (upto_less name_cmp name_cmp_total (name q) (name p) (name g) before (r.0 (name g) (inl refl))) k)
    | inr j ↦ elim j [
      | inl s ↦ inl (λ k. let n : Equal ≡ Greater = sym (tied_itself name_cmp_total (name g)) ∙ ap (λ t. name_cmp t (name g)) (sym (ap name s)) ∙ k in cc)
      | inr k ↦ inr k
    ]
  ]

  at_one : (all : List G) (p g : G) (gs : List G) (s : Spot G) → Climbs (map name (p ∷ g ∷ gs)) → Upto all p (g ∷ gs) → In g all → In s (last_spots (fresh_count (name p) (name g)) g) → IsSpot all s
  at_one all p g gs s r u i h =
      let at = last_owner (fresh_count (name p) (name g)) g s h in
      let inside : In s.owner all = let P : G → Type 0 = λ t. In t all in subst P (sym at.0) i in
      let there : In (spot_name name s) (fresh_names (name p) (name g)) =
      let P : List Name → Type 0 = λ ns. In (spot_name name s) ns in
      subst P (last_named (fresh_count (name p) (name g)) g ∙ sym (fresh_are (name p) (name g))) (in_map (spot_name name) (last_spots (fresh_count (name p) (name g)) g) s h) in
      let fresh : IsFresh (name p) (name g) (spot_name name s) = fresh_is (name p) (name g) (spot_name name s) there in
      record { inside = inside; is = go s.skipped refl fresh at.0 at.1 }
    where
      go : (k : ℕ) → s.skipped ≡ k → IsFresh (name p) (name g) (spot_name name s) → s.owner ≡ g → s.skipped < fresh_count (name p) (name g)
          → (s.skipped ≡ 0) ⊎ ((0 < s.skipped) × ((q : G) → In q all → name q ≡ spot_name name s → ⊥))
      go zero e f o l = inl e
      go (suc k) e f o l =
          let len : length (spot_name name s) ≡ length (name s.owner) - s.skipped = length-drop s.skipped (name s.owner) in
          let full : length (name s.owner) ≡ length (name g) = ap (λ t. length (name t)) o in
          let few : fresh_count (name p) (name g) ≤ length (name g) = count_short (name p) (name g) in
          inr (omega arith, not_owner all p g gs (spot_name name s) f (above_less (spot_name name s) (name g) f.above (omega arith)) r u)

  behind_spots : (all : List G) (p : G) (gs : List G) → Climbs (map name (p ∷ gs)) → Upto all p gs → ((q : G) → In q gs → In q all) → (s : Spot G) → In s (spots_behind name p gs) → IsSpot all s
  behind_spots all p [] r u f s h = absurd h
  behind_spots all p (g ∷ gs) r u f s h = elim (append_in (last_spots (fresh_count (name p) (name g)) g) (spots_behind name g gs) s h) [
    | inl i ↦ at_one all p g gs s r u (f g (inl refl)) i
    | inr i ↦ behind_spots all g gs r.1 (next_upto all p g gs r u) (λ q j. f q (inr j)) s i
  ]

  pub spots_are : (gs : List G) → Climbs (map name gs) → (s : Spot G) → In s (spots_of name gs) → IsSpot gs s
  spots_are [] r s h = absurd h
  spots_are (g ∷ gs) r s h = elim h [
    | inl e ↦ record { inside = inl (ap (λ t. t.owner) e); is = inl (ap (λ t. t.skipped) e) }
    | inr i ↦ behind_spots (g ∷ gs) g gs r
        (λ q j. elim j [
          | inl s ↦ inl (λ k. let n : Equal ≡ Greater = sym (tied_itself name_cmp_total (name g)) ∙ ap (λ t. name_cmp t (name g)) (sym (ap name s)) ∙ k in cc)
          | inr k ↦ inr k
        ])
        (λ q j. inr j) s i
  ]
