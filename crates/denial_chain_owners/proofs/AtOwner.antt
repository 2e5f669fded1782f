-- What the zone of records by owner says at the owner of a group.
use Rattle.std.proofs.Common.{◌≡◌, ℕ, Bool, true, false, ◌&&◌, ◌||◌, cond, List, [], ◌∷◌, ◌++◌, map, refl, sym, ap, subst, ◌∙◌, inl, inr}
use Rattle.std.specs.Prelude.{filter, not, ◌==◌}
use Rattle.std.specs.List.{list_any, flat_map}
use Rattle.std.specs.declared.cmp.Ordering.TheVariants.{Less, Equal}
use Rattle.std.proofs.lemmas.Cmp.{tied_itself}
use Rattle.definitions.specs.Name.{Name, low, same, labels_eq, name_cmp, at_or_above}
use Rattle.definitions.specs.Zone.{Rr, Zone, owner_of, owners, has, is_delegation}
use Rattle.definitions.specs.ZoneChain.{types_at}
use Rattle.definitions.proofs.Members.{In, in_map, map_in, flat_in, in_flat, any_of, any_in, Rises}
use Rattle.definitions.proofs.NameLaws.{name_cmp_total, labels_decide}
use Rattle.definitions.proofs.ChainSpeaks.{filter_map}
use Rattle.definitions.proofs.ZoneNames.{low-low, above_lowered, lowered_above}
use Rattle.plain.specs.declared.record.Record.{Record}
use Rattle.denial_rrsets.specs.Groups.{in_zone, zone_cut, group_owner}
use Rattle.denial_chain_owners.specs.Zones.{rr_of, zone_of}
use Rattle.denial_chain_owners.specs.Types.{has_type}
use Rattle.denial_chain_owners.proofs.ByOwner.{ByOwner}
use Rattle.denial_chain_owners.proofs.Cuts.{not_true, strictly}

-- ---- lists

pub any_append : {A : Type 0} (p : A → Bool) (xs ys : List A) → list_any p (xs ++ ys) ≡ (list_any p xs || list_any p ys)
any_append p [] ys = refl
any_append p (x ∷ xs) ys = go (p x) (any_append p xs ys)
  where
    go : (b : Bool) → list_any p (xs ++ ys) ≡ (list_any p xs || list_any p ys) → (b || list_any p (xs ++ ys)) ≡ ((b || list_any p xs) || list_any p ys)
    go true e = refl
    go false e = e

pub any_flat : {A : Type 0} (p : A → Bool) (gs : List (List A)) → list_any p (flat_map (λ g. g) gs) ≡ list_any (list_any p) gs
any_flat p [] = refl
any_flat p (g ∷ gs) = any_append p g (flat_map (λ g. g) gs) ∙ ap (λ b. list_any p g || b) (any_flat p gs)

pub filter_append : {A : Type 0} (p : A → Bool) (xs ys : List A) → filter p (xs ++ ys) ≡ filter p xs ++ filter p ys
filter_append p [] ys = refl
filter_append {A} p (x ∷ xs) ys = go (p x) (filter_append p xs ys)
  where
    go : (b : Bool) → filter p (xs ++ ys) ≡ filter p xs ++ filter p ys → cond b (x ∷ filter p (xs ++ ys)) (filter p (xs ++ ys)) ≡ cond b (x ∷ filter p xs) (filter p xs) ++ filter p ys
    go true e = ap (λ zs. x ∷ zs) e
    go false e = e

pub filter_all : {A : Type 0} (p : A → Bool) (xs : List A) → ((x : A) → In x xs → p x ≡ true) → filter p xs ≡ xs
filter_all p [] f = refl
filter_all p (x ∷ xs) f = ap (λ b. cond b (x ∷ filter p xs) (filter p xs)) (f x (inl refl)) ∙ ap (λ zs. x ∷ zs) (filter_all p xs (λ y i. f y (inr i)))

pub filter_none : {A : Type 0} (p : A → Bool) (xs : List A) → ((x : A) → In x xs → p x ≡ false) → filter p xs ≡ []
filter_none p [] f = refl
filter_none p (x ∷ xs) f = ap (λ b. cond b (x ∷ filter p xs) (filter p xs)) (f x (inl refl)) ∙ filter_none p xs (λ y i. f y (inr i))

-- a test of what passes another one
pub any_filter : {A : Type 0} (p q : A → Bool) (xs : List A) → list_any q (filter p xs) ≡ list_any (λ x. p x && q x) xs
any_filter p q [] = refl
any_filter p q (x ∷ xs) = go (p x) (any_filter p q xs)
  where
    go : (b : Bool) → list_any q (filter p xs) ≡ list_any (λ x. p x && q x) xs → list_any q (cond b (x ∷ filter p xs) (filter p xs)) ≡ ((b && q x) || list_any (λ x. p x && q x) xs)
    go true e = ap (λ b. q x || b) e
    go false e = e

pub any_agree : {A : Type 0} (p q : A → Bool) (xs : List A) → ((x : A) → In x xs → p x ≡ q x) → list_any p xs ≡ list_any q xs
any_agree p q [] f = refl
any_agree p q (x ∷ xs) f = λ i. f x (inl refl) i || any_agree p q xs (λ y j. f y (inr j)) i

pub any_map : {A B : Type 0} (p : B → Bool) (f : A → B) (xs : List A) → list_any p (map f xs) ≡ list_any (λ x. p (f x)) xs
any_map p f [] = refl
any_map p f (x ∷ xs) = ap (λ b. p (f x) || b) (any_map p f xs)

pub map_map : {A B C : Type 0} (f : A → B) (g : B → C) (xs : List A) → map g (map f xs) ≡ map (λ x. g (f x)) xs
map_map f g [] = refl
map_map f g (x ∷ xs) = ap (λ ys. g (f x) ∷ ys) (map_map f g xs)

unlike_later : (a b : Name) → name_cmp a b ≡ Less → labels_eq a b ≡ false
unlike_later a b l = not_true (labels_eq a b) (λ e.
    let x : Equal ≡ Less = sym (tied_itself name_cmp_total a) ∙ ap (name_cmp a) ((labels_decide a b).0 e) ∙ l in cc)

labels_turned : (a b : Name) → labels_eq a b ≡ false → labels_eq b a ≡ false
labels_turned a b n = not_true (labels_eq b a) (λ e.
    let x : true ≡ false = sym ((labels_decide a b).1 (sym ((labels_decide b a).0 e))) ∙ n in cc)

pub itself : (a : Name) → labels_eq a a ≡ true
itself a = (labels_decide a a).1 refl

module _ {N D : Type 0} (name : N → Name) where
  abbrev pub key : Record N D → Name
  key r = low (name r.owner)

  pub later_groups : (g : List (Record N D)) (gs : List (List (Record N D))) → ByOwner name (g ∷ gs) → ByOwner name gs
  later_groups g gs o = record { owned = λ h i. o.owned h (inr i); some = λ h i. o.some h (inr i); rises = o.rises.1 }

  -- the records of a group's owner are the group
  pub group_is_filter : (gs : List (List (Record N D))) → ByOwner name gs → (g : List (Record N D)) → In g gs
      → filter (λ r. labels_eq (key r) (group_owner name g)) (flat_map (λ g. g) gs) ≡ g
  group_is_filter [] o g i = absurd i
  group_is_filter (h ∷ gs) o g i =
      let p : Record N D → Bool = λ r. labels_eq (key r) (group_owner name g) in
      filter_append p h (flat_map (λ g. g) gs) ∙ elim i [
        | inl e ↦
            let here : filter p h ≡ h = filter_all p h (λ r j. ap (λ k. labels_eq k (group_owner name g)) (o.owned h (inl refl) r j ∙ ap (group_owner name) (sym e)) ∙ itself (group_owner name g)) in
            let there : filter p (flat_map (λ g. g) gs) ≡ [] = filter_none p (flat_map (λ g. g) gs) (λ r j.
            let f = flat_in (λ g. g) gs r j in
            let l : name_cmp (group_owner name h) (group_owner name f.item) ≡ Less = o.rises.0 (group_owner name f.item) (in_map (group_owner name) gs f.item f.inside) in
            let u = labels_turned (group_owner name h) (group_owner name f.item) (unlike_later (group_owner name h) (group_owner name f.item) l) in
            (λ k. labels_eq (o.owned f.item (inr f.inside) r f.makes k) (group_owner name (e k))) ∙ u) in
            (λ k. here k ++ there k) ∙ Rattle.std.proofs.lemmas.List.append-nil h ∙ sym e
        | inr j ↦
            let l : name_cmp (group_owner name h) (group_owner name g) ≡ Less = o.rises.0 (group_owner name g) (in_map (group_owner name) gs g j) in
            let none : filter p h ≡ [] = filter_none p h (λ r k. ap (λ n. labels_eq n (group_owner name g)) (o.owned h (inl refl) r k) ∙ unlike_later (group_owner name h) (group_owner name g) l) in
            ap (λ xs. xs ++ filter p (flat_map (λ g. g) gs)) none ∙ group_is_filter gs (later_groups h gs o) g j
      ]

  module _ (rtype : D → ℕ) (canonical : D → List ℕ) (apex : Name) (gs : List (List (Record N D))) (o : ByOwner name gs) (rs : List (Record N D)) (w : flat_map (λ g. g) gs ≡ rs) where
    abbrev z : Zone
    z = zone_of name rtype canonical apex rs

    abbrev rr : Record N D → Rr
    rr = rr_of name rtype canonical

    -- records at a group's owner are those of the group
    pub at_group : (g : List (Record N D)) → In g gs → filter (λ r. labels_eq (owner_of r) (group_owner name g)) z.records ≡ map rr g
    at_group g i =
        filter_map (λ r. labels_eq (owner_of r) (group_owner name g)) rr rs
        ∙ ap (λ xs. map rr (filter (λ r. labels_eq (key r) (group_owner name g)) xs)) (sym w)
        ∙ ap (map rr) (group_is_filter gs o g i)

    pub has_at : (t : ℕ) (g : List (Record N D)) → In g gs → has z (group_owner name g) t ≡ has_type rtype t g
    has_at t g i =
        sym (any_filter (λ r. labels_eq (owner_of r) (group_owner name g)) (λ r. r.rtype == t) z.records)
        ∙ ap (list_any (λ r. r.rtype == t)) (at_group g i)
        ∙ any_map (λ r. r.rtype == t) rr g

    pub types_of_group : (g : List (Record N D)) → In g gs → types_at z (group_owner name g) ≡ map (λ r. rtype r.content) g
    types_of_group g i = ap (map (λ r. r.rtype)) (at_group g i) ∙ map_map rr (λ r. r.rtype) g

    first_owner : (g : List (Record N D)) → In g gs → (r : Record N D) × (rest : List (Record N D)) × (g ≡ r ∷ rest)
    first_owner g i = o.some g i

    pub in_zone_at : (g : List (Record N D)) → In g gs → in_zone name apex g ≡ at_or_above (low apex) (group_owner name g)
    in_zone_at g i =
        let f = o.some g i in
        ap (in_zone name apex) f.2 ∙ sym (above_lowered apex (name f.0.owner)) ∙ sym (lowered_above apex (low (name f.0.owner)))
        ∙ ap (λ h. at_or_above (low apex) (group_owner name h)) (sym f.2)

    same_turned : (a b : Name) → same a b ≡ same b a
    same_turned a b = Rattle.definitions.proofs.Members.both_ways (same a b) (same b a)
        (λ e. (labels_decide (low b) (low a)).1 (sym ((labels_decide (low a) (low b)).0 e)))
        (λ e. (labels_decide (low a) (low b)).1 (sym ((labels_decide (low b) (low a)).0 e)))

    same_lows : (a b : Name) → same (low a) (low b) ≡ same a b
    same_lows a b = λ i. labels_eq (low-low a i) (low-low b i)

    and_turned : (s t : Bool) → (s && t) ≡ (t && s)
    and_turned true true = refl
    and_turned true false = refl
    and_turned false true = refl
    and_turned false false = refl

    cut_at_first : (r : Record N D) (rest : List (Record N D)) → zone_cut name rtype apex (r ∷ rest) ≡ (not (same (low apex) (key r)) && has_type rtype 2 (r ∷ rest))
    cut_at_first r rest = ap (λ b. not b && has_type rtype 2 (r ∷ rest)) (same_turned (name r.owner) apex ∙ sym (same_lows apex (name r.owner)))

    pub delegates_at : (g : List (Record N D)) → In g gs → at_or_above (low apex) (group_owner name g) ≡ true → is_delegation z (group_owner name g) ≡ zone_cut name rtype apex g
    delegates_at g i h =
        let f = o.some g i in
        (λ k. has_at 2 g i k && strictly (low apex) (group_owner name g) h k)
        ∙ and_turned (has_type rtype 2 g) (not (same (low apex) (group_owner name g)))
        ∙ ap (λ x. not (same (low apex) (group_owner name x)) && has_type rtype 2 x) f.2
        ∙ sym (cut_at_first f.0 f.1)
        ∙ ap (zone_cut name rtype apex) (sym f.2)

    -- owners of the zone are owners of groups
    pub owner_of_group : (n : Name) → In n (owners z) → (g : List (Record N D)) × (In g gs × (n ≡ group_owner name g))
    owner_of_group n i =
        let a = map_in owner_of z.records n i in
        let b = map_in rr rs a.item a.inside in
        let c = flat_in (λ g. g) gs b.item (subst (In b.item) (sym w) b.inside) in
        (c.item, (c.inside, a.makes ∙ ap owner_of b.makes ∙ o.owned c.item c.inside b.item c.makes))

    pub group_owns : (g : List (Record N D)) → In g gs → In (group_owner name g) (owners z)
    group_owns g i =
        let f = o.some g i in
        let there : In f.0 g = subst (In f.0) (sym f.2) (inl refl) in
        let inside : In (rr f.0) z.records = in_map rr rs f.0 (subst (In f.0) w (in_flat (λ g. g) gs g f.0 i there)) in
        let P : Name → Type 0 = λ n. In n (owners z) in
        subst P (o.owned g i f.0 there) (in_map owner_of z.records (rr f.0) inside)

    pub lowered_owner : (g : List (Record N D)) → In g gs → low (group_owner name g) ≡ group_owner name g
    lowered_owner g i =
        let f = o.some g i in
        ap (λ h. low (group_owner name h)) f.2 ∙ low-low (name f.0.owner) ∙ ap (group_owner name) (sym f.2)
