-- The last zone on a way down that stands above a name.
use Rattle.std.proofs.Common.{◌≡◌, ℕ, zero, suc, Bool, true, false, ◌&&◌, ◌||◌, List, [], ◌∷◌, Option, Some, None, refl, sym, ap, subst, ◌∙◌, inl, inr}
use Rattle.std.specs.Prelude.{◌==◌, if◌then◌else◌}
use Rattle.std.specs.List.{list_any}
use Rattle.std.proofs.lemmas.Bool.{and_parts, false_from_ne_true}
use Rattle.definitions.specs.Name.{Name, at_or_above, labels_eq, low, same, strictly_above}
use Rattle.definitions.specs.Zone.{apex_of, has}
use Rattle.definitions.proofs.Members.{In, any_of}
use Rattle.definitions.proofs.NameLaws.{labels_decide}
use Rattle.definitions.proofs.ZoneNames.{above_itself, above_lowered, low-low, lowered_above}
use Rattle.denial_laws.proofs.NameFacts.{above-same, above_trans, at_strictly_above, names_same, same_names, strictly_at, strictly_unlike}
use Rattle.denial_laws.proofs.ZoneCuts.{IsCut, cut_from, cut_is, cut_live}
use Rattle.tree_laws.specs.Tree.{Tree, TreeZone, is_bound, refers_to, zone_at}
use Rattle.tree_laws.proofs.Trees.{referred, refers, zone_named}
use Rattle.walk_laws.specs.Tree.{handed_down, last_above, zones_down}

strictly_same : (a b n : Name) → low a ≡ low b → strictly_above a n ≡ strictly_above b n
strictly_same a b [] e = refl
strictly_same a b (l ∷ m) e = above-same a b m e

any_in : {X : Type 0} (p : X → Bool) (xs : List X) (x : X) → In x xs → p x ≡ true → list_any p xs ≡ true
any_in p [] x there is = absurd there
any_in p (y ∷ xs) x (inl same) is = ap (λ b. b || list_any p xs) (ap p (sym same) ∙ is)
any_in p (y ∷ xs) x (inr later) is = go (p y) (any_in p xs x later is)
  where
    go : (b : Bool) → list_any p xs ≡ true → (b || list_any p xs) ≡ true
    go true rest = refl
    go false rest = rest

module _ (k : List ℕ → Bool) (tree : Tree) (q : Name) (t : ℕ) where
  -- the delegation that a question is handed down by
  record IsHanded (z below : TreeZone) : Type 0 where
    c : Name
    refers_there : refers_to z.zone q t ≡ Some c
    found : zone_at tree c ≡ Some below

  handed_by : (z below : TreeZone) → handed_down k tree q t z ≡ Some below → IsHanded z below
  handed_by z below is = go (refers_to z.zone q t) refl is
    where
      at : (c : Name) → refers_to z.zone q t ≡ Some c → (b : Bool) → (if b then zone_at tree c else None) ≡ Some below → IsHanded z below
      at c r true f = record { c = c; refers_there = r; found = f }
      at c r false f = absurd cc

      go : (o : Option Name) → refers_to z.zone q t ≡ o → elim o [ None ↦ None | Some c ↦ if is_bound k z.zone c then zone_at tree c else None ] ≡ Some below → IsHanded z below
      go None r f = absurd cc
      go (Some c) r f = at c r (is_bound k z.zone c) f

  module _ (z below : TreeZone) (x : IsHanded z below) where
    cut_there : IsCut z.zone (low q) x.c
    cut_there = cut_is z.zone (low q) x.c (low-low q) (referred z.zone q t x.c x.refers_there).cut_is

    named : low below.zone.name ≡ low x.c
    named = same_names below.zone.name x.c (zone_named tree x.c below x.found)

    below_apex : at_or_above z.zone.name x.c ≡ true
    below_apex = sym (lowered_above z.zone.name x.c) ∙ strictly_at (low z.zone.name) x.c (and_parts (has z.zone x.c 2) (strictly_above (apex_of z.zone) x.c) cut_there.delegation).1

    -- where it stands above a name, the zone refers DS at the name on
    ds_referred : (n : Name) → strictly_above x.c n ≡ true → refers_to z.zone n 43 ≡ Some x.c
    ds_referred n above =
        let up : at_or_above x.c (low n) ≡ true = above_lowered x.c n ∙ strictly_at x.c n above in
        let unlike : (labels_eq x.c (low n) && (43 == 43)) ≡ false = false_from_ne_true (labels_eq x.c (low n) && (43 == 43)) (λ h.
        let alike : x.c ≡ low n = (labels_decide x.c (low n)).0 (and_parts (labels_eq x.c (low n)) (43 == 43) h).0 in
        strictly_unlike x.c n above (names_same x.c n (ap low alike ∙ low-low n))) in
        refers z.zone n 43 x.c (cut_from z.zone (low n) x.c (low-low n) cut_there.delegation (cut_live z.zone (low q) x.c cut_there) up) unlike

  -- the zones further down are at or below the first
  below_first : (cuts : ℕ) (z : TreeZone) (n : Name) → In n (zones_down k tree q t cuts z) → at_or_above z.zone.name n ≡ true
  below_first zero z n (inl is) = subst (λ (m : Name). at_or_above z.zone.name m ≡ true) (sym is) (above_itself z.zone.name)
  below_first zero z n (inr later) = absurd later
  below_first (suc cuts) z n (inl is) = subst (λ (m : Name). at_or_above z.zone.name m ≡ true) (sym is) (above_itself z.zone.name)
  below_first (suc cuts) z n (inr later) = go (handed_down k tree q t z) refl later (below_first cuts)
    where
      go : (o : Option TreeZone) → handed_down k tree q t z ≡ o → In n (elim o [ None ↦ [] | Some y ↦ zones_down k tree q t cuts y ]) → ((y : TreeZone) (m : Name) → In m (zones_down k tree q t cuts y) → at_or_above y.zone.name m ≡ true) → at_or_above z.zone.name n ≡ true
      go None is there rest = absurd there
      go (Some y) is there rest =
          let x : IsHanded z y = handed_by z y is in
          above_trans z.zone.name x.c n (below_apex z y x) (sym (above-same y.zone.name x.c n (named z y x)) ∙ rest y n there)

  -- none of them stands above a name for which the first refers DS nowhere
  none_deeper : (cuts : ℕ) (z : TreeZone) (n : Name) → refers_to z.zone n 43 ≡ None → (o : Option TreeZone) → handed_down k tree q t z ≡ o → list_any (λ y. strictly_above y n) (elim o [ None ↦ [] | Some y ↦ zones_down k tree q t cuts y ]) ≡ false
  none_deeper cuts z n none None is = refl
  none_deeper cuts z n none (Some y) is = false_from_ne_true (list_any (λ m. strictly_above m n) (zones_down k tree q t cuts y)) (λ any.
      let w = any_of (λ m. strictly_above m n) (zones_down k tree q t cuts y) any in
      let x : IsHanded z y = handed_by z y is in
      let above : strictly_above x.c n ≡ true = sym (strictly_same y.zone.name x.c n (named z y x)) ∙ at_strictly_above y.zone.name w.0 n (below_first cuts y w.0 w.1.0) w.1.1 in
      (let both : None ≡ Some x.c = sym none ∙ ds_referred z y x n above in cc))

  pub first_deepest : (cuts : ℕ) (z : TreeZone) (n : Name) → refers_to z.zone n 43 ≡ None → last_above n (zones_down k tree q t cuts z) ≡ z.zone.name
  first_deepest zero z n none = refl
  first_deepest (suc cuts) z n none =
      ap (λ (b : Bool). if b then last_above n (elim (handed_down k tree q t z) [ None ↦ [] | Some y ↦ zones_down k tree q t cuts y ]) else z.zone.name) (none_deeper cuts z n none (handed_down k tree q t z) refl)

  pub further_deepest : (cuts : ℕ) (z below : TreeZone) (n zone : Name) → handed_down k tree q t z ≡ Some below → In zone (zones_down k tree q t cuts below) → strictly_above zone n ≡ true
      → last_above n (zones_down k tree q t cuts below) ≡ zone → last_above n (zones_down k tree q t (suc cuts) z) ≡ zone
  further_deepest cuts z below n zone is there above deepest =
      subst (λ (o : Option TreeZone). last_above n (z.zone.name ∷ elim o [ None ↦ [] | Some y ↦ zones_down k tree q t cuts y ]) ≡ zone) (sym is)
      (ap (λ (b : Bool). if b then last_above n (zones_down k tree q t cuts below) else z.zone.name) (any_in (λ m. strictly_above m n) (zones_down k tree q t cuts below) zone there above) ∙ deepest)
