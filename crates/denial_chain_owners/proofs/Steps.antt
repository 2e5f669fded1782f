-- The walk over owners, step by step.
use Rattle.std.proofs.Common.{◌≡◌, ℕ, Bool, true, false, ◌&&◌, cond, List, [], ◌∷◌, ◌++◌, Option, Some, None, refl, sym, ap, subst, ◌∙◌, append_assoc}
use Rattle.std.specs.Prelude.{filter, not, slice_get}
use Rattle.std.specs.Option.{option_map}
use Rattle.std.specs.Borrow.{Bor}
use Rattle.std.specs.declared.cmp.Ordering.{Ordering}
use Rattle.std.proofs.lemmas.List.{append-nil}
use Rattle.definitions.specs.Name.{Name, low}
use Rattle.definitions.specs.Zone.{Zone, has, is_delegation, is_live, is_kept}
use Rattle.plain.specs.declared.record.Record.{Record}
use Rattle.denial_rrsets.specs.Groups.{groups, in_zone, of_one_owner, zone_cut, group_owner}
use Rattle.denial_chain_owners.specs.Conditions.{IsCanonicalOrder, IsOneClass}
use Rattle.denial_chain_owners.specs.Kept.{below_cut, kept_groups}
use Rattle.denial_chain_owners.specs.Types.{has_type}
use Rattle.denial_chain_owners.specs.Zones.{zone_of}
use Rattle.denial_chain_owners.proofs.ByOwner.{ByOwner, by_owner, whole_of}
use Rattle.denial_chain_owners.proofs.AtOwner.{filter_append}
use Rattle.denial_chain_owners.proofs.Walked.{CutIs, live_at, delegates, has_here, cut_next, cut_stays}

module _ {N D : Type 0} (name : N → Name) (rtype : D → ℕ) (canonical : D → List ℕ) (apex : Name) (rs : List (Record N D)) where
  abbrev all_groups : List (List (Record N D))
  all_groups = groups (of_one_owner name) rs

  abbrev zone : Zone
  zone = zone_of name rtype canonical apex rs

  abbrev keeps : Bool → List (Record N D) → Bool
  keeps excluding g = is_kept zone excluding (group_owner name g)

  -- The groups that were walked, those of them that are kept, and the last live delegation.
  pub record Walks (excluding : Bool) (cut : Option (Bor N)) (kept : List (List (Record N D))) (left : List (Record N D)) : Type 0 where
    pub done : List (List (Record N D))
    pub by : ByOwner name all_groups
    pub parts : all_groups ≡ done ++ groups (of_one_owner name) left
    pub kept_is : kept ≡ filter (keeps excluding) done
    pub cut_is : CutIs name rtype canonical apex all_groups by rs (whole_of name rs) cut done

  pub walk_begins : (by_data : D → D → Ordering) (excluding : Bool) → IsOneClass rs → IsCanonicalOrder name rtype by_data rs → Walks excluding None [] rs
  walk_begins by_data excluding c h = record { done = []; by = by_owner name rtype by_data rs c h; parts = refl; kept_is = refl; cut_is = refl }

  pub walk_ends : (excluding : Bool) (cut : Option (Bor N)) (kept : List (List (Record N D))) (left : List (Record N D)) → groups (of_one_owner name) left ≡ [] → Walks excluding cut kept left → kept ≡ kept_groups name rtype canonical apex excluding rs
  walk_ends excluding cut kept left e w =
      let all : w.done ≡ all_groups = sym (append-nil w.done) ∙ ap (λ gs. w.done ++ gs) (sym e) ∙ sym w.parts in
      w.kept_is ∙ ap (filter (keeps excluding)) all

  pub as_walks : (excluding : Bool) (cut old_cut : Option (Bor N)) (kept old_kept : List (List (Record N D))) (left : List (Record N D)) → cut ≡ old_cut → kept ≡ old_kept → Walks excluding old_cut old_kept left → Walks excluding cut kept left
  as_walks excluding cut old_cut kept old_kept left e f w =
      let P : Option (Bor N) → Type 0 = λ c. Walks excluding c kept left in
      let Q : List (List (Record N D)) → Type 0 = λ ks. Walks excluding old_cut ks left in
      subst P (sym e) (subst Q (sym f) w)

  -- one group of the walk
  module _ (excluding : Bool) (cut : Option (Bor N)) (kept : List (List (Record N D))) (left : List (Record N D)) (g : List (Record N D)) (behind : List (Record N D)) (first : groups (of_one_owner name) left ≡ g ∷ groups (of_one_owner name) behind) (w : Walks excluding cut kept left) where
    abbrev q : Name
    q = group_owner name g

    parts_now : all_groups ≡ w.done ++ g ∷ groups (of_one_owner name) behind
    parts_now = w.parts ∙ ap (λ gs. w.done ++ gs) first

    parts_next : all_groups ≡ (w.done ++ g ∷ []) ++ groups (of_one_owner name) behind
    parts_next = parts_now ∙ sym (append_assoc w.done (g ∷ []) (groups (of_one_owner name) behind))

    pub is_live_here : (in_zone name apex g && not (below_cut name cut g)) ≡ is_live zone q
    is_live_here = live_at name rtype canonical apex all_groups w.by rs (whole_of name rs) w.done g (groups (of_one_owner name) behind) parts_now cut w.cut_is

    cut_here : is_live zone q ≡ true → is_delegation zone q ≡ zone_cut name rtype apex g
    cut_here h = delegates name rtype canonical apex all_groups w.by rs (whole_of name rs) w.done g (groups (of_one_owner name) behind) parts_now h

    ds_here : has zone q 43 ≡ has_type rtype 43 g
    ds_here = has_here name rtype canonical apex all_groups w.by rs (whole_of name rs) w.done g (groups (of_one_owner name) behind) parts_now 43

    filtered : (b : Bool) → keeps excluding g ≡ b → filter (keeps excluding) (w.done ++ g ∷ []) ≡ filter (keeps excluding) w.done ++ cond b (g ∷ []) []
    filtered b e = filter_append (keeps excluding) w.done (g ∷ []) ∙ ap (λ c. filter (keeps excluding) w.done ++ cond c (g ∷ []) []) e

    kept_too : keeps excluding g ≡ true → kept ++ g ∷ [] ≡ filter (keeps excluding) (w.done ++ g ∷ [])
    kept_too e = ap (λ ks. ks ++ g ∷ []) w.kept_is ∙ sym (filtered true e)

    kept_without : keeps excluding g ≡ false → kept ≡ filter (keeps excluding) (w.done ++ g ∷ [])
    kept_without e = w.kept_is ∙ sym (append-nil (filter (keeps excluding) w.done)) ∙ sym (filtered false e)

    dead_cut : is_live zone q ≡ false → (is_live zone q && is_delegation zone q) ≡ false
    dead_cut e = ap (λ b. b && is_delegation zone q) e

    not_live : is_live zone q ≡ false → keeps excluding g ≡ false
    not_live e = ap (λ b. b && not (excluding && is_delegation zone q && not (has zone q 43))) e

    cut_false : (b : Bool) → b ≡ false → zone_cut name rtype apex g ≡ b → is_live zone q ≡ true → (is_live zone q && is_delegation zone q) ≡ false
    cut_false b n e l = (λ i. l i && cut_here l i) ∙ e ∙ n

    cut_true : zone_cut name rtype apex g ≡ true → is_live zone q ≡ true → (is_live zone q && is_delegation zone q) ≡ true
    cut_true e l = (λ i. l i && cut_here l i) ∙ e

    pub keeps_here : is_live zone q ≡ true → keeps excluding g ≡ not (excluding && zone_cut name rtype apex g && not (has_type rtype 43 g))
    keeps_here l = (λ i. l i && not (excluding && cut_here l i && not (ds_here i)))

    -- it isn't live
    pub walk_passes : is_live zone q ≡ false → Walks excluding cut kept behind
    walk_passes e = record {
      done = w.done ++ g ∷ [];
      by = w.by;
      parts = parts_next;
      kept_is = kept_without (not_live e);
      cut_is = cut_stays name rtype canonical apex all_groups w.by rs (whole_of name rs) w.done g (groups (of_one_owner name) behind) parts_now cut (dead_cut e) w.cut_is;
    }

    -- The cut behind it: the group's owner where it is a delegation, else as it was.
    abbrev pub NextCut : Option (Bor N) → Type 0
    NextCut c = CutIs name rtype canonical apex all_groups w.by rs (whole_of name rs) c (w.done ++ g ∷ [])

    pub cut_moves : (c : Bor N) → is_live zone q ≡ true → zone_cut name rtype apex g ≡ true → low (name c.now) ≡ q → NextCut (Some c)
    cut_moves c l e f = cut_next name rtype canonical apex all_groups w.by rs (whole_of name rs) w.done g (groups (of_one_owner name) behind) parts_now c (cut_true e l) f

    pub cut_keeps : is_live zone q ≡ true → zone_cut name rtype apex g ≡ false → NextCut cut
    cut_keeps l e = cut_stays name rtype canonical apex all_groups w.by rs (whole_of name rs) w.done g (groups (of_one_owner name) behind) parts_now cut (cut_false false refl e l) w.cut_is

    pub walk_keeps : (c : Option (Bor N)) → NextCut c → keeps excluding g ≡ true → Walks excluding c (kept ++ g ∷ []) behind
    walk_keeps c k e = record { done = w.done ++ g ∷ []; by = w.by; parts = parts_next; kept_is = kept_too e; cut_is = k }

    pub walk_leaves : (c : Option (Bor N)) → NextCut c → keeps excluding g ≡ false → Walks excluding c kept behind
    walk_leaves c k e = record { done = w.done ++ g ∷ []; by = w.by; parts = parts_next; kept_is = kept_without e; cut_is = k }

    -- the owner as the first record spells it
    owner_low : (n : N) (h : List (Record N D)) → Some n ≡ option_map (λ r. r.owner) (slice_get h 0) → low (name n) ≡ group_owner name h
    owner_low n [] e = absurd cc
    owner_low n (r ∷ h) e = let f : n ≡ r.owner = cc in ap (λ m. low (name m)) f

    not_cut : (e d : Bool) → not (e && false && d) ≡ true
    not_cut true d = refl
    not_cut false d = refl

    is_cut : (e d : Bool) → not (e && true && d) ≡ not (e && d)
    is_cut true d = refl
    is_cut false d = refl

    -- ---- the step, by what its tests answer

    module _ (b : Bool) (within : b ≡ (in_zone name apex g && not (below_cut name cut g))) where
      pub step_passes : b ≡ false → Walks excluding cut kept behind
      step_passes e = walk_passes (sym is_live_here ∙ sym within ∙ e)

      live_now : b ≡ true → is_live zone q ≡ true
      live_now e = sym is_live_here ∙ sym within ∙ e

      -- the test of a delegation
      pub step_keeps : b ≡ true → (d : Bool) → d ≡ zone_cut name rtype apex g → d ≡ false → Walks excluding cut (kept ++ g ∷ []) behind
      step_keeps t d cuts e =
          walk_keeps cut (cut_keeps (live_now t) (sym cuts ∙ e))
          (keeps_here (live_now t) ∙ ap (λ c. not (excluding && c && not (has_type rtype 43 g))) (sym cuts ∙ e) ∙ not_cut excluding (not (has_type rtype 43 g)))

      left_is : b ≡ true → (d : Bool) → d ≡ zone_cut name rtype apex g → d ≡ true → (o : Bool) → o ≡ (excluding && not (has_type rtype 43 g)) → keeps excluding g ≡ not o
      left_is t d cuts e o out =
          keeps_here (live_now t) ∙ ap (λ c. not (excluding && c && not (has_type rtype 43 g))) (sym cuts ∙ e)
          ∙ is_cut excluding (not (has_type rtype 43 g)) ∙ ap not (sym out)

      pub step_leaves : b ≡ true → (d : Bool) → d ≡ zone_cut name rtype apex g → d ≡ true → (c : Bor N) → Some c.now ≡ option_map (λ r. r.owner) (slice_get g 0)
          → (o : Bool) → o ≡ (excluding && not (has_type rtype 43 g)) → o ≡ true → Walks excluding (Some c) kept behind
      step_leaves t d cuts e c first o out f =
          walk_leaves (Some c) (cut_moves c (live_now t) (sym cuts ∙ e) (owner_low c.now g first)) (left_is t d cuts e o out ∙ ap not f)

      pub step_cuts : b ≡ true → (d : Bool) → d ≡ zone_cut name rtype apex g → d ≡ true → (c : Bor N) → Some c.now ≡ option_map (λ r. r.owner) (slice_get g 0)
          → (o : Bool) → o ≡ (excluding && not (has_type rtype 43 g)) → o ≡ false → Walks excluding (Some c) (kept ++ g ∷ []) behind
      step_cuts t d cuts e c first o out f =
          walk_keeps (Some c) (cut_moves c (live_now t) (sym cuts ∙ e) (owner_low c.now g first)) (left_is t d cuts e o out ∙ ap not f)
