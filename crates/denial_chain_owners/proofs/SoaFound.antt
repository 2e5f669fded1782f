-- The SOA records at the apex stand in the groups that are kept, and are counted one by one.
use Rattle.std.proofs.Common.{◌≡◌, ℕ, ◌+◌, ◌<◌, ◌≤◌, length, drop, get_or, Bool, true, false, cond, List, [], ◌∷◌, ◌++◌, Option, Some, None, refl, sym, ap, ◌∙◌, inl, inr}
use Rattle.std.specs.Prelude.{nat_eq, filter}
use Rattle.std.specs.List.{flat_map}
use Rattle.std.proofs.lemmas.List.{drop_all, drop_more}
use Rattle.std.specs.declared.cmp.Ordering.{Ordering}
use Rattle.definitions.specs.Name.{Name, low, same}
use Rattle.definitions.specs.Zone.{apex_of, is_kept}
use Rattle.definitions.proofs.Members.{In}
use Rattle.definitions.proofs.NameLaws.{labels_decide}
use Rattle.definitions.proofs.ZoneNames.{and_parts, apex_kept}
use Rattle.plain.specs.declared.record.Record.{Record}
use Rattle.plain.specs.declared.zone_data.ZoneRecordData.{ZoneRecordData}
use Rattle.denial_rrsets.specs.Groups.{groups, is_at, of_one_owner, group_owner}
use Rattle.denial_chain_owners.specs.Conditions.{IsCanonicalOrder, IsOneClass}
use Rattle.denial_chain_owners.specs.Kept.{kept_groups}
use Rattle.denial_chain_owners.specs.Soa.{and_ttls, seen_from, ttls_of, ttls_of_one}
use Rattle.denial_chain_owners.specs.Zones.{zone_of}
use Rattle.denial_chain_owners.specs.declared.soa.Seen.{Seen}
use Rattle.denial_chain_owners.specs.declared.soa.Seen.TheVariants.{Nothing, One, Unfit}
use Rattle.denial_chain_owners.specs.declared.soa.SoaTtls.{SoaTtls}
use Rattle.denial_chain_owners.proofs.ByOwner.{ByOwner, by_owner, whole_of}
use Rattle.denial_chain_owners.proofs.AtOwner.{filter_append, filter_none}
use Rattle.denial_chain_owners.proofs.Cuts.{not_true}

-- ---- one by one

abbrev pub shown : Seen → Option SoaTtls
shown (One t) = Some t
shown Nothing = None
shown Unfit = None

two_unfit : (t u : Option SoaTtls) → and_ttls (and_ttls Nothing t) u ≡ Unfit
two_unfit (Some t) u = refl
two_unfit None u = refl

one_shown : (t : Option SoaTtls) → shown (and_ttls Nothing t) ≡ t
one_shown (Some t) = refl
one_shown None = refl

module _ {O N : Type 0} where
  pub seen_append : (s : Seen) (xs ys : List (Record N (ZoneRecordData O N))) → seen_from s (xs ++ ys) ≡ seen_from (seen_from s xs) ys
  seen_append s [] ys = refl
  seen_append s (x ∷ xs) ys = seen_append (and_ttls s (ttls_of x)) xs ys

  unfit_stays : (xs : List (Record N (ZoneRecordData O N))) → seen_from Unfit xs ≡ Unfit
  unfit_stays [] = refl
  unfit_stays (x ∷ xs) = unfit_stays xs

  pub seen_is_one : (xs : List (Record N (ZoneRecordData O N))) → shown (seen_from Nothing xs) ≡ ttls_of_one xs
  seen_is_one [] = refl
  seen_is_one (x ∷ []) = one_shown (ttls_of x)
  seen_is_one (x ∷ y ∷ xs) = ap (λ s. shown (seen_from s xs)) (two_unfit (ttls_of x) (ttls_of y)) ∙ ap shown (unfit_stays xs)

  module _ (p : Record N (ZoneRecordData O N) → Bool) (gs : List (List (Record N (ZoneRecordData O N)))) where
    -- one group more
    pub seen_step : (i : ℕ) (g : List (Record N (ZoneRecordData O N))) (old new whole : Seen) → i < length gs → g ≡ get_or gs i g → new ≡ seen_from old (filter p g)
        → seen_from old (filter p (flat_map (λ g. g) (drop i gs))) ≡ whole → seen_from new (filter p (flat_map (λ g. g) (drop (i + 1) gs))) ≡ whole
    seen_step i g old new whole l at is h =
        let rest : List (Record N (ZoneRecordData O N)) = flat_map (λ g. g) (drop (i + 1) gs) in
        let ahead : drop i gs ≡ g ∷ drop (i + 1) gs = drop_more gs i g l ∙ ap (λ x. x ∷ drop (i + 1) gs) (sym at) in
        ap (λ s. seen_from s (filter p rest)) is
        ∙ sym (seen_append old (filter p g) (filter p rest))
        ∙ ap (seen_from old) (sym (filter_append p g rest))
        ∙ sym (ap (λ xs. seen_from old (filter p (flat_map (λ g. g) xs))) ahead)
        ∙ h

    -- all groups
    pub seen_all : (i : ℕ) (s : Seen) → length gs ≤ i → seen_from s (filter p (flat_map (λ g. g) (drop i gs))) ≡ seen_from Nothing (filter p (flat_map (λ g. g) gs)) → shown s ≡ ttls_of_one (filter p (flat_map (λ g. g) gs))
    seen_all i s l h =
        ap shown (sym (ap (λ xs. seen_from s (filter p (flat_map (λ g. g) xs))) (drop_all i gs l)) ∙ h)
        ∙ seen_is_one (filter p (flat_map (λ g. g) gs))

-- ---- in the groups that are kept

-- what passes stands in groups that are kept
passes_kept : {A : Type 0} (p : A → Bool) (k : List A → Bool) (gs : List (List A)) → ((g : List A) → In g gs → k g ≡ false → (x : A) → In x g → p x ≡ false) → filter p (flat_map (λ g. g) (filter k gs)) ≡ filter p (flat_map (λ g. g) gs)
passes_kept p k [] f = refl
passes_kept {A} p k (g ∷ gs) f = go (k g) refl (passes_kept p k gs (λ h i. f h (inr i)))
  where
    go : (b : Bool) → k g ≡ b → filter p (flat_map (λ g. g) (filter k gs)) ≡ filter p (flat_map (λ g. g) gs) → filter p (flat_map (λ g. g) (cond b (g ∷ filter k gs) (filter k gs))) ≡ filter p (g ++ flat_map (λ g. g) gs)
    go true e h = filter_append p g (flat_map (λ g. g) (filter k gs)) ∙ ap (λ xs. filter p g ++ xs) h ∙ sym (filter_append p g (flat_map (λ g. g) gs))
    go false e h =
        let none : filter p g ≡ [] = filter_none p g (λ x i. f g (inl refl) e x i) in
        h ∙ sym (ap (λ xs. xs ++ filter p (flat_map (λ g. g) gs)) none) ∙ sym (filter_append p g (flat_map (λ g. g) gs))

module _ {N D : Type 0} (name : N → Name) (rtype : D → ℕ) (canonical : D → List ℕ) (by_data : D → D → Ordering) (apex : Name) (excluding : Bool) (rs : List (Record N D)) (one : IsOneClass rs) (order : IsCanonicalOrder name rtype by_data rs) where
  abbrev gs : List (List (Record N D))
  gs = groups (of_one_owner name) rs

  pub apex_records_kept : filter (is_at name rtype apex 6) (flat_map (λ g. g) (kept_groups name rtype canonical apex excluding rs)) ≡ filter (is_at name rtype apex 6) rs
  apex_records_kept =
      let z = zone_of name rtype canonical apex rs in
      let by : ByOwner name gs = by_owner name rtype by_data rs one order in
      passes_kept (is_at name rtype apex 6) (λ g. is_kept z excluding (group_owner name g)) gs
      (λ g i n x j. not_true (is_at name rtype apex 6 x) (λ h.
      let s : low (name x.owner) ≡ low apex = (labels_decide (low (name x.owner)) (low apex)).0 (and_parts (nat_eq (rtype x.content) 6) (same (name x.owner) apex) h).1 in
      let e : group_owner name g ≡ apex_of z = sym (by.owned g i x j) ∙ s in
      let y : true ≡ false = sym (apex_kept z excluding) ∙ ap (is_kept z excluding) (sym e) ∙ n in
      cc))
      ∙ ap (filter (is_at name rtype apex 6)) (whole_of name rs)
