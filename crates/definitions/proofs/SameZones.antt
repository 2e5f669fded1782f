-- Zones with the same records say the same.
use Rattle.std.proofs.Common.{◌≡◌, ℕ, Bool, true, false, ◌&&◌, ◌||◌, List, [], ◌∷◌, map, ap, Option, Some, None, refl, sym, ◌∙◌}
use Rattle.std.specs.Prelude.{filter, not, ◌==◌, if◌then◌else◌}
use Rattle.std.specs.List.{list_any}
use Rattle.std.specs.Option.{is_none}
use Rattle.std.specs.Ordering.{nat_cmp}
use Rattle.std.specs.Cmp.Lexicographic.{slice_cmp}
use Rattle.std.specs.FinMap.{nat_cmp-IsAntisymmetric, slice_cmp-IsAntisymmetric}
use Rattle.std.proofs.lemmas.Cmp.{nat_list_cmp_total}
use Rattle.definitions.specs.Name.{Name, labels_eq, at_or_above, strictly_above, low}
use Rattle.definitions.specs.Zone.{Rr, Zone, owner_of, is_of, sorted_data, Records, NoType, NoName, StarRecords, StarNoType, Delegated, Open, has, is_delegation, cut, cut_above, is_live, is_kept, kept_owners, kept, ce, kept_cut_above, data_at, star_under, at_existing, at_star, verdict}
use Rattle.definitions.specs.Laws.{lowered, SameZone, OrderMeansNothing}
use Rattle.definitions.proofs.ChainSpeaks.{filter_map}
use Rattle.definitions.proofs.Members.{Within, within_contained, any_same, any_kept, kept_within, sort_same}

any_map : {X Y : Type 0} (p : Y → Bool) (f : X → Y) (xs : List X) → list_any p (map f xs) ≡ list_any (λ x. p (f x)) xs
any_map p f [] = refl
any_map p f (x ∷ xs) = ap (λ b. p (f x) || b) (any_map p f xs)

bytes-lowered : (rs : List Rr) → map (λ r. r.bytes) (map lowered rs) ≡ map (λ r. r.bytes) rs
bytes-lowered [] = refl
bytes-lowered (r ∷ rs) = ap (λ ds. r.bytes ∷ ds) (bytes-lowered rs)

-- a record whose owner is in lower case has this owner and type
abbrev stands : Name → ℕ → Rr → Bool
stands q t r = labels_eq r.spelled q && (r.rtype == t)

-- the data of records as they are and with lowered owners
data-lowered : (rs : List Rr) (q : Name) (t : ℕ) → map (λ r. r.bytes) (filter (stands q t) (map lowered rs)) ≡ map (λ r. r.bytes) (filter (is_of q t) rs)
data-lowered rs q t = ap (map (λ r. r.bytes)) (filter_map (stands q t) lowered rs) ∙ bytes-lowered (filter (is_of q t) rs)

module _ (z w : Zone) (s : SameZone z w) where
  abbrev of_z : List Rr
  of_z = map lowered z.records

  abbrev of_w : List Rr
  of_w = map lowered w.records

  there : Within of_z of_w
  there = within_contained of_z of_w (λ r h. (s.records r).0 h)

  back : Within of_w of_z
  back = within_contained of_w of_z (λ r h. (s.records r).1 h)

  -- a test of records with lowered owners
  test-same : (p : Rr → Bool) → list_any (λ r. p (lowered r)) z.records ≡ list_any (λ r. p (lowered r)) w.records
  test-same p = sym (any_map p lowered z.records) ∙ any_same p of_z of_w there back ∙ any_map p lowered w.records

  has-same : (q : Name) (t : ℕ) → has z q t ≡ has w q t
  has-same q t = test-same (stands q t)

  delegation-same : (q : Name) → is_delegation z q ≡ is_delegation w q
  delegation-same q i = has-same q 2 i && strictly_above (s.apex i) q

  abbrev topmost : Option Name → Bool → Name → Option Name
  topmost c d q = elim c [ None ↦ (if d then Some q else None) | Some n ↦ Some n ]

  cut-same : (q : Name) → cut z q ≡ cut w q
  cut-same [] = refl
  cut-same (l ∷ q) = let above = cut-same q in λ i. topmost (above i) (delegation-same (l ∷ q) i) (l ∷ q)

  cut_above-same : (q : Name) → cut_above z q ≡ cut_above w q
  cut_above-same [] = refl
  cut_above-same (l ∷ q) = cut-same q

  is_live-same : (o : Name) → is_live z o ≡ is_live w o
  is_live-same o i = at_or_above (s.apex i) o && is_none (cut_above-same o i)

  is_kept-same : (optout : Bool) (o : Name) → is_kept z optout o ≡ is_kept w optout o
  is_kept-same optout o i = is_live-same o i && not (optout && delegation-same o i && not (has-same o 43 i))

  below-same : (optout : Bool) (q : Name) → list_any (at_or_above q) (kept_owners z optout) ≡ list_any (at_or_above q) (kept_owners w optout)
  below-same optout q =
      any_kept (is_kept z optout) (at_or_above q) owner_of z.records
      ∙ (λ i. list_any (λ r. is_kept-same optout (owner_of r) i && at_or_above q (owner_of r)) z.records)
      ∙ test-same (λ r. is_kept w optout r.spelled && at_or_above q r.spelled)
      ∙ sym (any_kept (is_kept w optout) (at_or_above q) owner_of w.records)

  kept-same : (optout : Bool) (q : Name) → kept z optout q ≡ kept w optout q
  kept-same optout q i = at_or_above (s.apex i) q && below-same optout q i

  ce-same : (q : Name) → ce z q ≡ ce w q
  ce-same [] = refl
  ce-same (l ∷ q) = let above = ce-same q in λ i. if kept-same false q i then Some q else above i

  kept_cut_above-same : (optout : Bool) (q : Name) → kept_cut_above z optout q ≡ kept_cut_above w optout q
  kept_cut_above-same optout [] = refl
  kept_cut_above-same optout (l ∷ q) = let above = kept_cut_above-same optout q in λ i. (delegation-same q i && is_kept-same optout q i) || above i

  data_at-same : (q : Name) (t : ℕ) → data_at z q t ≡ data_at w q t
  data_at-same q t =
      ap sorted_data (sym (data-lowered z.records q t))
      ∙ sort_same (slice_cmp nat_cmp) nat_list_cmp_total (slice_cmp-IsAntisymmetric nat_cmp-IsAntisymmetric) _ _
      (kept_within (stands q t) (λ r. r.bytes) of_z of_w there)
      (kept_within (stands q t) (λ r. r.bytes) of_w of_z back)
      ∙ ap sorted_data (data-lowered w.records q t)

  at_existing-same : (q : Name) (t : ℕ) → at_existing z q t ≡ at_existing w q t
  at_existing-same q t i = if has-same q t i then Records (data_at-same q t i) else NoType

  at_star-same : (n : Name) (t : ℕ) → at_star z n t ≡ at_star w n t
  at_star-same n t i = if kept-same false n i then (if has-same n t i then StarRecords (data_at-same n t i) else StarNoType) else NoName

  pub verdict-same : (optout : Bool) (name : Name) (t : ℕ) → verdict z optout name t ≡ verdict w optout name t
  verdict-same optout name t =
      let q : Name = low name in
      λ i. elim (optout && not (kept-same optout q i) && not (kept_cut_above-same optout q i)) [
        | true ↦ Open
        | false ↦ elim (cut-same q i) [
          | Some c ↦ if labels_eq c q && (t == 43) then at_existing-same q 43 i else Delegated
          | None ↦ elim (kept-same false q i) [
            | true ↦ at_existing-same q t i
            | false ↦ elim (ce-same q i) [ None ↦ NoName | Some e ↦ at_star-same (star_under e) t i ]
          ]
        ]
      ]

pub order_means_nothing : OrderMeansNothing
order_means_nothing z w s optout name t = verdict-same z w s optout name t
