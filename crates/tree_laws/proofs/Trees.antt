-- What a tree says of a question is one thing.
use Rattle.std.proofs.Common.{◌≡◌, ℕ, Bool, true, false, ◌&&◌, not, List, [], ◌∷◌, Option, Some, None, refl, sym, ap, subst, ◌∙◌, ◌⊎◌, inl, inr}
use Rattle.std.specs.Prelude.{◌==◌, cond, filter, map, if◌then◌else◌}
use Rattle.std.specs.List.{list_any}
use Rattle.std.proofs.lemmas.Bool.{and_parts, false≢true, or_parts}
use Rattle.definitions.specs.Name.{Name, low, same, labels_eq, at_or_above}
use Rattle.definitions.specs.Zone.{Rr, Zone, Verdict, apex_of, cut, has, is_of, is_open, is_kept, kept, kept_cut_above, exists, ce, star_under, data_at, sorted_data}
use Rattle.definitions.proofs.ZoneNames.{low-low, above_lowered, lowered_above, same_lowered}
use Rattle.denial_laws.specs.Aliases.{IsOrderly, is_aliased}
use Rattle.denial_laws.specs.Leading.{Lead, To, LeadsTo, IsRedirectedTo, source_of, OnlyAliasesLead, AliasesLeadToOne}
use Rattle.denial_laws.proofs.NameFacts.{above_cases, same_names, above-same}
use Rattle.denial_laws.proofs.Unaliased.{IsRedirector, redirected_by, cut_unredirected}
use Rattle.denial_laws.proofs.ZoneCuts.{IsCut, cut_is, cut_live, cut_below, delegation_low, delegation_owner, live_kept, owner_kept}
use Rattle.tree_laws.specs.Tree.{Tree, TreeZone, Said, Secure, Unsigned, LeftOpen, Leads, Says, Itself, Below, SaysItself, Resolves, Ends, Led, is_bound, is_zone_of, leads_on, refers_to, zone_at}
use Rattle.tree_laws.specs.Orderly.{IsOrderlyTree, IsOrderlyZone}
use Rattle.tree_laws.specs.Laws.{AreAlike, TreesSayOne, TreesResolveToOne, VerdictsAreOfZonesAbove}

-- ---- DS records

none_kept : (p : Rr → Bool) (rs : List Rr) → list_any p rs ≡ false → filter p rs ≡ []
none_kept p [] h = refl
none_kept p (r ∷ rs) h = let both = or_parts (p r) (list_any p rs) h in ap (λ b. cond b (r ∷ filter p rs) (filter p rs)) both.0 ∙ none_kept p rs both.1

-- a zone has no data where it has no record
pub no_data : (z : Zone) (q : Name) (t : ℕ) → has z q t ≡ false → data_at z q t ≡ []
no_data z q t h = ap (λ rs. sorted_data (map (λ (r : Rr). r.bytes) rs)) (none_kept (is_of q t) z.records h)

-- a delegation that is bound has DS
pub bound_has : (knows : List ℕ → Bool) (z : Zone) (c : Name) → is_bound knows z c ≡ true → has z c 43 ≡ true
bound_has knows z c h = go (has z c 43) refl
  where
    go : (b : Bool) → has z c 43 ≡ b → b ≡ true
    go true e = refl
    go false e = absurd (false≢true (sym (ap (list_any knows) (no_data z c 43 e)) ∙ h))

-- ---- what a question is referred to

pub record IsReferred (z : Zone) (q : Name) (t : ℕ) (c : Name) : Type 0 where
  pub cut_is : cut z (low q) ≡ Some c
  pub other : (labels_eq c (low q) && (t == 43)) ≡ false

abbrev onward : Option Name → Name → ℕ → Option Name
onward o q t = elim o [ None ↦ None | Some c ↦ if labels_eq c (low q) && (t == 43) then None else Some c ]

pub referred : (z : Zone) (q : Name) (t : ℕ) (c : Name) → refers_to z q t ≡ Some c → IsReferred z q t c
referred z q t c h = go (cut z (low q)) refl h
  where
    at : (d : Name) → cut z (low q) ≡ Some d → (b : Bool) → (labels_eq d (low q) && (t == 43)) ≡ b → (if b then None else Some d) ≡ Some c → IsReferred z q t c
    at d e true f h = absurd cc
    at d e false f h = let is : d ≡ c = cc in subst (IsReferred z q t) is (record { cut_is = e; other = f })

    go : (o : Option Name) → cut z (low q) ≡ o → onward o q t ≡ Some c → IsReferred z q t c
    go None e h = absurd cc
    go (Some d) e h = at d e (labels_eq d (low q) && (t == 43)) refl h

pub refers : (z : Zone) (q : Name) (t : ℕ) (c : Name) → cut z (low q) ≡ Some c → (labels_eq c (low q) && (t == 43)) ≡ false → refers_to z q t ≡ Some c
refers z q t c e f = ap (λ o. onward o q t) e ∙ ap (λ b. if b then None else Some c) f

pub refers_none : (z : Zone) (q : Name) (t : ℕ) → cut z (low q) ≡ None → refers_to z q t ≡ None
refers_none z q t e = ap (λ o. onward o q t) e

pub some_not_none : (o : Option Name) (c : Name) → o ≡ None → o ≡ Some c → ⊥
some_not_none o c e f = let both : None ≡ Some c = sym e ∙ f in absurd cc

closed : (ex k c : Bool) → (k ≡ true) ⊎ (c ≡ true) → (ex && not k && not c) ≡ false
closed false k c h = refl
closed true true c h = refl
closed true false true h = refl
closed true false false h = elim h [ inl e ↦ absurd (false≢true e) | inr e ↦ absurd (false≢true e) ]

-- a cut that has DS leaves nothing at or below it open
pub cut_closed : (z : Zone) (ex : Bool) (q c : Name) → low q ≡ q → cut z q ≡ Some c → has z c 43 ≡ true → is_open z ex q ≡ false
cut_closed z ex q c lq e h =
    let k : IsCut z q c = cut_is z q c lq e in
    let kept_is : is_kept z ex c ≡ true = live_kept z ex c (cut_live z q c k) (inr h) in
    elim (above_cases c q k.above) [
      | inl s ↦
          let is : c ≡ q = same_lowered c q (delegation_low z c k.delegation) lq s in
          closed ex (kept z ex q) (kept_cut_above z ex q) (inl (ap (kept z ex) (sym is) ∙ owner_kept z ex c (delegation_owner z c k.delegation) kept_is))
      | inr s ↦ closed ex (kept z ex q) (kept_cut_above z ex q) (inr (cut_below z ex q lq (record { cut = c; delegation = k.delegation; kept = kept_is; above = s })))
    ]

-- ---- aliases are below no delegation

source_uncut : (z : Zone) (q o : Name) → source_of z q ≡ Some o → cut z q ≡ None
source_uncut z q o h = go (cut z q) h
  where
    go : (c : Option Name)
        → (elim c as (λ _. Option Name) [ Some d ↦ None | None ↦ elim (exists z q) [ true ↦ Some q | false ↦ elim (ce z q) [ None ↦ None | Some e ↦ Some (star_under e) ] ] ]) ≡ Some o
        → c ≡ None
    go None h = refl
    go (Some d) h = absurd cc

redirected_uncut : (z : Zone) (name : Name) (lead : Lead) → IsOrderly z → IsRedirectedTo z name lead → cut z (low name) ≡ None
redirected_uncut z name lead s r = go (cut z (low name)) refl
  where
    go : (c : Option Name) → cut z (low name) ≡ c → c ≡ None
    go None e = refl
    go (Some c) e =
        let k : IsCut z (low name) c = cut_is z (low name) c (low-low name) e in
        let by : IsRedirector z (low name) r.owner = record { redirects = r.stands; live = r.live; above = r.above } in
        absurd (false≢true (sym (cut_unredirected z s (low name) c k.delegation (cut_live z (low name) c k) k.above) ∙ redirected_by z (low name) r.owner (low-low name) by))

pub lead_uncut : (z : Zone) (ex : Bool) (name : Name) (t : ℕ) (lead : Lead) → IsOrderly z → LeadsTo z ex name t lead → cut z (low name) ≡ None
lead_uncut z ex name t lead s h = elim h [
  | inl r ↦ redirected_uncut z name lead s r
  | inr r ↦ source_uncut z (low name) r.owner r.source
]

-- ---- what a zone says by itself

module _ (only : OnlyAliasesLead) (leads_once : AliasesLeadToOne) (knows : List ℕ → Bool) (q : Name) (t : ℕ) (z : TreeZone) (o : IsOrderlyZone z) where
  unsaid : {X : Type 0} (c : Name) → refers_to z.zone q t ≡ None → refers_to z.zone q t ≡ Some c → X
  unsaid c e f = absurd (some_not_none (refers_to z.zone q t) c e f)

  lead_unreferred : (lead : Lead) → LeadsTo z.zone z.optout q t lead → refers_to z.zone q t ≡ None
  lead_unreferred lead h = refers_none z.zone q t (lead_uncut z.zone z.optout q t lead o.servable.aliases h)

  lead_alias : {X : Type 0} (lead : Lead) → LeadsTo z.zone z.optout q t lead → is_aliased z.zone z.optout q t ≡ false → X
  lead_alias lead h n = absurd (false≢true (sym n ∙ only z.zone z.optout q t lead h))

  same_cut : (c d : Name) → refers_to z.zone q t ≡ Some c → refers_to z.zone q t ≡ Some d → c ≡ d
  same_cut c d e f = let both : Some c ≡ Some d = sym e ∙ f in cc

  pub itself_one : (a b : Said) → SaysItself knows q t z a → SaysItself knows q t z b → AreAlike a b
  itself_one (Secure n v) (Secure m w) x y = inl (λ i. Secure ((x.0 ∙ sym y.0) i) ((x.4 ∙ sym y.4) i))
  itself_one (Secure n v) (Unsigned c) x y = unsaid c x.1 y.0
  itself_one (Secure n v) (LeftOpen m) x y = absurd (false≢true (sym x.2 ∙ y.1))
  itself_one (Secure n v) (Leads lead) x y = lead_alias lead y x.3
  itself_one (Unsigned c) (Secure n v) x y = unsaid c y.1 x.0
  itself_one (Unsigned c) (Unsigned d) x y = inl (ap (λ n. Unsigned n) (same_cut c d x.0 y.0))
  itself_one (Unsigned c) (LeftOpen m) x y = inr (tt, tt)
  itself_one (Unsigned c) (Leads lead) x y = unsaid c (lead_unreferred lead y) x.0
  itself_one (LeftOpen n) (Secure m v) x y = absurd (false≢true (sym y.2 ∙ x.1))
  itself_one (LeftOpen n) (Unsigned c) x y = inr (tt, tt)
  itself_one (LeftOpen n) (LeftOpen m) x y = inl (ap (λ n. LeftOpen n) (x.0 ∙ sym y.0))
  itself_one (LeftOpen n) (Leads lead) x y = lead_alias lead y x.2
  itself_one (Leads lead) (Secure n v) x y = lead_alias lead x y.3
  itself_one (Leads lead) (Unsigned c) x y = unsaid c (lead_unreferred lead x) y.0
  itself_one (Leads lead) (LeftOpen n) x y = lead_alias lead x y.2
  itself_one (Leads lead) (Leads other) x y = inl (ap (λ l. Leads l) (leads_once z.zone z.optout q t lead other o.servable.aliases x y))

  -- it does not hand the question on
  pub no_way_down : (a : Said) (c : Name) → SaysItself knows q t z a → refers_to z.zone q t ≡ Some c → is_bound knows z.zone c ≡ true → ⊥
  no_way_down (Secure n v) c x r d = unsaid c x.1 r
  no_way_down (Unsigned n) c x r d = false≢true (sym x.1 ∙ ap (is_bound knows z.zone) (same_cut n c x.0 r) ∙ d)
  no_way_down (LeftOpen n) c x r d =
      let k : IsReferred z.zone q t c = referred z.zone q t c r in
      false≢true (sym (cut_closed z.zone z.optout (low q) c (low-low q) k.cut_is (bound_has knows z.zone c d)) ∙ x.1)
  no_way_down (Leads lead) c x r d = unsaid c (lead_unreferred lead x) r

-- ---- a tree

pub zone_in_order : (tree : Tree) (n : Name) (z : TreeZone) → IsOrderlyTree tree → zone_at tree n ≡ Some z → IsOrderlyZone z
zone_in_order [] n z o h = absurd cc
zone_in_order (y ∷ tree) n z o h = go (is_zone_of n y) h (λ k. zone_in_order tree n z o.1 k)
  where
    go : (b : Bool) → cond b (Some y) (zone_at tree n) ≡ Some z → (zone_at tree n ≡ Some z → IsOrderlyZone z) → IsOrderlyZone z
    go true h rest = let is : y ≡ z = cc in subst IsOrderlyZone is o.0
    go false h rest = rest h

pub zone_named : (tree : Tree) (n : Name) (z : TreeZone) → zone_at tree n ≡ Some z → same z.zone.name n ≡ true
zone_named [] n z h = absurd cc
zone_named (y ∷ tree) n z h = go (is_zone_of n y) refl h (λ k. zone_named tree n z k)
  where
    go : (b : Bool) → is_zone_of n y ≡ b → cond b (Some y) (zone_at tree n) ≡ Some z → (zone_at tree n ≡ Some z → same z.zone.name n ≡ true) → same z.zone.name n ≡ true
    go true e h rest = let is : y ≡ z = cc in subst (λ (x : TreeZone). same x.zone.name n ≡ true) is e
    go false e h rest = rest h

one_below : (tree : Tree) (c d : Name) (x y : TreeZone) → c ≡ d → zone_at tree c ≡ Some x → zone_at tree d ≡ Some y → x ≡ y
one_below tree c d x y e f g = let both : Some x ≡ Some y = sym f ∙ ap (zone_at tree) e ∙ g in cc

module _ (only : OnlyAliasesLead) (leads_once : AliasesLeadToOne) (knows : List ℕ → Bool) (tree : Tree) (o : IsOrderlyTree tree) where
  pub say_one : (q : Name) (t : ℕ) (a b : Said) (z : TreeZone) → IsOrderlyZone z → Says knows tree q t a z → Says knows tree q t b z → AreAlike a b
  say_one q t a b z k (Itself x) (Itself y) = itself_one only leads_once knows q t z k a b x y
  say_one q t a b z k (Itself x) (Below {c = c} r d at y) = absurd (no_way_down only leads_once knows q t z k a c x r d)
  say_one q t a b z k (Below {c = c} r d at x) (Itself y) = absurd (no_way_down only leads_once knows q t z k b c y r d)
  say_one q t a b z k (Below {below = u} {c = c} r d at x) (Below {below = w} {c = e} s f to y) =
      let cuts : c ≡ e = same_cut only leads_once knows q t z k c e r s in
      let is : w ≡ u = sym (one_below tree c e u w cuts at to) in
      say_one q t a b u (zone_in_order tree c u o at) x (subst (Says knows tree q t b) is y)

pub trees_say_one : OnlyAliasesLead → AliasesLeadToOne → TreesSayOne
trees_say_one only leads_once knows tree from q t a b o k x y = say_one only leads_once knows tree o q t a b from k x y

-- ---- through aliases

alike_lead : (a b : Lead) → AreAlike (Leads a) (Leads b) → a ≡ b
alike_lead a b h = elim h [ inl e ↦ (let is : Leads a ≡ Leads b = e in cc) | inr i ↦ absurd i.0 ]

not_alike_lead : (a : Said) (n : Name) → leads_on a ≡ false → AreAlike a (Leads (To n)) → ⊥
not_alike_lead a n h k = elim k [ inl e ↦ false≢true (sym h ∙ ap leads_on e) | inr i ↦ i.1 ]

not_lead_alike : (a : Said) (n : Name) → leads_on a ≡ false → AreAlike (Leads (To n)) a → ⊥
not_lead_alike a n h k = elim k [ inl e ↦ false≢true (sym h ∙ ap leads_on (sym e)) | inr i ↦ i.0 ]

module _ (only : OnlyAliasesLead) (leads_once : AliasesLeadToOne) (knows : List ℕ → Bool) (tree : Tree) (o : IsOrderlyTree tree) (from : TreeZone) (k : IsOrderlyZone from) (t : ℕ) where
  pub resolve_one : (a b : Said) (q : Name) (ns ms : List Name) → Resolves knows tree from t a q ns → Resolves knows tree from t b q ms → (ns ≡ ms) × AreAlike a b
  resolve_one a b q ns ms (Ends w s l) (Ends v r m) = (refl, say_one only leads_once knows tree o q t a b from k s r)
  resolve_one a b q ns ms (Ends w s l) (Led {n = n} v r m) = absurd (not_alike_lead a n l (say_one only leads_once knows tree o q t a (Leads (To n)) from k s r))
  resolve_one a b q ns ms (Led {n = n} w s l) (Ends v r m) = absurd (not_lead_alike b n m (say_one only leads_once knows tree o q t (Leads (To n)) b from k s r))
  resolve_one a b q ns ms (Led {n = n} {ns = xs} w s l) (Led {n = m} {ns = ys} v r e) =
      let leads : To n ≡ To m = alike_lead (To n) (To m) (say_one only leads_once knows tree o q t (Leads (To n)) (Leads (To m)) from k s r) in
      let is : m ≡ n = cc in
      let rest = resolve_one a b n xs ys l (subst (λ x. Resolves knows tree from t b x ys) is e) in
      ((λ i. sym is i ∷ rest.0 i), rest.1)

pub trees_resolve_to_one : OnlyAliasesLead → AliasesLeadToOne → TreesResolveToOne
trees_resolve_to_one only leads_once knows tree from q t ns ms a b o k x y = resolve_one only leads_once knows tree o from k t a b q ns ms x y

-- ---- zones above the name

-- the zone below a cut is at or above the name
pub below_above : (tree : Tree) (z below : TreeZone) (q : Name) (t : ℕ) (c : Name) → refers_to z.zone q t ≡ Some c → zone_at tree c ≡ Some below → at_or_above below.zone.name q ≡ true
below_above tree z below q t c r at =
    let k : IsReferred z.zone q t c = referred z.zone q t c r in
    let cut_above : IsCut z.zone (low q) c = cut_is z.zone (low q) c (low-low q) k.cut_is in
    above-same below.zone.name c q (same_names below.zone.name c (zone_named tree c below at)) ∙ sym (above_lowered c q) ∙ cut_above.above

secure_above : (knows : List ℕ → Bool) (tree : Tree) (q : Name) (t : ℕ) (n : Name) (v : Verdict) (z : TreeZone) → at_or_above z.zone.name q ≡ true → Says knows tree q t (Secure n v) z → at_or_above n q ≡ true
secure_above knows tree q t n v z a (Itself x) = ap (λ m. at_or_above m q) x.0 ∙ a
secure_above knows tree q t n v z a (Below {below = u} {c = c} r d at x) = secure_above knows tree q t n v u (below_above tree z u q t c r at) x

pub verdicts_are_of_zones_above : VerdictsAreOfZonesAbove
verdicts_are_of_zones_above knows tree from q t n v w s =
    let both = and_parts (at_or_above (apex_of from.zone) q) _ w in
    secure_above knows tree q t n v from (sym (lowered_above from.zone.name q) ∙ both.0) s
