-- Which names are no aliases, in a zone whose aliases are in order.
use Rattle.std.proofs.Common.{◌≡◌, ℕ, Bool, true, false, ◌&&◌, not, List, [], ◌∷◌, Option, Some, None, refl, sym, ap, ◌∙◌, inl, inr}
use Rattle.std.specs.Prelude.{◌==◌}
use Rattle.std.proofs.lemmas.Bool.{and_parts, and_from, and_left, and_cases, or_cases, or_left, or_right, or_parts, or_from, not-true, not_from_false, false≢true, false_from_ne_true, eq-eqb}
use Rattle.definitions.specs.Name.{Name, low, at_or_above, strictly_above}
use Rattle.definitions.specs.Zone.{Zone, owners, has, is_delegation, is_live, is_open, cut, kept, exists, ce, star_under}
use Rattle.definitions.proofs.Members.{In, contained}
use Rattle.definitions.proofs.ZoneNames.{above_itself, same_lowered, owner_lowered}
use Rattle.denial_laws.specs.Aliases.{IsOrderly, is_redirected, has_alias, has_own_alias, is_aliased}
use Rattle.denial_laws.proofs.NameFacts.{above_cases, above_either, strictly_at, strictly_above_at, at_strictly_above}
use Rattle.denial_laws.proofs.ChainBits.{cut_no_cname}
use Rattle.denial_laws.proofs.ZoneCuts.{IsCut, IsKeptBy, tail_low, has_owner, delegation_owner, delegation_low, cut_is, live_uncut, kept_by, kept_uncut}

-- ---- names that a DNAME redirects

pub record IsRedirector (z : Zone) (q d : Name) : Type 0 where
  pub redirects : has z d 39 ≡ true
  pub live : is_live z d ≡ true
  pub above : strictly_above d q ≡ true

redirector : (z : Zone) (q : Name) → is_redirected z q ≡ true → (d : Name) × IsRedirector z q d
redirector z [] h = absurd (false≢true h)
redirector z (l ∷ q) h = elim (or_cases (has z q 39 && is_live z q) (is_redirected z q) h) [
  | inl b ↦ let both = and_parts (has z q 39) (is_live z q) b in (q, record { redirects = both.0; live = both.1; above = above_itself q })
  | inr b ↦ let r = redirector z q b in (r.0, record { redirects = r.1.redirects; live = r.1.live; above = strictly_at r.0 q r.1.above })
]

pub redirected_by : (z : Zone) (q d : Name) → low q ≡ q → IsRedirector z q d → is_redirected z q ≡ true
redirected_by z [] d lq k = absurd (false≢true k.above)
redirected_by z (l ∷ q) d lq k = elim (above_cases d q k.above) [
  | inl m ↦
      let is : d ≡ q = same_lowered d q (owner_lowered z d (has_owner z d 39 k.redirects)) (tail_low l q lq) m in
      or_left (has z q 39 && is_live z q) (is_redirected z q) (and_from _ _ (ap (λ n. has z n 39) (sym is) ∙ k.redirects) (ap (is_live z) (sym is) ∙ k.live))
  | inr m ↦ or_right (has z q 39 && is_live z q) (is_redirected z q) (redirected_by z q d (tail_low l q lq) (record { redirects = k.redirects; live = k.live; above = m }))
]

pub unredirected : (z : Zone) (q : Name) → ((d : Name) → IsRedirector z q d → ⊥) → is_redirected z q ≡ false
unredirected z q n = false_from_ne_true (is_redirected z q) (λ h. let r = redirector z q h in n r.0 r.1)

pub no_redirector : (z : Zone) (q d : Name) → low q ≡ q → is_redirected z q ≡ false → IsRedirector z q d → ⊥
no_redirector z q d lq n k = false≢true (sym n ∙ redirected_by z q d lq k)

-- what redirects a name beside the way to another name redirects that one
pub beside_unredirected : (z : Zone) (e q : Name) (l : List ℕ) → low q ≡ q → strictly_above e q ≡ true → is_redirected z q ≡ false → is_redirected z (l ∷ e) ≡ false
beside_unredirected z e q l lq a n = unredirected z (l ∷ e) (λ d r.
    no_redirector z q d lq n (record { redirects = r.redirects; live = r.live; above = at_strictly_above d e q r.above a }))

module _ (z : Zone) (s : IsOrderly z) where
  -- nothing of the zone stands below a DNAME
  pub none_below : (d w : Name) → has z d 39 ≡ true → In w (owners z) → strictly_above d w ≡ true → ⊥
  none_below d w h i a = false≢true (sym (s.childless d w h (contained (owners z) w i)) ∙ a)

  pub kept_unredirected : (ex : Bool) (q : Name) → kept z ex q ≡ true → is_redirected z q ≡ false
  kept_unredirected ex q h = unredirected z q (λ d r.
      let k : IsKeptBy z ex q = kept_by z ex q h in
      none_below d k.owner r.redirects k.inside (strictly_above_at d q k.owner r.above k.below))

  pub cut_unredirected : (q c : Name) → is_delegation z c ≡ true → is_live z c ≡ true → at_or_above c q ≡ true → is_redirected z q ≡ false
  cut_unredirected q c h l a = unredirected z q (λ d r.
      let ld : low d ≡ d = owner_lowered z d (has_owner z d 39 r.redirects) in
      let lc : low c ≡ c = delegation_low z c h in
      let other : c ≡ d → ⊥ = λ e. false≢true (sym (s.uncut d r.redirects) ∙ ap (is_delegation z) (sym e) ∙ h) in
      elim (above_either c d q a (strictly_at d q r.above)) [
        | inl up ↦ elim (above_cases c d up) [
          | inl m ↦ other (same_lowered c d lc ld m)
          | inr m ↦ live_uncut z d ld r.live c h m
        ]
        | inr down ↦ elim (above_cases d c down) [
          | inl m ↦ other (sym (same_lowered d c ld lc m))
          | inr m ↦ none_below d c r.redirects (delegation_owner z c h) m
        ]
      ])

  -- ---- CNAME

  -- an owner of the type that is asked for has no CNAME that answers in its place
  pub typed_no_alias : (o : Name) (t : ℕ) → has z o t ≡ true → has_alias z o t ≡ false
  typed_no_alias o t h = false_from_ne_true (has_alias z o t) (λ a.
      let both = and_parts (has z o 5) (not (t == 5)) a in
      false≢true (sym (not-true (t == 5) both.1) ∙ eq-eqb t 5 (s.alone o t both.0 h)))

pub no_alias : (z : Zone) (o : Name) (t : ℕ) → has z o 5 ≡ false → has_alias z o t ≡ false
no_alias z o t h = and_left (has z o 5) (not (t == 5)) h

no_cname : (z : Zone) (o : Name) (t : ℕ) → has_alias z o t ≡ false → (t == 5) ≡ false → has z o 5 ≡ false
no_cname z o t h n = elim (and_cases (has z o 5) (not (t == 5)) h) [
  | inl e ↦ e
  | inr e ↦ absurd (false≢true (sym e ∙ not_from_false (t == 5) n))
]

module _ (z : Zone) (q : Name) (t : ℕ) where
  -- from the delegation above the name, whether it exists, and its closest encloser
  abbrev pub own_alias : Option Name → Bool → Option Name → Bool
  own_alias c x e = elim c [
    | Some d ↦ false
    | None ↦ elim x [
      | true ↦ has_alias z q t
      | false ↦ elim e [ None ↦ false | Some n ↦ has_alias z (star_under n) t ]
    ]
  ]

  pub cut_unaliased : (c : Name) → cut z q ≡ Some c → has_own_alias z q t ≡ false
  cut_unaliased c e = ap (λ c. own_alias c (exists z q) (ce z q)) e

  pub there_unaliased : exists z q ≡ true → has_alias z q t ≡ false → has_own_alias z q t ≡ false
  there_unaliased x h = go (cut z q)
    where
      go : (c : Option Name) → own_alias c (exists z q) (ce z q) ≡ false
      go None = ap (λ b. own_alias None b (ce z q)) x ∙ h
      go (Some c) = refl

  pub star_unaliased : (e : Name) → exists z q ≡ false → ce z q ≡ Some e → has_alias z (star_under e) t ≡ false → has_own_alias z q t ≡ false
  star_unaliased e x c h = go (cut z q)
    where
      go : (c : Option Name) → own_alias c (exists z q) (ce z q) ≡ false
      go None = (λ i. own_alias None (x i) (c i)) ∙ h
      go (Some c) = refl

  -- a name that exists and is no alias has no CNAME
  pub there_no_cname : IsOrderly z → low q ≡ q → exists z q ≡ true → has_own_alias z q t ≡ false → (t == 5) ≡ false → has z q 5 ≡ false
  there_no_cname s lq x h n = go (cut z q) refl h
    where
      go : (c : Option Name) → cut z q ≡ c → own_alias c (exists z q) (ce z q) ≡ false → has z q 5 ≡ false
      go None e h = no_cname z q t (sym (ap (λ b. own_alias None b (ce z q)) x) ∙ h) n
      go (Some c) e h =
          let k : IsCut z q c = cut_is z q c lq e in
          elim (above_cases c q k.above) [
            | inl m ↦ cut_no_cname z s q (ap (is_delegation z) (sym (same_lowered c q (delegation_low z c k.delegation) lq m)) ∙ k.delegation)
            | inr m ↦ absurd (kept_uncut z false q x c k.delegation m)
          ]

  -- nor has the wildcard of one that does not exist
  pub star_no_cname : (e : Name) → cut z q ≡ None → exists z q ≡ false → ce z q ≡ Some e → has_own_alias z q t ≡ false → (t == 5) ≡ false → has z (star_under e) 5 ≡ false
  star_no_cname e u x c h n = no_cname z (star_under e) t (sym (λ i. own_alias (u i) (x i) (c i)) ∙ h) n

-- ---- both

pub unaliased : (z : Zone) (ex : Bool) (name : Name) (t : ℕ) → is_redirected z (low name) ≡ false → (is_open z ex (low name) ≡ false → has_own_alias z (low name) t ≡ false) → is_aliased z ex name t ≡ false
unaliased z ex name t r f = or_from (is_redirected z (low name)) _ r (own (is_open z ex (low name)) refl)
  where
    own : (o : Bool) → is_open z ex (low name) ≡ o → (not (is_open z ex (low name)) && has_own_alias z (low name) t) ≡ false
    own true o = ap (λ b. not b && has_own_alias z (low name) t) o
    own false o = ap (λ b. not b && has_own_alias z (low name) t) o ∙ f o

-- what holds of a name that is no alias
pub record IsUnaliased (z : Zone) (ex : Bool) (q : Name) (t : ℕ) : Type 0 where
  pub unredirected : is_redirected z q ≡ false
  pub own : is_open z ex q ≡ false → has_own_alias z q t ≡ false

pub unaliased_parts : (z : Zone) (ex : Bool) (name : Name) (t : ℕ) → is_aliased z ex name t ≡ false → IsUnaliased z ex (low name) t
unaliased_parts z ex name t h =
    let both = or_parts (is_redirected z (low name)) (not (is_open z ex (low name)) && has_own_alias z (low name) t) h in
    record { unredirected = both.0; own = λ o. sym (ap (λ b. not b && has_own_alias z (low name) t) o) ∙ both.1 }
