-- Owners, delegations, kept names and the closest encloser of a zone: what holds of names above and below them.
use Rattle.std.proofs.Common.{◌≡◌, ℕ, ◌+◌, ◌<◌, ◌≤◌, Bool, true, false, ◌&&◌, not, List, [], ◌∷◌, length, Option, Some, None, refl, sym, ap, subst, ◌∙◌, ◌⊎◌, inl, inr, arith}
use Rattle.std.specs.Prelude.{if◌then◌else◌}
use Rattle.std.specs.List.{list_any}
use Rattle.std.specs.Option.{is_none}
use Rattle.std.specs.Str.{str_to_ascii_lowercase}
use Rattle.std.specs.Char.{to_ascii_lowercase}
use Rattle.std.specs.Cmp.Lexicographic.{bytes_decides}
use Rattle.std.proofs.lemmas.Bool.{and_parts, and_from, and_left, or_cases, or_left, or_right, false≢true, false_from_ne_true, cases_lt}
use Rattle.std.proofs.lemmas.Str.Ascii.{lowercase_is}
use Rattle.definitions.specs.Name.{Name, low, same, labels_eq, at_or_above, strictly_above}
use Rattle.definitions.specs.Zone.{Zone, owner_of, apex_of, owners, is_of, has, is_delegation, cut, is_live, is_kept, kept_owners, kept, exists, ce, kept_cut_above}
use Rattle.definitions.proofs.Members.{In, in_map, any_of, any_in, in_filter, filter_in}
use Rattle.definitions.proofs.NameLaws.{labels_decide}
use Rattle.definitions.proofs.ZoneNames.{above_lowered, lowered_above, same_lowered, above_longer, above_itself, owner_lowered}
use Rattle.denial_laws.specs.Truth.{IsServable, is_star, delegates_star}
use Rattle.denial_laws.proofs.NameFacts.{same_above, strictly_at, strictly_shorter, above_cases, above_trans, strictly_above_at, same_names, names_same}
use Rattle.denial_laws.proofs.ChainBits.{all_at}

pub tail_low : (l : List ℕ) (q : Name) → low (l ∷ q) ≡ l ∷ q → low q ≡ q
tail_low l q h = let e : low (l ∷ q) ≡ l ∷ q = h in cc

none_is : (c : Option Name) → is_none c ≡ true → c ≡ None
none_is None h = refl
none_is (Some n) h = absurd (false≢true h)

-- ---- wildcard names

asterisk : (c : ℕ) → to_ascii_lowercase c ≡ 42 → c ≡ 42
asterisk c h = elim (cases_lt c 65) [
  | inl l ↦ sym ((lowercase_is c).1 l) ∙ h
  | inr l ↦ elim (cases_lt 90 c) [
    | inl m ↦ sym ((lowercase_is c).2 m) ∙ h
    | inr m ↦ let e : to_ascii_lowercase c ≡ c + 32 = (lowercase_is c).0 (l, m) in absurd (omega arith)
  ]
]

star_label : (l : List ℕ) → str_to_ascii_lowercase l ≡ 42 ∷ [] → l ≡ 42 ∷ []
star_label [] h = absurd cc
star_label (c ∷ []) h = ap (λ c. c ∷ []) (asterisk c cc)
star_label (c ∷ d ∷ l) h = absurd cc

star_lowered : (n : Name) → is_star (low n) ≡ true → is_star n ≡ true
star_lowered [] h = h
star_lowered (l ∷ n) h = (bytes_decides l (42 ∷ [])).1 (star_label l ((bytes_decides (str_to_ascii_lowercase l) (42 ∷ [])).0 h))

-- ---- the topmost of delegations

abbrev first_cut : Option Name → Bool → Name → Option Name
first_cut c d q = elim c [ None ↦ (if d then Some q else None) | Some n ↦ Some n ]

none_first : (c : Option Name) (d : Bool) (q : Name) → first_cut c d q ≡ None → (c ≡ None) × (d ≡ false)
none_first None true q e = absurd cc
none_first None false q e = (refl, refl)
none_first (Some n) d q e = absurd cc

module _ (z : Zone) where
  -- ---- owners

  -- what has a type is an owner
  pub has_owner : (q : Name) (t : ℕ) → has z q t ≡ true → In q (owners z)
  has_owner q t h =
      let r = any_of (is_of q t) z.records h in
      let e : owner_of r.0 ≡ q = (labels_decide (owner_of r.0) q).0 (and_parts (labels_eq (owner_of r.0) q) _ r.1.1).0 in
      subst (λ n. In n (owners z)) e (in_map owner_of z.records r.0 r.1.0)

  pub delegation_owner : (d : Name) → is_delegation z d ≡ true → In d (owners z)
  delegation_owner d h = has_owner d 2 (and_parts (has z d 2) (strictly_above (apex_of z) d) h).0

  pub delegation_low : (d : Name) → is_delegation z d ≡ true → low d ≡ d
  delegation_low d h = owner_lowered z d (delegation_owner d h)

  delegation_inside : (d : Name) → is_delegation z d ≡ true → strictly_above (apex_of z) d ≡ true
  delegation_inside d h = (and_parts (has z d 2) (strictly_above (apex_of z) d) h).1

  -- no wildcard has NS, so none is a delegation
  pub no_star_ns : IsServable z → (s : Name) → is_star s ≡ true → has z s 2 ≡ false
  no_star_ns servable s star = false_from_ne_true (has z s 2) (λ h.
      let r = any_of (is_of s 2) z.records h in
      let both = and_parts (labels_eq (owner_of r.0) s) _ r.1.1 in
      let e : owner_of r.0 ≡ s = (labels_decide (owner_of r.0) s).0 both.0 in
      let bad : delegates_star r.0 ≡ true = and_from _ _ both.1 (star_lowered r.0.spelled (ap is_star e ∙ star)) in
      false≢true (sym (all_at (λ r. delegates_star r ≡ false) z.records r.0 servable.stars r.1.0) ∙ bad))

  pub no_star_cut : IsServable z → (s : Name) → is_star s ≡ true → is_delegation z s ≡ false
  no_star_cut servable s star = and_left (has z s 2) (strictly_above (apex_of z) s) (no_star_ns servable s star)

  -- ---- cuts

  -- no delegation is at or above a name, or strictly above it
  abbrev pub NoneAbove : Name → Type 0
  NoneAbove q = (d : Name) → is_delegation z d ≡ true → at_or_above d q ≡ true → ⊥

  abbrev pub NoneStrictlyAbove : Name → Type 0
  NoneStrictlyAbove q = (d : Name) → is_delegation z d ≡ true → strictly_above d q ≡ true → ⊥

  -- a delegation at or above a name, below all such delegations
  pub record IsCut (q c : Name) : Type 0 where
    pub delegation : is_delegation z c ≡ true
    pub above : at_or_above c q ≡ true
    pub topmost : (d : Name) → is_delegation z d ≡ true → at_or_above d q ≡ true → at_or_above c d ≡ true

  pub uncut : (q : Name) → low q ≡ q → cut z q ≡ None → NoneAbove q
  uncut [] lq e d h a =
      let inside : length (apex_of z) < length d = strictly_shorter (apex_of z) d (delegation_inside d h) in
      let short : length d ≤ length {A = List ℕ} [] = above_longer d [] a in
      absurd (omega arith)
  uncut (l ∷ q) lq e d h a =
      let none = none_first (cut z q) (is_delegation z (l ∷ q)) (l ∷ q) e in
      elim (or_cases (same d (l ∷ q)) (at_or_above d q) a) [
        | inl s ↦
            let is : d ≡ l ∷ q = same_lowered d (l ∷ q) (delegation_low d h) lq s in
            false≢true (sym none.1 ∙ ap (is_delegation z) (sym is) ∙ h)
        | inr b ↦ uncut q (tail_low l q lq) none.0 d h b
      ]

  cut_first : (l : List ℕ) (q c n : Name) → low (l ∷ q) ≡ l ∷ q → IsCut q n → n ≡ c → IsCut (l ∷ q) c
  cut_first l q c n lq k e = subst (IsCut (l ∷ q)) e (record {
    delegation = k.delegation;
    above = or_right (same n (l ∷ q)) (at_or_above n q) k.above;
    topmost = λ d h a. elim (or_cases (same d (l ∷ q)) (at_or_above d q) a) [
      | inl s ↦
          let is : d ≡ l ∷ q = same_lowered d (l ∷ q) (delegation_low d h) lq s in
          ap (at_or_above n) is ∙ or_right (same n (l ∷ q)) (at_or_above n q) k.above
      | inr b ↦ k.topmost d h b
    ];
  })

  pub cut_is : (q c : Name) → low q ≡ q → cut z q ≡ Some c → IsCut q c
  cut_is [] c lq e = absurd cc
  cut_is (l ∷ q) c lq e = go (cut z q) refl (is_delegation z (l ∷ q)) refl e (λ n f. cut_is q n (tail_low l q lq) f)
    where
      go : (o : Option Name) → cut z q ≡ o → (b : Bool) → is_delegation z (l ∷ q) ≡ b → first_cut o b (l ∷ q) ≡ Some c → ((n : Name) → cut z q ≡ Some n → IsCut q n) → IsCut (l ∷ q) c
      go (Some n) f b g e k = cut_first l q c n lq (k n f) cc
      go None f true g e k = let is : l ∷ q ≡ c = cc in subst (IsCut (l ∷ q)) is (record {
        delegation = g;
        above = above_itself (l ∷ q);
        topmost = λ d h a. elim (or_cases (same d (l ∷ q)) (at_or_above d q) a) [
          | inl s ↦ same_above (l ∷ q) d (names_same (l ∷ q) d (sym (same_names d (l ∷ q) s)))
          | inr b ↦ absurd (uncut q (tail_low l q lq) f d h b)
        ];
      })
      go None f false g e k = absurd cc

  pub uncut_from : (q : Name) → low q ≡ q → NoneAbove q → cut z q ≡ None
  uncut_from q lq n = go (cut z q) refl
    where
      go : (o : Option Name) → cut z q ≡ o → o ≡ None
      go None e = refl
      go (Some c) e = let k : IsCut q c = cut_is q c lq e in absurd (n c k.delegation k.above)

  -- ---- live names

  live_inside : (o : Name) → is_live z o ≡ true → at_or_above (apex_of z) o ≡ true
  live_inside o h = (and_parts (at_or_above (apex_of z) o) _ h).0

  pub live_uncut : (o : Name) → low o ≡ o → is_live z o ≡ true → NoneStrictlyAbove o
  live_uncut [] lo h d k a = absurd (false≢true a)
  live_uncut (l ∷ o) lo h d k a = uncut o (tail_low l o lo) (none_is (cut z o) (and_parts (at_or_above (apex_of z) (l ∷ o)) _ h).1) d k a

  pub uncut_live : (o : Name) → low o ≡ o → at_or_above (apex_of z) o ≡ true → NoneStrictlyAbove o → is_live z o ≡ true
  uncut_live [] lo a n = and_from _ _ a refl
  uncut_live (l ∷ o) lo a n = and_from _ _ a (ap (λ c. is_none c) (uncut_from o (tail_low l o lo) n))

  pub cut_live : (q c : Name) → IsCut q c → is_live z c ≡ true
  cut_live q c k = uncut_live c (delegation_low c k.delegation) (strictly_at (apex_of z) c (delegation_inside c k.delegation)) (λ d h a.
      let up : at_or_above c d ≡ true = k.topmost d h (above_trans d c q (strictly_at d c a) k.above) in
      let short : length d < length c = strictly_shorter d c a in
      let long : length c ≤ length d = above_longer c d up in
      omega arith)

  -- a live delegation is the cut of names at or below it
  pub cut_from : (q c : Name) → low q ≡ q → is_delegation z c ≡ true → is_live z c ≡ true → at_or_above c q ≡ true → cut z q ≡ Some c
  cut_from q c lq h l a = go (cut z q) refl
    where
      go : (o : Option Name) → cut z q ≡ o → o ≡ Some c
      go None e = absurd (uncut q lq e c h a)
      go (Some d) e =
          let k : IsCut q d = cut_is q d lq e in
          elim (above_cases d c (k.topmost c h a)) [
            | inl s ↦ ap (λ n. Some n) (same_lowered d c (delegation_low d k.delegation) (delegation_low c h) s)
            | inr s ↦ absurd (live_uncut c (delegation_low c h) l d k.delegation s)
          ]

  -- ---- kept owners

  pub kept_live : (ex : Bool) (o : Name) → is_kept z ex o ≡ true → is_live z o ≡ true
  kept_live ex o h = (and_parts (is_live z o) _ h).0

  not_excluded : (ex d h : Bool) → (d ≡ false) ⊎ (h ≡ true) → not (ex && d && not h) ≡ true
  not_excluded false d h c = refl
  not_excluded true true true c = refl
  not_excluded true true false c = elim c [ inl e ↦ absurd (false≢true (sym e)) | inr e ↦ absurd (false≢true e) ]
  not_excluded true false h c = refl

  pub live_kept : (ex : Bool) (o : Name) → is_live z o ≡ true → (is_delegation z o ≡ false) ⊎ (has z o 43 ≡ true) → is_kept z ex o ≡ true
  live_kept ex o h c = and_from _ _ h (not_excluded ex (is_delegation z o) (has z o 43) c)

  -- ---- kept names

  -- a kept owner at or below a name
  pub record IsKeptBy (ex : Bool) (q : Name) : Type 0 where
    pub owner : Name
    pub inside : In owner (owners z)
    pub kept : is_kept z ex owner ≡ true
    pub below : at_or_above q owner ≡ true
    pub apex : at_or_above (apex_of z) q ≡ true

  pub kept_by : (ex : Bool) (q : Name) → kept z ex q ≡ true → IsKeptBy ex q
  kept_by ex q h =
      let both = and_parts (at_or_above (apex_of z) q) _ h in
      let o = any_of (at_or_above q) (kept_owners z ex) both.1 in
      let i = filter_in (is_kept z ex) (owners z) o.0 o.1.0 in
      record { owner = o.0; inside = i.0; kept = i.1; below = o.1.1; apex = both.0 }

  pub by_kept : (ex : Bool) (q : Name) → IsKeptBy ex q → kept z ex q ≡ true
  by_kept ex q k =
      and_from _ _ k.apex (any_in (at_or_above q) (kept_owners z ex) k.owner (in_filter (is_kept z ex) (owners z) k.owner k.inside k.kept) k.below)

  pub kept_inside : (ex : Bool) (q : Name) → kept z ex q ≡ true → at_or_above (apex_of z) q ≡ true
  kept_inside ex q h = (kept_by ex q h).apex

  pub kept_lowered : (ex : Bool) (q : Name) → kept z ex (low q) ≡ kept z ex q
  kept_lowered ex q = λ i. above_lowered (apex_of z) q i && list_any (λ o. lowered_above q o i) (kept_owners z ex)

  -- the ancestors of a kept name, up to the apex, are kept
  pub kept_up : (ex : Bool) (p q : Name) → kept z ex q ≡ true → at_or_above p q ≡ true → at_or_above (apex_of z) p ≡ true → kept z ex p ≡ true
  kept_up ex p q h a i =
      let k : IsKeptBy ex q = kept_by ex q h in
      by_kept ex p (record { owner = k.owner; inside = k.inside; kept = k.kept; below = above_trans p q k.owner a k.below; apex = i })

  pub owner_kept : (ex : Bool) (o : Name) → In o (owners z) → is_kept z ex o ≡ true → kept z ex o ≡ true
  owner_kept ex o i h =
      by_kept ex o (record { owner = o; inside = i; kept = h; below = above_itself o; apex = live_inside o (kept_live ex o h) })

  pub kept_uncut : (ex : Bool) (q : Name) → kept z ex q ≡ true → NoneStrictlyAbove q
  kept_uncut ex q h d i a =
      let k : IsKeptBy ex q = kept_by ex q h in
      live_uncut k.owner (owner_lowered z k.owner k.inside) (kept_live ex k.owner k.kept) d i (strictly_above_at d q k.owner a k.below)

  is_live_kept : (o : Name) → is_live z o ≡ true → is_kept z false o ≡ true
  is_live_kept o h = and_from _ _ h refl

  pub kept_exists : (ex : Bool) (q : Name) → kept z ex q ≡ true → exists z q ≡ true
  kept_exists ex q h =
      let k : IsKeptBy ex q = kept_by ex q h in
      by_kept false q (record { owner = k.owner; inside = k.inside; kept = is_live_kept k.owner (kept_live ex k.owner k.kept); below = k.below; apex = k.apex })

  -- a delegation that is kept as a name is a kept owner
  pub kept_delegation : (ex : Bool) (d : Name) → is_delegation z d ≡ true → kept z ex d ≡ true → is_kept z ex d ≡ true
  kept_delegation ex d i h =
      let k : IsKeptBy ex d = kept_by ex d h in
      let lo : low k.owner ≡ k.owner = owner_lowered z k.owner k.inside in
      elim (above_cases d k.owner k.below) [
        | inl s ↦ ap (is_kept z ex) (same_lowered d k.owner (delegation_low d i) lo s) ∙ k.kept
        | inr s ↦ absurd (live_uncut k.owner lo (kept_live ex k.owner k.kept) d i s)
      ]

  -- a kept name that is no delegation is below none
  pub kept_none_above : (ex : Bool) (q : Name) → low q ≡ q → kept z ex q ≡ true → is_delegation z q ≡ false → NoneAbove q
  kept_none_above ex q lq h n d i a = elim (above_cases d q a) [
    | inl s ↦ false≢true (sym n ∙ ap (is_delegation z) (sym (same_lowered d q (delegation_low d i) lq s)) ∙ i)
    | inr s ↦ kept_uncut ex q h d i s
  ]

  -- ---- kept delegations above a name

  pub record IsBelowKeptCut (ex : Bool) (q : Name) : Type 0 where
    pub cut : Name
    pub delegation : is_delegation z cut ≡ true
    pub kept : is_kept z ex cut ≡ true
    pub above : strictly_above cut q ≡ true

  pub below_cut : (ex : Bool) (q : Name) → kept_cut_above z ex q ≡ true → IsBelowKeptCut ex q
  below_cut ex [] h = absurd (false≢true h)
  below_cut ex (l ∷ q) h = elim (or_cases (is_delegation z q && is_kept z ex q) (kept_cut_above z ex q) h) [
    | inl b ↦ let both = and_parts (is_delegation z q) (is_kept z ex q) b in record { cut = q; delegation = both.0; kept = both.1; above = above_itself q }
    | inr b ↦ let k : IsBelowKeptCut ex q = below_cut ex q b in record { cut = k.cut; delegation = k.delegation; kept = k.kept; above = strictly_at k.cut q k.above }
  ]

  pub cut_below : (ex : Bool) (q : Name) → low q ≡ q → IsBelowKeptCut ex q → kept_cut_above z ex q ≡ true
  cut_below ex [] lq k = k.above
  cut_below ex (l ∷ q) lq k = elim (above_cases k.cut q k.above) [
    | inl s ↦
        let is : k.cut ≡ q = same_lowered k.cut q (delegation_low k.cut k.delegation) (tail_low l q lq) s in
        or_left _ (kept_cut_above z ex q) (and_from _ _ (ap (is_delegation z) (sym is) ∙ k.delegation) (ap (is_kept z ex) (sym is) ∙ k.kept))
    | inr s ↦ or_right (is_delegation z q && is_kept z ex q) (kept_cut_above z ex q) (cut_below ex q (tail_low l q lq) (record { cut = k.cut; delegation = k.delegation; kept = k.kept; above = s }))
  ]

  -- ---- the closest encloser

  -- what exists, where the name one label longer on the way to a name does not
  pub ce_is : (l : List ℕ) (e q : Name) → low q ≡ q → low (l ∷ e) ≡ l ∷ e → at_or_above (l ∷ e) q ≡ true → exists z e ≡ true → exists z (l ∷ e) ≡ false → ce z q ≡ Some e
  ce_is l e [] lq le a x n = let long = above_longer (l ∷ e) [] a in absurd (omega arith)
  ce_is l e (m ∷ q) lq le a x n = elim (or_cases (same (l ∷ e) (m ∷ q)) (at_or_above (l ∷ e) q) a) [
    | inl s ↦
        let is : l ∷ e ≡ m ∷ q = same_lowered (l ∷ e) (m ∷ q) le lq s in
        let end : e ≡ q = cc in
        ap (λ b. if b then Some q else ce z q) (ap (exists z) (sym end) ∙ x) ∙ ap (λ n. Some n) (sym end)
    | inr b ↦
        let inside : at_or_above (apex_of z) (l ∷ e) ≡ true = or_right (same (apex_of z) (l ∷ e)) (at_or_above (apex_of z) e) (kept_inside false e x) in
        let gone : exists z q ≡ false = false_from_ne_true (exists z q) (λ h. false≢true (sym n ∙ kept_up false (l ∷ e) q h b inside)) in
        ap (λ b. if b then Some q else ce z q) gone ∙ ce_is l e q (tail_low m q lq) le b x n
  ]

  -- the closest encloser exists, and is above the name
  pub record IsEncloser (q e : Name) : Type 0 where
    pub there : exists z e ≡ true
    pub above : strictly_above e q ≡ true
    pub longest : (p : Name) → exists z p ≡ true → strictly_above p q ≡ true → at_or_above p e ≡ true

  pub ce_encloses : (q e : Name) → ce z q ≡ Some e → IsEncloser q e
  ce_encloses [] e h = absurd cc
  ce_encloses (l ∷ q) e h = go (exists z q) refl h (λ k. ce_encloses q e k)
    where
      go : (b : Bool) → exists z q ≡ b → (if b then Some q else ce z q) ≡ Some e → (ce z q ≡ Some e → IsEncloser q e) → IsEncloser (l ∷ q) e
      go true x h k = let is : q ≡ e = cc in subst (IsEncloser (l ∷ q)) is (record { there = x; above = above_itself q; longest = λ p y a. a })
      go false x h k =
          let r : IsEncloser q e = k h in
          record {
            there = r.there;
            above = strictly_at e q r.above;
            longest = λ p y a. elim (above_cases p q a) [
              | inl s ↦ absurd (false≢true (sym x ∙ sym (kept_lowered false q) ∙ ap (exists z) (sym (same_names p q s)) ∙ kept_lowered false p ∙ y))
              | inr s ↦ r.longest p y s
            ];
          }

-- the closest encloser of a name in lower case is in lower case
pub ce_lowered : (z : Zone) (q e : Name) → low q ≡ q → ce z q ≡ Some e → low e ≡ e
ce_lowered z [] e lq h = absurd cc
ce_lowered z (l ∷ q) e lq h = go (exists z q) h (λ k. ce_lowered z q e (tail_low l q lq) k)
  where
    go : (b : Bool) → (if b then Some q else ce z q) ≡ Some e → (ce z q ≡ Some e → low e ≡ e) → low e ≡ e
    go true h f = let is : q ≡ e = cc in ap low (sym is) ∙ tail_low l q lq ∙ is
    go false h f = f h
