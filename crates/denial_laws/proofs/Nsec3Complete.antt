-- A zone's own answer with NSEC3 records decides its verdict of a name that is no alias.
use Rattle.std.proofs.Common.{◌≡◌, ℕ, ◌<◌, Bool, true, false, ◌&&◌, not, List, [], ◌∷◌, length, Option, Some, None, refl, sym, ap, subst, ◌∙◌, ◌⊎◌, inl, inr}
use Rattle.std.specs.Prelude.{◌==◌, IfSome}
use Rattle.std.proofs.lemmas.Bool.{and_parts, and_from, and_left, not-true, false≢true, false_from_ne_true}
use Rattle.definitions.specs.Name.{Name, low, labels_eq, at_or_above}
use Rattle.definitions.specs.Zone.{Zone, Verdict, Records, NoType, NoName, StarRecords, StarNoType, Delegated, Open, apex_of, has, is_delegation, cut, kept, exists, ce, kept_cut_above, data_at, star_under, is_open, verdict}
use Rattle.definitions.specs.Signing.{label_count}
use Rattle.definitions.specs.ZoneChain.{Nsec3}
use Rattle.definitions.proofs.Members.{In}
use Rattle.definitions.proofs.NameLaws.{labels_decide}
use Rattle.definitions.proofs.VerdictCases.{said, verdict-said, verdict-open}
use Rattle.definitions.proofs.ZoneNames.{low-low, above_lowered, lowered_above, same_lowered, apex_in_chain}
use Rattle.denial_laws.specs.Facts.{Rrset, HashLink, Facts, is_expanded}
use Rattle.denial_laws.specs.NsecRules.{denied, expanded}
use Rattle.denial_laws.specs.Nsec3Rules.{hash_denied, hash_expanded}
use Rattle.denial_laws.specs.Deciding.{by_chain, by_wildcard, decided_inside, decided}
use Rattle.denial_laws.specs.OwnFacts.{kept_ancestor, next_closer, spoken, own_star, own_rrset, own_facts}
use Rattle.denial_laws.specs.Truth.{IsServable, IsTrueRrset, AreTrue, NoSharedHash, is_signed}
use Rattle.denial_laws.specs.Laws.{is_asked_type}
use Rattle.denial_laws.proofs.NameFacts.{same_names, names_same, above_cases, strictly_at, strictly_from, strictly_unlike, strictly_lowered, star_below}
use Rattle.denial_laws.proofs.KeptAncestor.{IsKeptParent, kept_parent, kept_encloser, ancestor_lowered}
use Rattle.denial_laws.proofs.AtName.{Answers}
use Rattle.denial_laws.proofs.Nsec3Own.{no_type_answers, cut_at_answers, cut_above_answers, gap_denied, star_answers, expanded_answers}
use Rattle.denial_laws.proofs.ChainSays.{chains_say_truly}
use Rattle.denial_laws.proofs.Nsec3Sound.{sound_hashed}
use Rattle.denial_laws.proofs.Nsec3Wildcard.{signed_star_kept}
use Rattle.denial_laws.proofs.OwnHashes.{own, own_true, own_speaks}
use Rattle.denial_laws.proofs.OwnRrset.{starred, own_whole, own_records_true, own_expanded, own_star_true, own_star_is}
use Rattle.denial_laws.proofs.VerdictView.{View, Signed, Missing, Cut, Starred, Unstarred, Gone, view, star_uncut}
use Rattle.denial_laws.proofs.ChainBits.{asked_no_cname}
use Rattle.denial_laws.proofs.Unaliased.{IsUnaliased, no_redirector, there_no_cname, star_no_cname}
use Rattle.denial_laws.proofs.Verdicts.{verdict_delegated}
use Rattle.denial_laws.proofs.ZoneCuts.{IsCut, IsEncloser, IsBelowKeptCut, delegation_owner, delegation_low, cut_is, cut_live, cut_from, uncut_live, kept_live, kept_inside, kept_lowered, kept_up, kept_exists, kept_uncut, owner_kept, below_cut, ce_encloses}

-- ---- what is decided, from what the facts hold

module _ (z : Zone) (hash : Name → List ℕ) (q : Name) (t : ℕ) (inside : at_or_above z.name q ≡ true) (f : Facts) where
  from_inside : Answers (decided_inside z.name hash f q t) → Answers (decided z.name hash f q t)
  from_inside a = (a.0, ap (λ b. elim b as (λ _. Option Verdict) [ true ↦ decided_inside z.name hash f q t | false ↦ None ]) inside ∙ a.1)

  some_links : (fs : List HashLink) (l : HashLink) (o r : Option Verdict) → In l fs → (elim fs as (λ _. Option Verdict) [ [] ↦ o | _ ∷ _ ↦ r ]) ≡ r
  some_links [] l o r i = absurd i
  some_links (x ∷ xs) l o r i = refl

  abbrev of_rrset : Option Rrset → Option Verdict
  of_rrset o = elim o [
    | None ↦ by_chain z.name hash f q t
    | Some r ↦ elim (is_expanded r q) [ false ↦ Some (Records r.datas) | true ↦ by_wildcard z.name hash f r q ]
  ]

  decided_chain : f.rrset ≡ None → (l : HashLink) → In l f.hash_links → Answers (hash_denied z.name hash q t f.hash_links) → Answers (decided z.name hash f q t)
  decided_chain e l i a = from_inside (a.0, ap of_rrset e ∙ some_links f.hash_links l (denied z.name q t f.links) (hash_denied z.name hash q t f.hash_links) i ∙ a.1)

  decided_whole : (r : Rrset) → f.rrset ≡ Some r → is_expanded r q ≡ false → Answers (decided z.name hash f q t)
  decided_whole r e x = from_inside (Records r.datas, ap of_rrset e ∙ ap (λ b. elim b as (λ _. Option Verdict) [ false ↦ Some (Records r.datas) | true ↦ by_wildcard z.name hash f r q ]) x)

  decided_star : (r : Rrset) → f.rrset ≡ Some r → is_expanded r q ≡ true → (l : HashLink) → In l f.hash_links → Answers (hash_expanded hash q r f.hash_links) → Answers (decided z.name hash f q t)
  decided_star r e x l i a = from_inside (
    a.0,
    ap of_rrset e
        ∙ ap (λ b. elim b as (λ _. Option Verdict) [ false ↦ Some (Records r.datas) | true ↦ by_wildcard z.name hash f r q ]) x
        ∙ some_links f.hash_links l (expanded z.name q r f.links) (hash_expanded hash q r f.hash_links) i
        ∙ a.1,
  )

-- ---- what is not left open

closed_cases : (o k c : Bool) → (o && not k && not c) ≡ false → (o ≡ false) ⊎ ((k ≡ true) ⊎ (c ≡ true))
closed_cases false k c h = inl refl
closed_cases true true c h = inr (inl refl)
closed_cases true false true h = inr (inr refl)
closed_cases true false false h = absurd (false≢true (sym h))

closed_verdict : (z : Zone) (ex : Bool) (q : Name) (t : ℕ) → is_open z ex (low q) ≡ false → verdict z ex q t ≡ verdict z false q t
closed_verdict z ex q t o = verdict-said z ex q (low q) t refl ∙ ap (λ b. said z (low q) t b (cut z (low q)) (exists z (low q)) (ce z (low q))) o ∙ sym (verdict-said z false q (low q) t refl)

-- ---- a zone's own answer

module _ (z : Zone) (hash : Name → List ℕ) (iterations : ℕ) (salt : List ℕ) (ex : Bool) (q : Name) (t : ℕ) (s : IsServable z) (l : t < 65536) (asked : is_asked_type t ≡ true) (apart : NoSharedHash z hash (Nsec3 iterations salt ex) q) (inside : at_or_above (apex_of z) q ≡ true) (u : IsUnaliased z ex (low q) t) where
  abbrev qs : Verdict → List Name
  qs v = spoken z (Nsec3 iterations salt ex) (low q) (verdict z false q t) v

  -- the facts of an answer that is made for a verdict
  abbrev facts : Verdict → Facts
  facts v = record { rrset = own_rrset z q t v; links = []; hash_links = own z hash ex s apart.0 iterations salt (qs v) }

  abbrev Decides : Verdict → Type 0
  Decides v = Answers (decided z.name hash (facts v) q t)

  within : at_or_above z.name q ≡ true
  within = sym (lowered_above z.name q) ∙ inside

  low_inside : at_or_above (apex_of z) (low q) ≡ true
  low_inside = above_lowered (apex_of z) q ∙ inside

  by_records : (v : Verdict) → own_rrset z q t v ≡ None → (x : Name) → In x (qs v) → Answers (hash_denied z.name hash q t (own z hash ex s apart.0 iterations salt (qs v))) → Decides v
  by_records v e x i a =
      let some = own_speaks z hash ex s apart.0 iterations salt (qs v) x i in
      decided_chain z hash q t within (facts v) e some.link some.inside a

  records_decide : (ds : List (List ℕ)) → Decides (Records ds)
  records_decide ds = decided_whole z hash q t within (facts (Records ds)) (record { datas = ds; labels = label_count q }) refl (own_whole z q t)

  no_type_decides : kept z ex q ≡ true → has z (low q) t ≡ false → has z (low q) 5 ≡ false → Decides NoType
  no_type_decides k h c = by_records NoType refl (low q) (inl refl) (no_type_answers z hash ex s iterations salt q t l asked apart inside (qs NoType) (inl refl) k h c)

  delegated_decides : (c : Name) → cut z (low q) ≡ Some c → is_delegation z c ≡ true → kept z ex c ≡ true → at_or_above c (low q) ≡ true → (labels_eq c (low q) && (t == 43)) ≡ false → Decides Delegated
  delegated_decides c e d k a n =
      let listed : In c (qs Delegated) = subst (λ (o : Option Name). In c (elim o as (λ _. List Name) [ None ↦ [] | Some c ↦ c ∷ [] ])) (sym e) (inl refl) in
      by_records Delegated refl c listed (elim (above_cases c q (sym (above_lowered c q) ∙ a)) [
        | inl m ↦
            let is : c ≡ low q = sym (delegation_low z c d) ∙ same_names c q m in
            let other : (t == 43) ≡ false = ap (λ b. b && (t == 43)) (sym ((labels_decide c (low q)).1 is)) ∙ n in
            cut_at_answers z hash ex s iterations salt q t l asked apart inside (qs Delegated) (subst (λ n. In n (qs Delegated)) is listed) (sym (kept_lowered z ex q) ∙ ap (kept z ex) (sym is) ∙ k) (ap (is_delegation z) (sym is) ∙ d) other
        | inr m ↦ cut_above_answers z hash ex s iterations salt q t l asked apart inside (qs Delegated) c d k m listed
      ])

  -- ---- names that are not kept

  abbrev parent : Name
  parent = kept_ancestor z ex (low q)

  parent_lowered : low parent ≡ parent
  parent_lowered = ancestor_lowered z ex (low q) (low-low q)

  at_name : (e : Name) → IsKeptParent z ex (low q) e → IsKeptParent z ex q e
  at_name e k = record { there = k.there; above = sym (strictly_lowered e q) ∙ k.above; longest = λ p h a. k.longest p h (strictly_lowered p q ∙ a) }

  has_parent : kept z ex q ≡ false → IsKeptParent z ex q parent
  has_parent gone =
      let there : kept z ex (apex_of z) ≡ true = apex_in_chain z ex s.apex in
      at_name parent (kept_parent z ex (low q) (apex_of z) there (strictly_from (apex_of z) (low q) low_inside (λ m.
      false≢true (sym gone ∙ sym (kept_lowered z ex q) ∙ ap (kept z ex) (sym (low-low q) ∙ sym (same_names (apex_of z) (low q) m) ∙ low-low z.name) ∙ there))))

  -- it has no DNAME, which would redirect the name
  plain_parent : kept z ex q ≡ false → has z parent 39 ≡ false
  plain_parent gone = false_from_ne_true (has z parent 39) (λ d.
      let k : IsKeptParent z ex q parent = has_parent gone in
      no_redirector z (low q) parent (low-low q) u.unredirected (record {
        redirects = d;
        live = uncut_live z parent parent_lowered (kept_inside z ex parent k.there) (kept_uncut z ex parent k.there);
        above = strictly_lowered parent q ∙ k.above;
      }))

  open_decides : ex ≡ true → kept z ex q ≡ false → own_rrset z q t Open ≡ None → Decides Open
  open_decides y gone e =
      by_records Open e parent (inl refl) (gap_denied z hash ex s iterations salt q t l asked apart inside (qs Open) parent parent_lowered (plain_parent gone) (has_parent gone) gone (inl refl) (inr (inl refl)) (inl y))

  abbrev StarLacks : Type 0
  StarLacks = ((kept z ex (star_under parent) ≡ true) × (has z (star_under parent) t ≡ false) × (has z (star_under parent) 5 ≡ false)) ⊎ (kept z ex (star_under parent) ≡ false)

  no_name_decides : kept z ex q ≡ false → StarLacks → Decides NoName
  no_name_decides gone c =
      by_records NoName refl parent (inl refl) (gap_denied z hash ex s iterations salt q t l asked apart inside (qs NoName) parent parent_lowered (plain_parent gone) (has_parent gone) gone (inl refl) (inr (inl refl))
      (inr (λ p is. star_answers z hash ex s iterations salt q t l asked apart inside (qs NoName) parent (has_parent gone) p is (inr (inr (inl refl))) c)))

  star_no_type_decides : kept z ex q ≡ false → StarLacks → Decides StarNoType
  star_no_type_decides gone c =
      by_records StarNoType refl parent (inl refl) (gap_denied z hash ex s iterations salt q t l asked apart inside (qs StarNoType) parent parent_lowered (plain_parent gone) (has_parent gone) gone (inl refl) (inr (inl refl))
      (inr (λ p is. star_answers z hash ex s iterations salt q t l asked apart inside (qs StarNoType) parent (has_parent gone) p is (inr (inr (inl refl))) c)))

  star_decides : (v : Verdict) (e : Name) → own_rrset z q t v ≡ Some (starred z e t) → is_expanded (starred z e t) q ≡ true → parent ≡ e → kept z ex q ≡ false → In (next_closer parent (low q)) (qs v) → Decides v
  star_decides v e r x is gone i =
      let some = own_speaks z hash ex s apart.0 iterations salt (qs v) (next_closer parent (low q)) i in
      decided_star z hash q t within (facts v) (starred z e t) r x some.link some.inside
      (expanded_answers z hash ex s iterations salt q t l asked apart inside (qs v) (starred z e t) parent parent_lowered (ap length (sym is)) (has_parent gone) gone i)

  -- ---- the closest encloser is the longest kept ancestor where it is kept

  star_parent : (e : Name) → ce z (low q) ≡ Some e → is_signed z (star_under e) t ≡ true → parent ≡ e
  star_parent e c h =
      let r : IsEncloser z (low q) e = ce_encloses z (low q) e c in
      kept_encloser z ex (low q) e (low-low q) c (kept_up z ex e (star_under e) (signed_star_kept z s ex (star_under e) t refl h) (strictly_at e (star_under e) (star_below e)) (kept_inside z false e r.there))

  not_kept : exists z (low q) ≡ false → kept z ex q ≡ false
  not_kept x = false_from_ne_true (kept z ex q) (λ h. false≢true (sym x ∙ kept_lowered z false q ∙ kept_exists z ex q h))

  -- ---- what is not left open

  -- a name below a kept delegation is delegated
  below_delegated : kept_cut_above z ex (low q) ≡ true → verdict z ex q t ≡ Delegated
  below_delegated h =
      let k : IsBelowKeptCut z ex (low q) = below_cut z ex (low q) h in
      verdict_delegated z ex q k.cut t k.delegation k.kept (strictly_at k.cut (low q) k.above) (and_left (labels_eq k.cut (low q)) (t == 43) (false_from_ne_true (labels_eq k.cut (low q)) (λ m.
      strictly_unlike k.cut (low q) k.above (names_same k.cut (low q) (ap low ((labels_decide k.cut (low q)).0 m))))))

  -- where a name does not exist, and is not below a delegation, nothing is excluded
  plain_zone : is_open z ex (low q) ≡ false → exists z (low q) ≡ false → (verdict z ex q t ≡ Delegated → ⊥) → ex ≡ false
  plain_zone o x n = elim (closed_cases ex (kept z ex (low q)) (kept_cut_above z ex (low q)) o) [
    | inl e ↦ e
    | inr r ↦ elim r [
      | inl k ↦ absurd (false≢true (sym x ∙ kept_exists z ex (low q) k))
      | inr c ↦ absurd (n (below_delegated c))
    ]
  ]

  existing_kept : is_open z ex (low q) ≡ false → exists z (low q) ≡ true → kept z ex q ≡ true
  existing_kept o x = elim (closed_cases ex (kept z ex (low q)) (kept_cut_above z ex (low q)) o) [
    | inl e ↦ sym (kept_lowered z ex q) ∙ ap (λ b. kept z b (low q)) e ∙ x
    | inr r ↦ elim r [
      | inl k ↦ sym (kept_lowered z ex q) ∙ k
      | inr c ↦ let k : IsBelowKeptCut z ex (low q) = below_cut z ex (low q) c in absurd (kept_uncut z false (low q) x k.cut k.delegation k.above)
    ]
  ]

  cut_kept : is_open z ex (low q) ≡ false → (c : Name) → cut z (low q) ≡ Some c → IsCut z (low q) c → kept z ex c ≡ true
  cut_kept o c e k = elim (closed_cases ex (kept z ex (low q)) (kept_cut_above z ex (low q)) o) [
    | inl f ↦ ap (λ b. kept z b c) f ∙ owner_kept z false c (delegation_owner z c k.delegation) (and_from _ _ (cut_live z (low q) c k) refl)
    | inr r ↦ elim r [
      | inl h ↦ elim (above_cases c (low q) k.above) [
        | inl m ↦ ap (kept z ex) (same_lowered c (low q) (delegation_low z c k.delegation) (low-low q) m) ∙ h
        | inr m ↦ absurd (kept_uncut z ex (low q) h c k.delegation m)
      ]
      | inr h ↦
          let b : IsBelowKeptCut z ex (low q) = below_cut z ex (low q) h in
          let top : Some b.cut ≡ Some c = sym (cut_from z (low q) b.cut (low-low q) b.delegation (kept_live z ex b.cut b.kept) (strictly_at b.cut (low q) b.above)) ∙ e in
          let is : b.cut ≡ c = cc in
          ap (kept z ex) (sym is) ∙ owner_kept z ex b.cut (delegation_owner z b.cut b.delegation) b.kept
    ]
  ]

  -- ---- each case

  -- the RRset is true, and a rule answers
  abbrev Good : Verdict → Type 0
  Good v = IfSome (own_rrset z q t v) (IsTrueRrset z q t) × Decides v

  closed_good : is_open z ex (low q) ≡ false → View z q t → Good (verdict z ex q t)
  closed_good o w = go w
    where
      same : verdict z ex q t ≡ verdict z false q t
      same = closed_verdict z ex q t o

      go : View z q t → Good (verdict z ex q t)
      go (Signed h v) = subst Good (sym (same ∙ v)) (own_records_true z q t h, records_decide (data_at z (low q) t))
      go (Missing x h v) = subst Good (sym (same ∙ v)) (tt, no_type_decides (existing_kept o x) h (there_no_cname z (low q) t s.aliases (low-low q) x (u.own o) (asked_no_cname t asked)))
      go (Cut c e n v) =
          let k : IsCut z (low q) c = cut_is z (low q) c (low-low q) e in
          subst Good (sym (same ∙ v)) (tt, delegated_decides c e k.delegation (cut_kept o c e k) k.above n)
      go (Starred e x c h v) = subst Good (sym (same ∙ v)) (
        subst (λ r. IfSome r (IsTrueRrset z q t)) (sym (own_star_is z q e t x c h)) (own_star_true z q e t x c h),
        star_decides (StarRecords (data_at z (star_under e) t)) e (own_star_is z q e t x c h) (own_expanded z q e t x c h) (star_parent e c h) (not_kept x) (inl refl),
      )
      go (Unstarred e x c y h v) =
          let plain : ex ≡ false = plain_zone o x (λ d. let wrong : Delegated ≡ StarNoType = sym d ∙ same ∙ v in cc) in
          let r : IsEncloser z (low q) e = ce_encloses z (low q) e c in
          let is : parent ≡ e = kept_encloser z ex (low q) e (low-low q) c (ap (λ b. kept z b e) plain ∙ r.there) in
          let c5 : has z (star_under e) 5 ≡ false = star_no_cname z (low q) t e (star_uncut z q t v) x c (u.own o) (asked_no_cname t asked) in
          subst Good (sym (same ∙ v)) (
            tt,
            star_no_type_decides (not_kept x) (inl (
              ap (λ b. kept z b (star_under parent)) plain ∙ ap (λ n. exists z (star_under n)) is ∙ y,
              ap (λ n. has z (star_under n) t) is ∙ h,
              ap (λ n. has z (star_under n) 5) is ∙ c5,
            )),
          )
      go (Gone e x c y v) =
          let plain : ex ≡ false = plain_zone o x (λ d. let wrong : Delegated ≡ NoName = sym d ∙ same ∙ v in cc) in
          let r : IsEncloser z (low q) e = ce_encloses z (low q) e c in
          let is : parent ≡ e = kept_encloser z ex (low q) e (low-low q) c (ap (λ b. kept z b e) plain ∙ r.there) in
          subst Good (sym (same ∙ v)) (tt, no_name_decides (not_kept x) (inr (ap (λ b. kept z b (star_under parent)) plain ∙ ap (λ n. exists z (star_under n)) is ∙ y)))

  open_good : ex ≡ true → kept z ex q ≡ false → View z q t → Good Open
  open_good y gone w = go w
    where
      nothing : (v : Verdict) → verdict z false q t ≡ v → own_star z q v ≡ None → Good Open
      nothing v e n =
          let none : own_rrset z q t Open ≡ None = ap (own_star z q) e ∙ n in
          (subst (λ r. IfSome r (IsTrueRrset z q t)) (sym none) tt, open_decides y gone none)

      go : View z q t → Good Open
      go (Signed h v) = nothing (Records (data_at z (low q) t)) v refl
      go (Missing x h v) = nothing NoType v refl
      go (Cut c e n v) = nothing Delegated v refl
      go (Starred e x c h v) =
          let some : own_rrset z q t Open ≡ Some (starred z e t) = ap (own_star z q) v ∙ own_star_is z q e t x c h in (
            subst (λ r. IfSome r (IsTrueRrset z q t)) (sym some) (own_star_true z q e t x c h),
            star_decides Open e some (own_expanded z q e t x c h) (star_parent e c h) gone (inr (inl refl)),
          )
      go (Unstarred e x c y h v) = nothing StarNoType v refl
      go (Gone e x c y v) = nothing NoName v refl

  good : (o : Bool) → is_open z ex (low q) ≡ o → Good (verdict z ex q t)
  good false o = closed_good o (view z s q t low_inside)
  good true o =
      let outer = and_parts (ex && not (kept z ex (low q))) (not (kept_cut_above z ex (low q))) o in
      let inner = and_parts ex (not (kept z ex (low q))) outer.0 in
      subst Good (sym (verdict-open z ex q (low q) t refl o)) (open_good inner.0 (sym (kept_lowered z ex q) ∙ not-true (kept z ex (low q)) inner.1) (view z s q t low_inside))

pub complete_hashed : (z : Zone) (hash : Name → List ℕ) (iterations : ℕ) (salt : List ℕ) (ex : Bool) (q : Name) (t : ℕ) → IsServable z → NoSharedHash z hash (Nsec3 iterations salt ex) q → t < 65536 → at_or_above (apex_of z) q ≡ true → is_asked_type t ≡ true → IsUnaliased z ex (low q) t
    → decided z.name hash (own_facts z hash (Nsec3 iterations salt ex) q t) q t ≡ Some (verdict z ex q t)
complete_hashed z hash iterations salt ex q t s apart l inside asked u =
    let g = good z hash iterations salt ex q t s l asked apart inside u (is_open z ex (low q)) refl in
    let true_facts : AreTrue z hash (Nsec3 iterations salt ex) q t (own_facts z hash (Nsec3 iterations salt ex) q t) = record {
      rrset = g.0;
      said = chains_say_truly z hash (Nsec3 iterations salt ex) q (own_facts z hash (Nsec3 iterations salt ex) q t) s apart
          (refl, own_true z hash ex s apart.0 iterations salt (spoken z (Nsec3 iterations salt ex) (low q) (verdict z false q t) (verdict z ex q t)));
    } in
    g.1.1 ∙ ap (λ v. Some v) (sound_hashed z hash iterations salt ex (own_facts z hash (Nsec3 iterations salt ex) q t) q t g.1.0 s l true_facts g.1.1).0
