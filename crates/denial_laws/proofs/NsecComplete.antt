-- A zone's own answer with NSEC records decides its verdict of a name that is no alias.
use Rattle.std.proofs.Common.{◌≡◌, ℕ, ◌<◌, Bool, true, false, ◌&&◌, not, List, [], ◌∷◌, length, Option, Some, None, refl, sym, ap, subst, ◌∙◌, inl, inr}
use Rattle.std.specs.Prelude.{◌==◌, IfSome}
use Rattle.std.proofs.lemmas.Bool.{and_from, and_cases, or_left, not_from_false, false≢true, false_from_ne_true, eq-eqb}
use Rattle.definitions.specs.Name.{Name, low, same, labels_eq, at_or_above, strictly_above}
use Rattle.definitions.specs.Covering.{covers}
use Rattle.definitions.specs.Bitmap.{bitmap}
use Rattle.definitions.specs.Zone.{Zone, Verdict, Records, NoType, NoName, StarRecords, StarNoType, Delegated, apex_of, has, is_delegation, cut, exists, ce, data_at, star_under, verdict}
use Rattle.definitions.specs.ZoneChain.{Nsec, nsec_names, nsec_next, nsec_types}
use Rattle.definitions.proofs.Members.{In}
use Rattle.definitions.proofs.NameLaws.{labels_decide}
use Rattle.definitions.proofs.ChainSpeaks.{all_from}
use Rattle.definitions.proofs.ZoneNames.{above_itself, above_lowered, lowered_above, same-length, low-low, same_lowered, owner_in_chain}
use Rattle.denial_laws.specs.Aliases.{is_redirected}
use Rattle.denial_laws.specs.Facts.{Rrset, Link, Facts}
use Rattle.denial_laws.specs.NsecRules.{first_some, or_else, has_more, tells, denies, is_cut, lacks, star_lacks, at_name, at_owner, below_cut, link_covers, closest, at_star, covered, denied, encloses_at, expanded_by, expanded}
use Rattle.denial_laws.specs.Deciding.{decided_inside, decided}
use Rattle.denial_laws.specs.OwnFacts.{spoken, link_of, own_rrset, own_links, own_facts}
use Rattle.denial_laws.specs.Truth.{Concerns, IsServable, IsTrueLink, IsTrueRrset, ShowsTypes, SaysTruly, AreTrue, is_star}
use Rattle.denial_laws.specs.Laws.{is_asked_type}
use Rattle.denial_laws.proofs.NameFacts.{names_same, same-low, before_unlike, strictly-low, strictly_lowered, above_cases, strictly_at}
use Rattle.denial_laws.proofs.AtName.{Answers, lacks_from, star_lacks_from, cut_answers, lack_answers}
use Rattle.denial_laws.proofs.KeptAncestor.{kept_encloser}
use Rattle.denial_laws.proofs.BareTypes.{nsec_more}
use Rattle.denial_laws.proofs.ChainBits.{nsec_shows, nsec_lacks, cut_test, asked_no_cname}
use Rattle.denial_laws.proofs.ZoneCuts.{IsCut, ce_encloses, ce_lowered, delegation_owner, delegation_low, cut_is, cut_live}
use Rattle.denial_laws.proofs.Found.{first_is, left_is, right_is}
use Rattle.denial_laws.proofs.HashChain.{concerns_name, concerns_star}
use Rattle.denial_laws.proofs.Adjacent.{Covered, chain_inside}
use Rattle.denial_laws.proofs.NsecEncloser.{Encloser, encloser, owner_exists}
use Rattle.denial_laws.proofs.ChainSays.{link_says, chains_say_truly}
use Rattle.denial_laws.proofs.NsecCovered.{cover, covering, exists_covered, apex_above, tells_cut}
use Rattle.denial_laws.proofs.NsecSound.{sound_links}
use Rattle.denial_laws.proofs.VerdictView.{View, Signed, Missing, Cut, Starred, Unstarred, Gone, view, star_uncut}
use Rattle.denial_laws.proofs.Unaliased.{IsUnaliased, beside_unredirected, there_no_cname, star_no_cname}
use Rattle.denial_laws.proofs.OwnRrset.{named, starred, own_whole, own_records_true, own_expanded, own_star_true, own_star_is}
use Rattle.denial_laws.proofs.OwnLinks.{Speaks, own_link_true, own_links_true, listed, speaker, own_covers}

-- the type is not there, and no CNAME
abbrev LacksBoth : Zone → Name → ℕ → Type 0
LacksBoth z o t = (has z o t ≡ false) × (has z o 5 ≡ false)

module _ (z : Zone) (s : IsServable z) (q : Name) (t : ℕ) (l : t < 65536) (k : is_asked_type t ≡ true) (u : IsUnaliased z false (low q) t) where
  -- bits of a name that lacks the type
  own_lacks : (o : Name) → LacksBoth z o t → lacks (bitmap (nsec_types z true o)) t ≡ true
  own_lacks o h = lacks_from z o (bitmap (nsec_types z true o)) t l k (nsec_shows z s o) (nsec_lacks z s o) h.0 h.1

  -- bits of a wildcard that lacks it
  star_lacking : (o : Name) → is_star o ≡ true → LacksBoth z o t → star_lacks (bitmap (nsec_types z true o)) t ≡ true
  star_lacking o w h = star_lacks_from z s o (bitmap (nsec_types z true o)) t w l k (nsec_shows z s o) (nsec_lacks z s o) h.0 h.1

  says : (o : Name) → In o (nsec_names z) → SaysTruly z q (link_of z o)
  says o i = link_says z s q (link_of z o) (own_link_true z s o i)

  asked : at_or_above (apex_of z) (low q) ≡ true → Concerns z q q
  asked a = concerns_name (apex_of z) q q (sym (above_lowered (apex_of z) q) ∙ a) (above_itself q)

  -- ---- a record of the name

  at_owner_is : (o : Name) → In o (nsec_names z) → o ≡ low q → at_owner z.name q t (link_of z o) ≡ at_name z.name q t (bitmap (nsec_types z true o))
  at_owner_is o i e =
      let told : tells (link_of z o) ≡ true = or_left (has_more (bitmap (nsec_types z true o))) _ (nsec_more z s o i) in
      ap (λ b. elim b as (λ _. Option Verdict) [ true ↦ at_name z.name q t (bitmap (nsec_types z true o)) | false ↦ None ]) (and_from (same o q) (tells (link_of z o)) (names_same o q (ap low e ∙ low-low q)) told)

  matched : (o : Name) → In o (nsec_names z) → o ≡ low q → LacksBoth z o t → Answers (at_owner z.name q t (link_of z o))
  matched o i e h = let w = lack_answers z.name q t (bitmap (nsec_types z true o)) (own_lacks o h) in (w.0, at_owner_is o i e ∙ w.1)

  -- ---- a record that covers a wildcard

  -- what a record says of a wildcard: whether it matches, lacks the type, covers, and has its next name below
  abbrev star_case : Bool → Bool → Bool → Bool → Option Verdict
  star_case m k c b = elim m [
    | true ↦ elim k [ true ↦ Some StarNoType | false ↦ None ]
    | false ↦ elim c [ true ↦ elim b [ true ↦ Some StarNoType | false ↦ Some NoName ] | false ↦ None ]
  ]

  star_beside : (o : Name) → In o (nsec_names z) → (n : Name) → Concerns z q (star_under n) → link_covers z.name (link_of z o) (star_under n) ≡ true → Answers (at_star z.name (star_under n) t (link_of z o))
  star_beside o i n w c = go (strictly_above (star_under n) (nsec_next z o)) refl
    where
      reach : Covered z (low o) (low (nsec_next z o)) (low (star_under n))
      reach = cover z s (link_of z o) (says o i) (star_under n) w c

      unlike : same o (star_under n) ≡ false
      unlike = false_from_ne_true (same o (star_under n)) (λ e. before_unlike (low o) (low (star_under n)) reach.before (same-low o (star_under n) ∙ e))

      go : (d : Bool) → strictly_above (star_under n) (nsec_next z o) ≡ d → Answers (at_star z.name (star_under n) t (link_of z o))
      go true e = (StarNoType, (λ i. star_case (unlike i) (star_lacks (bitmap (nsec_types z true o)) t && has_more (bitmap (nsec_types z true o))) (c i) (e i)))
      go false e = (NoName, (λ i. star_case (unlike i) (star_lacks (bitmap (nsec_types z true o)) t && has_more (bitmap (nsec_types z true o))) (c i) (e i)))

  module _ (qs : List Name) where
    abbrev fs : List Link
    fs = own_links z Nsec qs

    -- the rules behind that on NXNAME
    abbrev undenied : Option Verdict
    undenied = or_else (first_some (at_owner z.name q t) fs) (or_else (first_some (below_cut z.name q) fs) (first_some (covered z.name q t fs) fs))

    by_others : Answers undenied → Answers (denied z.name q t fs)
    by_others w = right_is (first_some (denies q) fs) undenied w.0 w.1

    by_owner : (g : Link) → In g fs → Answers (at_owner z.name q t g) → Answers (denied z.name q t fs)
    by_owner g i w =
        let r = first_is (at_owner z.name q t) fs g w.0 i w.1 in
        by_others (left_is (first_some (at_owner z.name q t) fs) _ r.0 r.1)

    by_cut : (g : Link) → In g fs → Answers (below_cut z.name q g) → Answers (denied z.name q t fs)
    by_cut g i w =
        let r = first_is (below_cut z.name q) fs g w.0 i w.1 in
        let m = left_is (first_some (below_cut z.name q) fs) (first_some (covered z.name q t fs) fs) r.0 r.1 in
        by_others (right_is (first_some (at_owner z.name q t) fs) _ m.0 m.1)

    by_cover : (g : Link) → In g fs → Answers (covered z.name q t fs g) → Answers (denied z.name q t fs)
    by_cover g i w =
        let r = first_is (covered z.name q t fs) fs g w.0 i w.1 in
        let m = right_is (first_some (below_cut z.name q) fs) (first_some (covered z.name q t fs) fs) r.0 r.1 in
        by_others (right_is (first_some (at_owner z.name q t) fs) _ m.0 m.1)

    -- ---- the name is there without the type

    module _ (o : Name) (i : In o (nsec_names z)) (h : covers (apex_of z) o (nsec_next z o) (low q) ≡ true) (a : at_or_above (apex_of z) (low q) ≡ true) where
      gap : covers z.name o (nsec_next z o) q ≡ true
      gap = covering z s (link_of z o) (says o i) q (asked a) (own_covers z s o q i u.unredirected h)

      -- the next name is below it exactly where it exists
      next_below : (b : Bool) → exists z (low q) ≡ b → strictly_above q (nsec_next z o) ≡ b
      next_below b x = sym (strictly-low q (nsec_next z o)) ∙ sym (exists_covered z s (link_of z o) (says o i) q (asked a) gap a (strictly_above (low q) (low (nsec_next z o))) refl) ∙ x

      shown : Encloser z (link_of z o) q
      shown = encloser z s (link_of z o) (says o i) q (asked a) gap (sym (strictly_lowered (apex_of z) q) ∙ apex_above z s (link_of z o) (says o i) q (asked a) gap a)

      abbrev beyond : Bool → Bool → Option Name → Option Verdict
      beyond c b e = elim c [
        | true ↦ elim b [
          | true ↦ Some NoType
          | false ↦ elim e [ None ↦ None | Some n ↦ first_some (at_star z.name (star_under n) t) fs ]
        ]
        | false ↦ None
      ]

      covered_there : exists z (low q) ≡ true → Answers (covered z.name q t fs (link_of z o))
      covered_there x = (NoType, (λ j. beyond (own_covers z s o q i u.unredirected h j) (next_below true x j) (closest (link_of z o) q)))

      covered_gone : exists z (low q) ≡ false → Answers (first_some (at_star z.name (star_under shown.name) t) fs) → Answers (covered z.name q t fs (link_of z o))
      covered_gone x w = (w.0, (λ j. beyond (own_covers z s o q i u.unredirected h j) (next_below false x j) (shown.shown j)) ∙ w.1)

    missing : In (low q) qs → at_or_above (apex_of z) (low q) ≡ true → exists z (low q) ≡ true → has z (low q) t ≡ false → Answers (denied z.name q t fs)
    missing j a x h =
        let p : Speaks z qs (low q) = speaker z s qs (low q) (low-low q) j a in
        let c : has z (low q) 5 ≡ false = there_no_cname z (low q) t s.aliases (low-low q) x (u.own refl) (asked_no_cname t k) in
        elim p.says [
          | inl e ↦ by_owner (link_of z p.owner) p.listed (matched p.owner p.inside e (ap (λ n. has z n t) e ∙ h, ap (λ n. has z n 5) e ∙ c))
          | inr c ↦ by_cover (link_of z p.owner) p.listed (covered_there p.owner p.inside c a x)
        ]

    -- ---- neither the name nor the type at the wildcard is there

    star_answers : (e n : Name) → low n ≡ e → strictly_above e (low q) ≡ true → In (star_under e) qs → at_or_above (apex_of z) e ≡ true → (In (star_under e) (nsec_names z) → LacksBoth z (star_under e) t) → Answers (first_some (at_star z.name (star_under n) t) fs)
    star_answers e n ln up j a h =
        let ls : low (star_under n) ≡ star_under e = ap star_under ln in
        let le : low (star_under e) ≡ star_under e = ap star_under (ap low (sym ln) ∙ low-low n ∙ ln) in
        let p : Speaks z qs (star_under e) = speaker z s qs (star_under e) le j (strictly_at (apex_of z) (star_under e) a) in
        let g : Link = link_of z p.owner in
        let told : Answers (at_star z.name (star_under n) t g) = elim p.says [
          | inl m ↦
              let is : same p.owner (star_under n) ≡ true = names_same p.owner (star_under n) (ap low m ∙ le ∙ sym ls) in
              let none : LacksBoth z (star_under e) t = h (subst (λ n. In n (nsec_names z)) m p.inside) in
              let lacking : star_lacks (bitmap (nsec_types z true p.owner)) t ≡ true = star_lacking p.owner (ap is_star m) (ap (λ n. has z n t) m ∙ none.0, ap (λ n. has z n 5) m ∙ none.1) in
              let plain = and_from (star_lacks (bitmap (nsec_types z true p.owner)) t) _ lacking (nsec_more z s p.owner p.inside) in
              (StarNoType, (λ i. star_case (is i) (plain i) (link_covers z.name g (star_under n)) (strictly_above (star_under n) g.next)))
          | inr c ↦
              let direct : is_redirected z (low (star_under n)) ≡ false = ap (is_redirected z) ls ∙ beside_unredirected z e (low q) (42 ∷ []) (low-low q) up u.unredirected in
              let within : at_or_above (apex_of z) n ≡ true = sym (above_lowered (apex_of z) n) ∙ ap (at_or_above (apex_of z)) ln ∙ a in
              let under : strictly_above n q ≡ true = sym (strictly-low n q) ∙ ap (λ m. strictly_above m (low q)) ln ∙ up in
              star_beside p.owner p.inside n (concerns_star (apex_of z) n q within under) (own_covers z s p.owner (star_under n) p.inside direct (ap (covers (apex_of z) p.owner (nsec_next z p.owner)) ls ∙ c))
        ] in
        first_is (at_star z.name (star_under n) t) fs g told.0 p.listed told.1

    by_gap : (e : Name) → In (low q) qs → In (star_under e) qs → at_or_above (apex_of z) (low q) ≡ true → exists z (low q) ≡ false → ce z (low q) ≡ Some e → (In (star_under e) (nsec_names z) → LacksBoth z (star_under e) t)
        → Answers (denied z.name q t fs)
    by_gap e j m a x c h =
        let p : Speaks z qs (low q) = speaker z s qs (low q) (low-low q) j a in
        elim p.says [
          | inl o ↦ absurd (false≢true (sym x ∙ owner_exists z s (low q) (subst (λ n. In n (nsec_names z)) o p.inside)))
          | inr o ↦
              let r : Encloser z (link_of z p.owner) q = shown p.owner p.inside o a in
              let is : low r.name ≡ e = (let both : Some (low r.name) ≡ Some e = sym r.is ∙ c in cc) in
              let inside : at_or_above (apex_of z) e ≡ true = ap (at_or_above (apex_of z)) (sym is) ∙ above_lowered (apex_of z) r.name ∙ r.inside in
              by_cover (link_of z p.owner) p.listed (covered_gone p.owner p.inside o a x (star_answers e r.name is (ce_encloses z (low q) e c).above m inside h))
        ]

    -- ---- a delegation is above the name

    cut_told : (c : Name) → In c qs → cut z (low q) ≡ Some c → (labels_eq c (low q) && (t == 43)) ≡ false → Answers (denied z.name q t fs)
    cut_told c j e n =
        let r : IsCut z (low q) c = cut_is z (low q) c (low-low q) e in
        let lc : low c ≡ c = delegation_low z c r.delegation in
        let i : In c (nsec_names z) = owner_in_chain z c (delegation_owner z c r.delegation) (cut_live z (low q) c r) in
        let g : In (link_of z c) fs = listed z s qs c c i j (or_left (labels_eq c c) _ ((labels_decide c c).1 refl)) in
        elim (above_cases c (low q) r.above) [
          | inl m ↦
              let is : c ≡ low q = same_lowered c (low q) lc (low-low q) m in
              let ds : (t == 43) ≡ false = elim (and_cases (labels_eq c (low q)) (t == 43) n) [
                | inl u ↦ absurd (false≢true (sym u ∙ (labels_decide c (low q)).1 is))
                | inr u ↦ u
              ] in
              let live : at_or_above (apex_of z) (low q) ≡ true = ap (at_or_above (apex_of z)) (sym is) ∙ chain_inside z s c i in
              let at_cut : is_cut z.name q (bitmap (nsec_types z true c)) ≡ true =
              cut_test z q (bitmap (nsec_types z true c)) live (subst (λ n. ShowsTypes z n (bitmap (nsec_types z true c))) is (nsec_shows z s c)) ∙ ap (is_delegation z) (sym is) ∙ r.delegation in
              let told = cut_answers z.name q t (bitmap (nsec_types z true c)) (and_from _ _ at_cut (not_from_false (t == 43) ds)) in
              by_owner (link_of z c) g (told.0, at_owner_is c i is ∙ told.1)
          | inr m ↦ by_cut (link_of z c) g (Delegated, tells_cut z s (link_of z c) (says c i) q (ap (is_delegation z) lc ∙ r.delegation) (ap (λ n. strictly_above n (low q)) lc ∙ m))
        ]

    -- ---- a wildcard's RRset

    expands : (e : Name) → In (low q) qs → at_or_above (apex_of z) (low q) ≡ true → exists z (low q) ≡ false → ce z (low q) ≡ Some e → Answers (expanded z.name q (starred z e t) fs)
    expands e j a x c =
        let p : Speaks z qs (low q) = speaker z s qs (low q) (low-low q) j a in
        elim p.says [
          | inl o ↦ absurd (false≢true (sym x ∙ owner_exists z s (low q) (subst (λ n. In n (nsec_names z)) o p.inside)))
          | inr o ↦
              let g : Link = link_of z p.owner in
              let r : Encloser z g q = shown p.owner p.inside o a in
              let is : low r.name ≡ e = (let both : Some (low r.name) ≡ Some e = sym r.is ∙ c in cc) in
              let long : length r.name ≡ length e = same-length r.name e (names_same r.name e (is ∙ sym (ce_lowered z (low q) e (low-low q) c))) in
              let encloses : encloses_at (length e) (closest g q) ≡ true = ap (encloses_at (length e)) r.shown ∙ eq-eqb (length r.name) (length e) long in
              let covers_it : link_covers z.name g q ≡ true = own_covers z s p.owner q p.inside u.unredirected o in
              let not_below : not (strictly_above q g.next) ≡ true = not_from_false (strictly_above q g.next) (next_below p.owner p.inside o a false x) in
              let told : expanded_by z.name q (starred z e t) g ≡ Some (StarRecords (data_at z (star_under e) t)) =
              ap (λ b. elim b as (λ _. Option Verdict) [ true ↦ Some (StarRecords (data_at z (star_under e) t)) | false ↦ None ]) (and_from (link_covers z.name g q && not (strictly_above q g.next)) _ (and_from (link_covers z.name g q) _ covers_it not_below) encloses) in
              first_is (expanded_by z.name q (starred z e t)) fs g (StarRecords (data_at z (star_under e) t)) p.listed told
        ]

-- ---- the answer

module _ (z : Zone) (s : IsServable z) (hash : Name → List ℕ) (q : Name) (t : ℕ) (l : t < 65536) (k : is_asked_type t ≡ true) (a : at_or_above (apex_of z) q ≡ true) (u : IsUnaliased z false (low q) t) where
  abbrev made : Option Rrset → List Name → Facts
  made o qs = record { rrset = o; links = own_links z Nsec qs; hash_links = [] }

  -- true facts that decide something decide the verdict
  finish : (o : Option Rrset) (qs : List Name) → own_facts z hash Nsec q t ≡ made o qs → IfSome o (IsTrueRrset z q t) → Answers (decided_inside z.name hash (made o qs) q t)
      → decided z.name hash (own_facts z hash Nsec q t) q t ≡ Some (verdict z false q t)
  finish o qs e r w =
      let facts : Facts = made o qs in
      let true_facts : AreTrue z hash Nsec q t facts = record { rrset = r; said = chains_say_truly z hash Nsec q facts s tt (all_from (IsTrueLink z) (own_links z Nsec qs) (own_links_true z s qs), refl) } in
      let said : decided z.name hash facts q t ≡ Some w.0 = ap (λ b. elim b as (λ _. Option Verdict) [ true ↦ decided_inside z.name hash facts q t | false ↦ None ]) (sym (lowered_above z.name q) ∙ a) ∙ w.1 in
      ap (λ f. decided z.name hash f q t) e ∙ said ∙ ap (λ v. Some v) (sound_links z hash facts q t w.0 s l true_facts said).0

  facts_are : (v : Verdict) → verdict z false q t ≡ v → own_facts z hash Nsec q t ≡ made (own_rrset z q t v) (spoken z Nsec (low q) v v)
  facts_are v e = ap (λ v. made (own_rrset z q t v) (spoken z Nsec (low q) v v)) e

  inside : at_or_above (apex_of z) (low q) ≡ true
  inside = above_lowered (apex_of z) q ∙ a

  by_case : View z q t → decided z.name hash (own_facts z hash Nsec q t) q t ≡ Some (verdict z false q t)
  by_case (Signed h v) = finish (Some (named z q t)) [] (facts_are _ v) (own_records_true z q t h) (Records (data_at z (low q) t), ap (λ b. elim b as (λ _. Option Verdict) [ true ↦ expanded z.name q (named z q t) (own_links z Nsec []) | false ↦ Some (Records (data_at z (low q) t)) ]) (own_whole z q t))
  by_case (Missing x h v) = finish None (low q ∷ []) (facts_are NoType v) tt (missing z s q t l k u (low q ∷ []) (inl refl) inside x h)
  by_case (Cut c e n v) = finish None (c ∷ []) (facts_are Delegated v ∙ ap (λ o. made None (elim o as (λ _. List Name) [ None ↦ [] | Some c ↦ c ∷ [] ])) e) tt (cut_told z s q t l k u (c ∷ []) c (inl refl) e n)
  by_case (Starred e x c h v) =
      let ls : List Link = own_links z Nsec (low q ∷ []) in
      let w : Answers (expanded z.name q (starred z e t) ls) = expands z s q t l k u (low q ∷ []) e (inl refl) inside x c in
      finish (Some (starred z e t)) (low q ∷ []) (facts_are _ v ∙ ap (λ o. made o (low q ∷ [])) (own_star_is z q e t x c h)) (own_star_true z q e t x c h)
      (w.0, ap (λ b. elim b as (λ _. Option Verdict) [ true ↦ expanded z.name q (starred z e t) ls | false ↦ Some (Records (data_at z (star_under e) t)) ]) (own_expanded z q e t x c h) ∙ w.1)
  by_case (Unstarred e x c y h v) = finish None (low q ∷ star_under e ∷ []) (facts_are StarNoType v ∙ ap (λ n. made None (low q ∷ star_under n ∷ [])) (kept_encloser z false (low q) e (low-low q) c (ce_encloses z (low q) e c).there)) tt
      (by_gap z s q t l k u (low q ∷ star_under e ∷ []) e (inl refl) (inr (inl refl)) inside x c (λ _. (h, star_no_cname z (low q) t e (star_uncut z q t v) x c (u.own refl) (asked_no_cname t k))))
  by_case (Gone e x c y v) = finish None (low q ∷ star_under e ∷ []) (facts_are NoName v ∙ ap (λ n. made None (low q ∷ star_under n ∷ [])) (kept_encloser z false (low q) e (low-low q) c (ce_encloses z (low q) e c).there)) tt
      (by_gap z s q t l k u (low q ∷ star_under e ∷ []) e (inl refl) (inr (inl refl)) inside x c (λ i. absurd (false≢true (sym y ∙ owner_exists z s (star_under e) i))))

  pub complete_links : decided z.name hash (own_facts z hash Nsec q t) q t ≡ Some (verdict z false q t)
  complete_links = by_case (view z s q t inside)
