-- A zone's own answer decides its verdict of a question for what it has: of any type, that of CNAME and DNAME too.
use Rattle.std.proofs.Common.{◌≡◌, ℕ, ◌<◌, Bool, true, false, not, ◌&&◌, List, [], ◌∷◌, length, Option, Some, None, refl, sym, ap, subst, ◌∙◌, inl, inr, arith}
use Rattle.std.specs.Prelude.{IfSome}
use Rattle.std.proofs.lemmas.Bool.{and_parts, and_from, not_from_false, false≢true, false_from_ne_true, eq-eqb}
use Rattle.definitions.specs.Covering.{covers}
use Rattle.definitions.specs.Name.{Name, low, at_or_above, strictly_above}
use Rattle.definitions.specs.Signing.{label_count}
use Rattle.definitions.specs.Zone.{Zone, Verdict, Records, NoType, NoName, StarRecords, StarNoType, Delegated, Open, apex_of, has, exists, ce, data_at, kept, is_open, cut, star_under, verdict}
use Rattle.definitions.specs.ZoneChain.{Mode, Nsec, Nsec3, nsec_names, nsec_next, optout_of}
use Rattle.definitions.proofs.ChainSpeaks.{all_from}
use Rattle.definitions.proofs.Members.{In}
use Rattle.definitions.proofs.VerdictCases.{said, verdict-open, verdict-said}
use Rattle.definitions.proofs.ZoneNames.{above_itself, above_lowered, lowered_above, low-low, same-length}
use Rattle.denial_laws.specs.Aliases.{is_redirected}
use Rattle.denial_laws.specs.Deciding.{by_chain, by_wildcard, decided, decided_inside}
use Rattle.denial_laws.specs.Facts.{Facts, HashLink, Link, Rrset, is_expanded}
use Rattle.denial_laws.specs.Nsec3Rules.{hash_expanded}
use Rattle.denial_laws.specs.NsecRules.{closest, encloses_at, expanded, expanded_by, link_covers}
use Rattle.denial_laws.specs.OwnFacts.{kept_ancestor, link_of, next_closer, own_facts, own_links, own_rrset, own_star, spoken}
use Rattle.denial_laws.specs.Truth.{AreTrue, Concerns, IsServable, IsTrueLink, IsTrueRrset, NoSharedHash, SaysTruly, is_signed}
use Rattle.denial_laws.proofs.AtName.{Answers}
use Rattle.denial_laws.proofs.ChainSays.{chains_say_truly, link_says}
use Rattle.denial_laws.proofs.Found.{first_is}
use Rattle.denial_laws.proofs.HashChain.{concerns_name}
use Rattle.denial_laws.proofs.KeptAncestor.{IsKeptParent, ancestor_lowered, kept_encloser, kept_parent}
use Rattle.denial_laws.proofs.NameFacts.{above_trans, names_same, star_below, strictly-low, strictly_at, strictly_lowered}
use Rattle.denial_laws.proofs.Nsec3Own.{expanded_answers}
use Rattle.denial_laws.proofs.Nsec3Sound.{sound_hashed}
use Rattle.denial_laws.proofs.Nsec3Wildcard.{signed_star_kept}
use Rattle.denial_laws.proofs.NsecCovered.{apex_above, covering, exists_covered}
use Rattle.denial_laws.proofs.NsecEncloser.{Encloser, encloser, owner_exists}
use Rattle.denial_laws.proofs.NsecSound.{sound_links}
use Rattle.denial_laws.proofs.OwnHashes.{own, own_speaks, own_true}
use Rattle.denial_laws.proofs.OwnLinks.{Speaks, own_covers, own_link_true, own_links_true, speaker}
use Rattle.denial_laws.proofs.OwnRrset.{named, own_expanded, own_records_true, own_star_is, own_star_true, own_whole, starred}
use Rattle.denial_laws.proofs.Verdicts.{verdict_signed}
use Rattle.denial_laws.proofs.VerdictView.{View, Signed, Missing, Cut, Starred, Unstarred, Gone, view}
use Rattle.denial_laws.proofs.ZoneCuts.{IsCut, IsEncloser, ce_encloses, ce_lowered, cut_is, kept_exists, kept_inside, kept_lowered, kept_up}
use Rattle.answer_zone.specs.Finding.{finds}
use Rattle.answer_zone.proofs.Found.{finds_said, told}
use Rattle.alias_laws.proofs.Leading.{star_unredirected}

-- a verdict without records is none that is found
untold : {P : Type 0} (z : Zone) (q : Name) (t : ℕ) (v : Verdict) → finds z q t ≡ true → verdict z false q t ≡ v → told v ≡ false → P
untold z q t v f e n = absurd (false≢true (sym n ∙ sym (ap told e) ∙ f))

-- what the zone signs at the wildcard is there
signed_has : (z : Zone) (o : Name) (t : ℕ) → is_signed z o t ≡ true → has z o t ≡ true
signed_has z o t h = (and_parts _ (has z o t) h).1

-- what is found is of a name of the zone
found_within : (z : Zone) (q : Name) (t : ℕ) → finds z q t ≡ true → at_or_above (apex_of z) (low q) ≡ true
found_within z q t f = go (cut z (low q)) refl (exists z (low q)) refl (ce z (low q)) refl
  where
    go : (c : Option Name) → cut z (low q) ≡ c → (x : Bool) → exists z (low q) ≡ x → (e : Option Name) → ce z (low q) ≡ e → at_or_above (apex_of z) (low q) ≡ true
    go (Some c) hc x hx e he =
        let k : IsCut z (low q) c = cut_is z (low q) c (low-low q) hc in
        above_trans (apex_of z) c (low q) (strictly_at (apex_of z) c (and_parts (has z c 2) (strictly_above (apex_of z) c) k.delegation).1) k.above
    go None hc true hx e he = kept_inside z false (low q) hx
    go None hc false hx None he = absurd (false≢true (sym (finds_said z q t None false None hc hx he) ∙ f))
    go None hc false hx (Some e) he =
        let r : IsEncloser z (low q) e = ce_encloses z (low q) e he in
        above_trans (apex_of z) e (low q) (kept_inside z false e r.there) (strictly_at e (low q) r.above)

module _ (z : Zone) (s : IsServable z) (hash : Name → List ℕ) (q : Name) (t : ℕ) (l : t < 65536) (a : at_or_above (apex_of z) q ≡ true) (f : finds z q t ≡ true) where
  inside : at_or_above (apex_of z) (low q) ≡ true
  inside = above_lowered (apex_of z) q ∙ a

  within : at_or_above z.name q ≡ true
  within = sym (lowered_above z.name q) ∙ a

  -- ---- NSEC

  abbrev made : Option Rrset → List Name → Facts
  made o qs = record { rrset = o; links = own_links z Nsec qs; hash_links = [] }

  -- true facts that decide something decide the verdict
  finish : (o : Option Rrset) (qs : List Name) → own_facts z hash Nsec q t ≡ made o qs → IfSome o (IsTrueRrset z q t) → Answers (decided_inside z.name hash (made o qs) q t)
      → decided z.name hash (own_facts z hash Nsec q t) q t ≡ Some (verdict z false q t)
  finish o qs e r w =
      let facts : Facts = made o qs in
      let true_facts : AreTrue z hash Nsec q t facts = record { rrset = r; said = chains_say_truly z hash Nsec q facts s tt (all_from (IsTrueLink z) (own_links z Nsec qs) (own_links_true z s qs), refl) } in
      let said : decided z.name hash facts q t ≡ Some w.0 = ap (λ b. elim b as (λ _. Option Verdict) [ true ↦ decided_inside z.name hash facts q t | false ↦ None ]) within ∙ w.1 in
      ap (λ f. decided z.name hash f q t) e ∙ said ∙ ap (λ v. Some v) (sound_links z hash facts q t w.0 s l true_facts said).0

  facts_are : (v : Verdict) → verdict z false q t ≡ v → own_facts z hash Nsec q t ≡ made (own_rrset z q t v) (spoken z Nsec (low q) v v)
  facts_are v e = ap (λ v. made (own_rrset z q t v) (spoken z Nsec (low q) v v)) e

  -- the record that covers the name shows its closest encloser
  expands : (e : Name) → is_redirected z (low q) ≡ false → exists z (low q) ≡ false → ce z (low q) ≡ Some e → Answers (expanded z.name q (starred z e t) (own_links z Nsec (low q ∷ [])))
  expands e direct x c =
      let p : Speaks z (low q ∷ []) (low q) = speaker z s (low q ∷ []) (low q) (low-low q) (inl refl) inside in
      elim p.says [
        | inl o ↦ absurd (false≢true (sym x ∙ owner_exists z s (low q) (subst (λ n. In n (nsec_names z)) o p.inside)))
        | inr o ↦ covered p.owner p.inside p.listed o
      ]
    where
      covered : (o : Name) → In o (nsec_names z) → In (link_of z o) (own_links z Nsec (low q ∷ [])) → covers (apex_of z) o (nsec_next z o) (low q) ≡ true → Answers (expanded z.name q (starred z e t) (own_links z Nsec (low q ∷ [])))
      covered o i listed h =
          let g : Link = link_of z o in
          let covers_it : link_covers z.name g q ≡ true = own_covers z s o q i direct h in
          let says : SaysTruly z q g = link_says z s q g (own_link_true z s o i) in
          let asked : Concerns z q q = concerns_name (apex_of z) q q a (above_itself q) in
          let gap : covers z.name o (nsec_next z o) q ≡ true = covering z s g says q asked covers_it in
          let r : Encloser z g q = encloser z s g says q asked gap (sym (strictly_lowered (apex_of z) q) ∙ apex_above z s g says q asked gap inside) in
          let below : strictly_above q (nsec_next z o) ≡ false =
          sym (strictly-low q (nsec_next z o)) ∙ sym (exists_covered z s g says q asked gap inside (strictly_above (low q) (low (nsec_next z o))) refl) ∙ x in
          let is : low r.name ≡ e = (let both : Some (low r.name) ≡ Some e = sym r.is ∙ c in cc) in
          let long : length r.name ≡ length e = same-length r.name e (names_same r.name e (is ∙ sym (ce_lowered z (low q) e (low-low q) c))) in
          let encloses : encloses_at (length e) (closest g q) ≡ true = ap (encloses_at (length e)) r.shown ∙ eq-eqb (length r.name) (length e) long in
          let told : expanded_by z.name q (starred z e t) g ≡ Some (StarRecords (data_at z (star_under e) t)) =
          ap (λ b. elim b as (λ _. Option Verdict) [ true ↦ Some (StarRecords (data_at z (star_under e) t)) | false ↦ None ]) (and_from (link_covers z.name g q && not (strictly_above q g.next)) _ (and_from (link_covers z.name g q) _ covers_it (not_from_false (strictly_above q g.next) below)) encloses) in
          first_is (expanded_by z.name q (starred z e t)) (own_links z Nsec (low q ∷ [])) g (StarRecords (data_at z (star_under e) t)) listed told

  by_links : View z q t → decided z.name hash (own_facts z hash Nsec q t) q t ≡ Some (verdict z false q t)
  by_links (Signed h v) =
      finish (Some (named z q t)) [] (facts_are _ v) (own_records_true z q t h)
      (Records (data_at z (low q) t), ap (λ b. elim b as (λ _. Option Verdict) [ true ↦ expanded z.name q (named z q t) (own_links z Nsec []) | false ↦ Some (Records (data_at z (low q) t)) ]) (own_whole z q t))
  by_links (Missing x h v) = untold z q t NoType f v refl
  by_links (Cut c e n v) = untold z q t Delegated f v refl
  by_links (Starred e x c h v) =
      let ls : List Link = own_links z Nsec (low q ∷ []) in
      let w : Answers (expanded z.name q (starred z e t) ls) = expands e (star_unredirected z s (low q) e c t (signed_has z (star_under e) t h)) x c in
      finish (Some (starred z e t)) (low q ∷ []) (facts_are _ v ∙ ap (λ o. made o (low q ∷ [])) (own_star_is z q e t x c h)) (own_star_true z q e t x c h)
      (w.0, ap (λ b. elim b as (λ _. Option Verdict) [ true ↦ expanded z.name q (starred z e t) ls | false ↦ Some (Records (data_at z (star_under e) t)) ]) (own_expanded z q e t x c h) ∙ w.1)
  by_links (Unstarred e x c y h v) = untold z q t StarNoType f v refl
  by_links (Gone e x c y v) = untold z q t NoName f v refl

  -- ---- NSEC3

  module _ (iterations : ℕ) (salt : List ℕ) (ex : Bool) (apart : NoSharedHash z hash (Nsec3 iterations salt ex) q) where
    abbrev qs : Verdict → List Name
    qs v = spoken z (Nsec3 iterations salt ex) (low q) (verdict z false q t) v

    abbrev records : Verdict → List HashLink
    records v = own z hash ex s apart.0 iterations salt (qs v)

    -- the facts of an answer that is made for a verdict
    abbrev facts : Verdict → Facts
    facts v = record { rrset = own_rrset z q t v; links = []; hash_links = records v }

    -- the RRset is true, and a rule answers
    abbrev Good : Verdict → Type 0
    Good v = IfSome (own_rrset z q t v) (IsTrueRrset z q t) × Answers (decided z.name hash (facts v) q t)

    from_inside : (v : Verdict) → Answers (decided_inside z.name hash (facts v) q t) → Answers (decided z.name hash (facts v) q t)
    from_inside v w = (w.0, ap (λ b. elim b as (λ _. Option Verdict) [ true ↦ decided_inside z.name hash (facts v) q t | false ↦ None ]) within ∙ w.1)

    abbrev of_rrset : Verdict → Option Rrset → Option Verdict
    of_rrset v o = elim o [
      | None ↦ by_chain z.name hash (facts v) q t
      | Some r ↦ elim (is_expanded r q) [ false ↦ Some (Records r.datas) | true ↦ by_wildcard z.name hash (facts v) r q ]
    ]

    records_good : (ds : List (List ℕ)) → IsTrueRrset z q t (record { datas = ds; labels = label_count q }) → Good (Records ds)
    records_good ds r = (
      r,
      from_inside (Records ds) (Records ds, ap (λ b. elim b as (λ _. Option Verdict) [ false ↦ Some (Records ds) | true ↦ by_wildcard z.name hash (facts (Records ds)) (record { datas = ds; labels = label_count q }) q ]) (own_whole z q t)),
    )

    some_links : (fs : List HashLink) (g : HashLink) (o r : Option Verdict) → In g fs → (elim fs as (λ _. Option Verdict) [ [] ↦ o | _ ∷ _ ↦ r ]) ≡ r
    some_links [] g o r i = absurd i
    some_links (x ∷ xs) g o r i = refl

    -- ---- the closest encloser is the longest kept ancestor where it is kept

    abbrev parent : Name
    parent = kept_ancestor z ex (low q)

    module _ (e : Name) (x : exists z (low q) ≡ false) (c : ce z (low q) ≡ Some e) (h : is_signed z (star_under e) t ≡ true) where
      gone : kept z ex q ≡ false
      gone = false_from_ne_true (kept z ex q) (λ k. false≢true (sym x ∙ kept_lowered z false q ∙ kept_exists z ex q k))

      kept_there : kept z ex e ≡ true
      kept_there =
          let r : IsEncloser z (low q) e = ce_encloses z (low q) e c in
          kept_up z ex e (star_under e) (signed_star_kept z s ex (star_under e) t refl h) (strictly_at e (star_under e) (star_below e)) (kept_inside z false e r.there)

      is_parent : parent ≡ e
      is_parent = kept_encloser z ex (low q) e (low-low q) c kept_there

      has_parent : IsKeptParent z ex q parent
      has_parent =
          let up : strictly_above e (low q) ≡ true = (ce_encloses z (low q) e c).above in
          let k = kept_parent z ex (low q) e kept_there up in
          record { there = k.there; above = sym (strictly_lowered parent q) ∙ k.above; longest = λ p k' b. k.longest p k' (strictly_lowered p q ∙ b) }

      star_good : (v : Verdict) → own_rrset z q t v ≡ Some (starred z e t) → In (next_closer parent (low q)) (qs v) → Good v
      star_good v r i =
          let some = own_speaks z hash ex s apart.0 iterations salt (qs v) (next_closer parent (low q)) i in
          let w = expanded_answers z hash ex s iterations salt q 1 (omega arith) refl apart a (qs v) (starred z e t) parent (ancestor_lowered z ex (low q) (low-low q)) (ap length (sym is_parent)) has_parent gone i in (
            subst (λ o. IfSome o (IsTrueRrset z q t)) (sym r) (own_star_true z q e t x c h),
            from_inside v (
              w.0,
              ap (of_rrset v) r
                  ∙ ap (λ b. elim b as (λ _. Option Verdict) [ false ↦ Some (Records (starred z e t).datas) | true ↦ by_wildcard z.name hash (facts v) (starred z e t) q ]) (own_expanded z q e t x c h)
                  ∙ some_links (records v) some.link (expanded z.name q (starred z e t) []) (hash_expanded hash q (starred z e t) (records v)) some.inside
                  ∙ w.1,
            ),
          )

    closed : is_open z ex (low q) ≡ false → verdict z ex q t ≡ verdict z false q t
    closed o = verdict-said z ex q (low q) t refl ∙ ap (λ b. said z (low q) t b (cut z (low q)) (exists z (low q)) (ce z (low q))) o ∙ sym (verdict-said z false q (low q) t refl)

    closed_good : verdict z ex q t ≡ verdict z false q t → View z q t → Good (verdict z ex q t)
    closed_good same (Signed h v) = subst Good (sym (same ∙ v)) (records_good (data_at z (low q) t) (own_records_true z q t h))
    closed_good same (Missing x h v) = untold z q t NoType f v refl
    closed_good same (Cut c e n v) = untold z q t Delegated f v refl
    closed_good same (Starred e x c h v) = subst Good (sym (same ∙ v)) (star_good e x c h (StarRecords (data_at z (star_under e) t)) (own_star_is z q e t x c h) (inl refl))
    closed_good same (Unstarred e x c y h v) = untold z q t StarNoType f v refl
    closed_good same (Gone e x c y v) = untold z q t NoName f v refl

    -- opt-out leaves no name open that is there
    open_good : View z q t → verdict z ex q t ≡ Open → Good (verdict z ex q t)
    open_good (Signed h v) o = absurd (let x : Records (data_at z (low q) t) ≡ Open = sym (verdict_signed z ex q t h) ∙ o in cc)
    open_good (Missing x h v) o = untold z q t NoType f v refl
    open_good (Cut c e n v) o = untold z q t Delegated f v refl
    open_good (Starred e x c h v) o = subst Good (sym o) (star_good e x c h Open (ap (own_star z q) v ∙ own_star_is z q e t x c h) (inr (inl refl)))
    open_good (Unstarred e x c y h v) o = untold z q t StarNoType f v refl
    open_good (Gone e x c y v) o = untold z q t NoName f v refl

    good : (o : Bool) → is_open z ex (low q) ≡ o → Good (verdict z ex q t)
    good false o = closed_good (closed o) (view z s q t inside)
    good true o = open_good (view z s q t inside) (verdict-open z ex q (low q) t refl o)

    by_hashes : decided z.name hash (own_facts z hash (Nsec3 iterations salt ex) q t) q t ≡ Some (verdict z ex q t)
    by_hashes =
        let g = good (is_open z ex (low q)) refl in
        let true_facts : AreTrue z hash (Nsec3 iterations salt ex) q t (own_facts z hash (Nsec3 iterations salt ex) q t) = record {
          rrset = g.0;
          said = chains_say_truly z hash (Nsec3 iterations salt ex) q (own_facts z hash (Nsec3 iterations salt ex) q t) s apart
              (refl, own_true z hash ex s apart.0 iterations salt (qs (verdict z ex q t)));
        } in
        g.1.1 ∙ ap (λ v. Some v) (sound_hashed z hash iterations salt ex (own_facts z hash (Nsec3 iterations salt ex) q t) q t g.1.0 s l true_facts g.1.1).0

pub found_decides : (z : Zone) (hash : Name → List ℕ) (mode : Mode) (q : Name) (t : ℕ) → IsServable z → NoSharedHash z hash mode q → t < 65536 → finds z q t ≡ true
    → decided z.name hash (own_facts z hash mode q t) q t ≡ Some (verdict z (optout_of mode) q t)
found_decides z hash Nsec q t s n l f =
    let a = found_within z q t f in by_links z s hash q t l (sym (above_lowered (apex_of z) q) ∙ a) f (view z s q t a)
found_decides z hash (Nsec3 iterations salt ex) q t s n l f = by_hashes z s hash q t l (sym (above_lowered (apex_of z) q) ∙ found_within z q t f) f iterations salt ex n
