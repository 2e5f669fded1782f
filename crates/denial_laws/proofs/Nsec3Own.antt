-- The NSEC3 records of a zone's own answer make a rule answer, in each case of what the answer speaks of.
use Rattle.std.proofs.Common.{◌≡◌, ℕ, ◌+◌, ◌<◌, Bool, true, false, List, ◌∷◌, length, Option, Some, None, refl, sym, ap, subst, ◌∙◌, ◌⊎◌, inl, inr, arith}
use Rattle.std.specs.Prelude.{◌==◌}
use Rattle.std.proofs.lemmas.Bool.{and_from, not_from_false, false_from_ne_true}
use Rattle.definitions.specs.Name.{Name, low, at_or_above, strictly_above}
use Rattle.definitions.specs.Zone.{Zone, Verdict, StarRecords, Open, apex_of, has, is_delegation, kept, star_under}
use Rattle.definitions.specs.ZoneChain.{Nsec3, nsec3_names}
use Rattle.definitions.specs.Laws.{SharesNone}
use Rattle.definitions.proofs.Members.{In, any_in}
use Rattle.definitions.proofs.ZoneNames.{above_itself, above_lowered}
use Rattle.denial_laws.specs.Facts.{Rrset, HashLink}
use Rattle.denial_laws.specs.NsecRules.{first_some}
use Rattle.denial_laws.specs.Nsec3Rules.{is_at, covers_hash, at_hash, star_at, enclosed, by_closest_encloser, hash_denied, last_labels, hash_expanded_by, hash_expanded}
use Rattle.denial_laws.specs.OwnFacts.{next_closer}
use Rattle.denial_laws.specs.Truth.{IsServable, IsTrueHashLink, NoSharedHash, ShowsTypes}
use Rattle.denial_laws.specs.Laws.{is_asked_type}
use Rattle.denial_laws.proofs.NameFacts.{same_names, names_same, same_above, above_cases, above_either, above_both, shorter_above, strictly_at, strictly_above_at, at_strictly_above, strictly_shorter}
use Rattle.denial_laws.proofs.ChainBits.{LacksTypes, all_at, cut_test, cut_no_dname}
use Rattle.denial_laws.proofs.Found.{first_is}
use Rattle.denial_laws.proofs.HashChain.{concerns_name, concerns_star, matched_shows, matched_lacks}
use Rattle.denial_laws.proofs.KeptAncestor.{closer_is, IsKeptParent, closer_gone}
use Rattle.denial_laws.proofs.AtName.{lacks_from, star_lacks_from, Answers, cut_answers, lack_answers}
use Rattle.denial_laws.proofs.Nsec3Answers.{matched_answers, above_answers, gap_answers, star_matched, star_covered, Climbs, climbs}
use Rattle.denial_laws.proofs.Nsec3Wildcard.{last_labels_are}
use Rattle.denial_laws.proofs.OwnHashes.{IsAmong, own, own_true, own_at, own_unmatched, own_covers, own_none}
use Rattle.denial_laws.proofs.ZoneCuts.{delegation_low, kept_inside, kept_lowered, kept_uncut}

module _ (z : Zone) (hash : Name → List ℕ) (ex : Bool) (s : IsServable z) (iterations : ℕ) (salt : List ℕ) (q : Name) (t : ℕ) (l : t < 65536) (asked : is_asked_type t ≡ true) (apart : NoSharedHash z hash (Nsec3 iterations salt ex) q) (inside : at_or_above (apex_of z) q ≡ true) (qs : List Name) where
  -- the answer's records
  abbrev records : List HashLink
  records = own z hash ex s apart.0 iterations salt qs

  -- ---- names of which none shares a hash

  shares : (p : Name) → at_or_above (apex_of z) p ≡ true → at_or_above p q ≡ true → SharesNone hash (nsec3_names z ex) (low p)
  shares p i a = apart.1 (low p) (concerns_name (apex_of z) p q i a)

  star_shares : (p : Name) → at_or_above (apex_of z) p ≡ true → strictly_above p q ≡ true → SharesNone hash (nsec3_names z ex) (low (star_under p))
  star_shares p i a = apart.1 (low (star_under p)) (concerns_star (apex_of z) p q i a)

  true_one : (g : HashLink) → In g records → IsTrueHashLink z hash ex g
  true_one g i = all_at (IsTrueHashLink z hash ex) records g (own_true z hash ex s apart.0 iterations salt qs) i

  at_kept : (p : Name) → In (low p) qs → kept z ex p ≡ true → IsAmong records (is_at (hash (low p)))
  at_kept p i k = own_at z hash ex s apart.0 iterations salt qs p i k

  shown : (p : Name) → SharesNone hash (nsec3_names z ex) (low p) → (f : IsAmong records (is_at (hash (low p)))) → ShowsTypes z (low p) f.link.bits
  shown p h f = matched_shows z hash ex s apart.0 f.link (true_one f.link f.inside) p h f.passes

  lacking : (p : Name) → SharesNone hash (nsec3_names z ex) (low p) → (f : IsAmong records (is_at (hash (low p)))) → LacksTypes z (low p) f.link.bits
  lacking p h f = matched_lacks z hash ex s apart.0 f.link (true_one f.link f.inside) p h f.passes

  -- ---- the name's own record

  pub no_type_answers : In (low q) qs → kept z ex q ≡ true → has z (low q) t ≡ false → has z (low q) 5 ≡ false → Answers (hash_denied z.name hash q t records)
  no_type_answers i k h c =
      let f = at_kept q i k in
      matched_answers z.name hash t records q f (lack_answers z.name q t f.link.bits (lacks_from z (low q) f.link.bits t l asked (shown q (shares q inside (above_itself q)) f) (lacking q (shares q inside (above_itself q)) f) h c))

  pub cut_at_answers : In (low q) qs → kept z ex q ≡ true → is_delegation z (low q) ≡ true → (t == 43) ≡ false → Answers (hash_denied z.name hash q t records)
  cut_at_answers i k d n =
      let f = at_kept q i k in
      let test = cut_test z q f.link.bits (kept_inside z ex (low q) (kept_lowered z ex q ∙ k)) (shown q (shares q inside (above_itself q)) f) in
      matched_answers z.name hash t records q f (cut_answers z.name q t f.link.bits (and_from _ _ (test ∙ d) (not_from_false (t == 43) n)))

  -- ---- the records of the closest encloser

  climb : (e : Name) → IsKeptParent z ex q e → In (low e) qs → Climbs z.name hash t records q e
  climb e k i =
      let f = at_kept e i k.there in
      climbs z ex hash t records q e k (λ n a b g. own_none z hash ex s apart.0 iterations salt qs n (shares n a b) g) (any_in (is_at (hash (low e))) records f.link f.inside f.passes)

  by_climb : kept z ex q ≡ false → (o : Option Verdict) → by_closest_encloser z.name hash q t records ≡ o → Answers o → Answers (hash_denied z.name hash q t records)
  by_climb g o e a = (
    a.0,
    ap (λ b. elim b as (λ _. Option Verdict) [ true ↦ first_some (at_hash z.name q t (hash (low q))) records | false ↦ by_closest_encloser z.name hash q t records ]) (own_none z hash ex s apart.0 iterations salt qs q (shares q inside (above_itself q)) g)
        ∙ e
        ∙ a.1,
  )

  -- the parent at which a climb stops
  parent_kept : (e p : Name) → kept z ex e ≡ true → low p ≡ low e → kept z ex p ≡ true
  parent_kept e p k is = sym (kept_lowered z ex p) ∙ ap (kept z ex) is ∙ kept_lowered z ex e ∙ k

  -- a delegation is there
  pub cut_above_answers : (c : Name) → is_delegation z c ≡ true → kept z ex c ≡ true → strictly_above c q ≡ true → In c qs → Answers (hash_denied z.name hash q t records)
  cut_above_answers c d k a i =
      let lc : low c ≡ c = delegation_low z c d in
      let longest : IsKeptParent z ex q c = record {
        there = k;
        above = a;
        longest = λ p h b. elim (above_either p c q (strictly_at p q b) (strictly_at c q a)) [
          | inl up ↦ up
          | inr down ↦ elim (above_cases c p down) [
            | inl m ↦ same_above p c (names_same p c (sym (same_names c p m)))
            | inr m ↦ absurd (kept_uncut z ex p h c d m)
          ]
        ];
      } in
      let gone : kept z ex q ≡ false = false_from_ne_true (kept z ex q) (λ h. kept_uncut z ex q h c d a) in
      let r = climb c longest (subst (λ n. In n qs) (sym lc) i) in
      let p : Name = r.parent in
      let up : at_or_above p q ≡ true = strictly_at p q (strictly_above_at p (r.label ∷ p) q (above_itself p) r.above) in
      let there : kept z ex p ≡ true = parent_kept c p k r.is in
      let f = at_kept p (subst (λ n. In n qs) (sym (r.is ∙ lc)) i) there in
      let shows = shown p (shares p (kept_inside z ex p there) up) f in
      let test = cut_test z p f.link.bits (kept_inside z ex (low p) (kept_lowered z ex p ∙ there)) shows in
      let cut : is_delegation z (low p) ≡ true = ap (is_delegation z) (r.is ∙ lc) ∙ d in
      by_climb gone (enclosed z.name hash (r.label ∷ p) p t records) r.stops
      (above_answers z.name hash t records r.label p f (shows.redirect ∙ cut_no_dname z s.aliases (low p) cut) (test ∙ cut))

  -- the next closer name is covered, and no DNAME is at its parent: under opt-out, or the wildcard answers
  pub gap_denied : (e : Name) → low e ≡ e → has z e 39 ≡ false → IsKeptParent z ex q e → kept z ex q ≡ false → In e qs → In (next_closer e (low q)) qs
      → (ex ≡ true) ⊎ ((p : Name) → low p ≡ e → Answers (first_some (star_at (hash (low (star_under p))) t) records)) → Answers (hash_denied z.name hash q t records)
  gap_denied e le plain k gone i j o =
      let r = climb e k (subst (λ n. In n qs) (sym le) i) in
      let p : Name = r.parent in
      let is : low p ≡ e = r.is ∙ le in
      let up : at_or_above p q ≡ true = strictly_at p q (strictly_above_at p (r.label ∷ p) q (above_itself p) r.above) in
      let there : kept z ex p ≡ true = parent_kept e p k.there r.is in
      let apex : at_or_above (apex_of z) p ≡ true = kept_inside z ex p there in
      let f = at_kept p (subst (λ n. In n qs) (sym is) i) there in
      let closer : next_closer e (low q) ≡ low (r.label ∷ p) = ap (λ n. next_closer n (low q)) (sym is) ∙ closer_is r.label p q r.above in
      let g = own_covers z hash ex s apart.0 iterations salt qs (r.label ∷ p) (subst (λ n. In n qs) closer j) (shares (r.label ∷ p) (strictly_at (apex_of z) (r.label ∷ p) apex) r.above)
      (closer_gone z ex r.label p q e k r.is r.above gone) in
      let opts : g.link.opt_out ≡ ex = (true_one g.link g.inside).opts in
      by_climb gone (enclosed z.name hash (r.label ∷ p) p t records) r.stops
      (gap_answers z.name hash t records r.label p f ((shown p (shares p apex up) f).redirect ∙ ap (λ n. has z n 39) is ∙ plain) g (elim o [ inl y ↦ inl (opts ∙ y) | inr w ↦ inr (w p is) ]))

  -- the wildcard has neither the type nor CNAME, or is not kept
  pub star_answers : (e : Name) → IsKeptParent z ex q e → (p : Name) → low p ≡ e → In (star_under e) qs → ((kept z ex (star_under e) ≡ true) × (has z (star_under e) t ≡ false) × (has z (star_under e) 5 ≡ false)) ⊎ (kept z ex (star_under e) ≡ false)
      → Answers (first_some (star_at (hash (low (star_under p))) t) records)
  star_answers e k p is i c =
      let star : low (star_under p) ≡ star_under e = ap star_under is in
      let there : kept z ex p ≡ true = sym (kept_lowered z ex p) ∙ ap (kept z ex) is ∙ k.there in
      let under : strictly_above p q ≡ true = at_strictly_above p e q (sym (ap (at_or_above p) is) ∙ above_lowered p p ∙ above_itself p) k.above in
      let h = star_shares p (kept_inside z ex p there) under in
      let listed : In (low (star_under p)) qs = subst (λ n. In n qs) (sym star) i in
      let alike : kept z ex (star_under p) ≡ kept z ex (star_under e) = sym (kept_lowered z ex (star_under p)) ∙ ap (kept z ex) star in
      elim c [
        | inl b ↦
            let f = at_kept (star_under p) listed (alike ∙ b.0) in
            star_matched z.name hash t records p f (star_lacks_from z s (low (star_under p)) f.link.bits t refl l asked (shown (star_under p) h f) (lacking (star_under p) h f) (ap (λ n. has z n t) star ∙ b.1) (ap (λ n. has z n 5) star ∙ b.2))
        | inr n ↦
            let f = own_covers z hash ex s apart.0 iterations salt qs (star_under p) listed h (alike ∙ n) in
            star_covered z.name hash t records p f (own_unmatched z hash ex s apart.0 iterations salt qs (star_under p) h (alike ∙ n) f.link f.inside)
      ]

  -- ---- beside a wildcard's RRset

  pub expanded_answers : (r : Rrset) (e : Name) → low e ≡ e → r.labels ≡ length e → IsKeptParent z ex q e → kept z ex q ≡ false → In (next_closer e (low q)) qs → Answers (hash_expanded hash q r records)
  expanded_answers r e le n k gone j =
      let short : r.labels < length q = omega (arith, strictly_shorter e q k.above) in
      let last = last_labels_are r.labels q short in
      let p : Name = last.parent in
      let up : at_or_above p q ≡ true = strictly_at p q (strictly_above_at p (last.label ∷ p) q (above_itself p) last.above) in
      let even : length p ≡ length e = last.long ∙ n in
      let same : low p ≡ low e = same_names p e (above_both p e (shorter_above p e q up (strictly_at e q k.above) (omega arith)) (shorter_above e p q (strictly_at e q k.above) up (omega arith))) in
      let apex : at_or_above (apex_of z) p ≡ true = kept_inside z ex p (parent_kept e p k.there same) in
      let closer : next_closer e (low q) ≡ low (last.label ∷ p) = ap (λ m. next_closer m (low q)) (sym (same ∙ le)) ∙ closer_is last.label p q last.above in
      let g = own_covers z hash ex s apart.0 iterations salt qs (last.label ∷ p) (subst (λ m. In m qs) closer j) (shares (last.label ∷ p) (strictly_at (apex_of z) (last.label ∷ p) apex) last.above)
      (closer_gone z ex last.label p q e k same last.above gone) in
      let covers : covers_hash (hash (low (last_labels (r.labels + 1) q))) g.link ≡ true = ap (λ m. covers_hash (hash (low m)) g.link) last.is ∙ g.passes in
      let here = told r (hash (low (last_labels (r.labels + 1) q))) g.link covers in
      first_is (hash_expanded_by (hash (low (last_labels (r.labels + 1) q))) r) records g.link here.0 g.inside here.1
    where
      told : (r : Rrset) (h : List ℕ) (g : HashLink) → covers_hash h g ≡ true → Answers (hash_expanded_by h r g)
      told r h g c = go g.opt_out refl
        where
          go : (b : Bool) → g.opt_out ≡ b → Answers (hash_expanded_by h r g)
          go true e = (Open, (λ i. elim (c i) as (λ _. Option Verdict) [ true ↦ elim (e i) [ true ↦ Some Open | false ↦ Some (StarRecords r.datas) ] | false ↦ None ]))
          go false e = (StarRecords r.datas, (λ i. elim (c i) as (λ _. Option Verdict) [ true ↦ elim (e i) [ true ↦ Some Open | false ↦ Some (StarRecords r.datas) ] | false ↦ None ]))
