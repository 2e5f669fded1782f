-- What NSEC3 records at the first ancestor of a name that one matches prove is the zone's verdict.
use Rattle.std.proofs.Common.{◌≡◌, ℕ, ◌<◌, Bool, true, false, ◌&&◌, ◌||◌, not, List, [], ◌∷◌, Option, Some, None, refl, sym, ap, ◌∙◌, inl, inr}
use Rattle.std.specs.Prelude.{◌==◌, if◌then◌else◌}
use Rattle.std.specs.List.{AllByRecursion, list_any}
use Rattle.std.specs.Str.{str_to_ascii_lowercase}
use Rattle.std.proofs.lemmas.Bool.{and_parts, and_from, and_left, or_cases, not-true, false≢true, false_from_ne_true}
use Rattle.definitions.specs.Name.{Name, low, same, labels_eq, at_or_above, strictly_above}
use Rattle.definitions.specs.Bitmap.{bitmap_has}
use Rattle.definitions.specs.Zone.{Zone, Verdict, NoName, StarRecords, StarNoType, Delegated, Open, apex_of, is_delegation, kept, exists, has, star_under, data_at, at_star}
use Rattle.definitions.proofs.Members.{any_of}
use Rattle.definitions.proofs.ZoneNames.{above_itself, low-low, lowered_above}
use Rattle.denial_laws.specs.Facts.{HashLink}
use Rattle.denial_laws.specs.NsecRules.{first_some, is_cut, lacks, star_lacks}
use Rattle.denial_laws.specs.Nsec3Rules.{is_at, covers_hash, is_matched, encloses, cut_above, star_at, beyond, enclosed, by_closest_encloser}
use Rattle.denial_laws.specs.Aliases.{has_alias}
use Rattle.denial_laws.specs.Truth.{Concerns, IsServable, SaysTrulyHash}
use Rattle.denial_laws.specs.Laws.{IsSaidBy}
use Rattle.denial_laws.proofs.NameFacts.{same_names, names_same, above-low, strictly_at, strictly_unlike, strictly_above_at}
use Rattle.denial_laws.proofs.ChainBits.{all_at, cut_test}
use Rattle.denial_laws.proofs.Found.{either_from, first_from, none_from}
use Rattle.denial_laws.proofs.HashChain.{concerns_name, concerns_star}
use Rattle.denial_laws.proofs.HashSays.{said_kept, said_shows, said_gone}
use Rattle.denial_laws.proofs.AtName.{on_true, not_there, lacks_cname}
use Rattle.denial_laws.proofs.Verdicts.{verdict_delegated, IsGap, gap_gone, gap_unredirected, gap_child, gap_left_open, gap_open, gap_encloser, gap_star}
use Rattle.denial_laws.proofs.ZoneCuts.{cut_from, kept_live, kept_inside, kept_lowered, kept_exists, kept_delegation, no_star_cut}
use Rattle.denial_laws.proofs.Unaliased.{cut_unredirected, no_alias, cut_unaliased, star_unaliased, unaliased}

-- ---- the climb

-- the ancestor at which a climb stops, and the name one label longer
record IsClimbed (apex : Name) (hash : Name → List ℕ) (q : Name) (t : ℕ) (fs : List HashLink) (v : Verdict) : Type 0 where
  label : List ℕ
  parent : Name
  above : at_or_above (label ∷ parent) q ≡ true
  inside : at_or_above apex parent ≡ true
  enclosed : enclosed apex hash (label ∷ parent) parent t fs ≡ Some v

climbed_on : (apex : Name) (hash : Name → List ℕ) (l : List ℕ) (p : Name) (t : ℕ) (fs : List HashLink) (v : Verdict) → IsClimbed apex hash p t fs v → IsClimbed apex hash (l ∷ p) t fs v
climbed_on apex hash l p t fs v k = record {
  label = k.label;
  parent = k.parent;
  above = ap (λ b. same (k.label ∷ k.parent) (l ∷ p) || b) k.above ∙ or_true (same (k.label ∷ k.parent) (l ∷ p));
  inside = k.inside;
  enclosed = k.enclosed;
}
  where
    or_true : (b : Bool) → (b || true) ≡ true
    or_true true = refl
    or_true false = refl

climbed_from : (apex : Name) (hash : Name → List ℕ) (q : Name) (t : ℕ) (fs : List HashLink) (v : Verdict) → at_or_above apex q ≡ true → by_closest_encloser apex hash q t fs ≡ Some v → IsClimbed apex hash q t fs v
climbed_from apex hash [] t fs v i h = absurd cc
climbed_from apex hash (l ∷ p) t fs v i h = go (same (l ∷ p) apex) refl (is_matched fs (hash (low p))) h (λ j k. climbed_on apex hash l p t fs v (climbed_from apex hash p t fs v j k))
  where
    inside : same (l ∷ p) apex ≡ false → at_or_above apex p ≡ true
    inside n = elim (or_cases (same apex (l ∷ p)) (at_or_above apex p) i) [
      | inl s ↦ absurd (false≢true (sym n ∙ names_same (l ∷ p) apex (sym (same_names apex (l ∷ p) s))))
      | inr a ↦ a
    ]

    go : (b : Bool) → same (l ∷ p) apex ≡ b → (c : Bool)
        → (elim b as (λ _. Option Verdict) [ true ↦ None | false ↦ elim c [ true ↦ enclosed apex hash (l ∷ p) p t fs | false ↦ by_closest_encloser apex hash p t fs ] ]) ≡ Some v
        → (at_or_above apex p ≡ true → by_closest_encloser apex hash p t fs ≡ Some v → IsClimbed apex hash (l ∷ p) t fs v) → IsClimbed apex hash (l ∷ p) t fs v
    go true e c h k = absurd cc
    go false e true h k = record { label = l; parent = p; above = above_itself (l ∷ p); inside = inside e; enclosed = h }
    go false e false h k = k (inside e) h

-- ---- the rules at the closest encloser

-- what a wildcard says of the names that it stands for, where it has no CNAME that answers in its place
abbrev pub SaysByStar : Zone → Name → ℕ → Verdict → Type 0
SaysByStar z s t v = (v ≡ at_star z s t) × (has_alias z s t ≡ false)

-- below a gap nothing is told under opt-out; without it the wildcard decides
pub gap_says : (z : Zone) → IsServable z → (ex : Bool) (l : List ℕ) (e q : Name) (t : ℕ) (v : Verdict) → IsGap z ex l e (low q) → has z e 39 ≡ false → (o : Bool) → o ≡ ex → (r : Option Verdict)
    → (ex ≡ false → r ≡ Some v → SaysByStar z (star_under e) t v) → (elim o as (λ _. Option Verdict) [ true ↦ Some Open | false ↦ r ]) ≡ Some v → IsSaidBy z ex q t v
gap_says z s true l e q t v g n true same r f h =
    let is : Open ≡ v = cc in (
      sym is ∙ sym (gap_open z l e q t g),
      unaliased z true q t (gap_unredirected z s.aliases true l e (low q) g n) (λ o. absurd (false≢true (sym o ∙ gap_left_open z l e (low q) g))),
    )
gap_says z s false l e q t v g n false same r f h =
    let told = f refl h in (
      told.0 ∙ sym (gap_star z l e q t g),
      unaliased z false q t (gap_unredirected z s.aliases false l e (low q) g n) (λ _. star_unaliased z (low q) t e (gap_gone z false l e (low q) g) (gap_encloser z l e (low q) (low-low q) g) told.1),
    )
gap_says z s true l e q t v g n false same r f h = absurd (false≢true same)
gap_says z s false l e q t v g n true same r f h = absurd (false≢true (sym same))

module _ (z : Zone) (hash : Name → List ℕ) (ex : Bool) (s : IsServable z) (q : Name) (t : ℕ) (l : t < 65536) where
  abbrev AllTrue : List HashLink → Type 0
  AllTrue fs = AllByRecursion (SaysTrulyHash z hash ex q) fs

  -- NS in the bits of an ancestor
  cut_truly : (a : List ℕ) (p : Name) → at_or_above (a ∷ p) q ≡ true → Concerns z q p → (fs : List HashLink) → AllTrue fs → (v : Verdict)
      → first_some (cut_above z.name p (hash (low p))) fs ≡ Some v → IsSaidBy z ex q t v
  cut_truly a p above shares fs all v h =
      let found = first_from (cut_above z.name p (hash (low p))) fs v h in
      let f : HashLink = found.0 in
      let k = all_at (SaysTrulyHash z hash ex q) fs f all found.1.0 in
      let r = on_true (encloses (hash (low p)) f && is_cut z.name p f.bits) (Some Delegated) v found.1.1 in
      let both = and_parts (encloses (hash (low p)) f) (is_cut z.name p f.bits) r.0 in
      let at = (and_parts (is_at (hash (low p)) f) (not (bitmap_has f.bits 39)) both.0).0 in
      let there : kept z ex (low p) ≡ true = kept_lowered z ex p ∙ said_kept z hash ex q f k p shares at in
      let d : is_delegation z (low p) ≡ true = sym (cut_test z p f.bits (kept_inside z ex (low p) there) (said_shows z hash ex q f k p shares at)) ∙ both.1 in
      let is : Delegated ≡ v = cc in
      let strictly : strictly_above p q ≡ true = strictly_above_at p (a ∷ p) q (above_itself p) above in
      let owner = kept_delegation z ex (low p) d there in
      let live = kept_live z ex (low p) owner in
      let up : at_or_above (low p) (low q) ≡ true = above-low p q ∙ strictly_at p q strictly in (
        sym is ∙ sym (verdict_delegated z ex q (low p) t d owner up (and_left (labels_eq (low p) (low q)) (t == 43) (false_from_ne_true (same p q) (strictly_unlike p q strictly)))),
        unaliased z ex q t (cut_unredirected z s.aliases (low q) (low p) d live up) (λ _. cut_unaliased z (low q) t (low p) (cut_from z (low q) (low p) (low-low q) d live up)),
      )

  -- the wildcard, which exists if it has a CNAME
  star_says : (p : Name) → (has z (star_under (low p)) 5 ≡ true → exists z (star_under (low p)) ≡ true) → (f : HashLink) → SaysTrulyHash z hash ex q f → Concerns z q (star_under p) → ex ≡ false → (v : Verdict)
      → star_at (hash (low (star_under p))) t f ≡ Some v → SaysByStar z (star_under (low p)) t v
  star_says p typed f k shares plain v h = go (is_at (hash (low (star_under p))) f) refl h
    where
      star : Name
      star = star_under (low p)

      go : (b : Bool) → is_at (hash (low (star_under p))) f ≡ b
          → (elim b as (λ _. Option Verdict) [ true ↦ elim (star_lacks f.bits t) [ true ↦ Some StarNoType | false ↦ None ] | false ↦ elim (covers_hash (hash (low (star_under p))) f) [ true ↦ Some NoName | false ↦ None ] ]) ≡ Some v
          → SaysByStar z (star_under (low p)) t v
      go true e h =
          let r = on_true (star_lacks f.bits t) (Some StarNoType) v h in
          let is : StarNoType ≡ v = cc in
          let there : exists z (star_under (low p)) ≡ true = kept_exists z ex (star_under (low p)) (kept_lowered z ex (star_under p) ∙ said_kept z hash ex q f k (star_under p) shares e) in
          let shows = said_shows z hash ex q f k (star_under p) shares e in
          let lacking = (and_parts (lacks f.bits t) _ r.0).0 in
          let gone : has z (star_under (low p)) t ≡ false = not_there z (star_under (low p)) f.bits t l shows (inl (no_star_cut z s (star_under (low p)) refl)) lacking in (
            sym is ∙ (λ i. if sym there i then (if sym gone i then StarRecords (data_at z (star_under (low p)) t) else StarNoType) else NoName),
            no_alias z (star_under (low p)) t (lacks_cname z (star_under (low p)) f.bits t shows lacking),
          )
      go false e h =
          let r = on_true (covers_hash (hash (low (star_under p))) f) (Some NoName) v h in
          let is : NoName ≡ v = cc in
          let gone : exists z (star_under (low p)) ≡ false = ap (λ b. kept z b (star_under (low p))) (sym plain) ∙ kept_lowered z ex (star_under p) ∙ said_gone z hash ex q f k (star_under p) shares r.0 in (
            sym is ∙ (λ i. if sym gone i then (if has z (star_under (low p)) t then StarRecords (data_at z (star_under (low p)) t) else StarNoType) else NoName),
            no_alias z (star_under (low p)) t (false_from_ne_true (has z (star_under (low p)) 5) (λ c. false≢true (sym gone ∙ typed c))),
          )

  star_truly : (p : Name) → (has z (star_under (low p)) 5 ≡ true → exists z (star_under (low p)) ≡ true) → Concerns z q (star_under p) → ex ≡ false → (fs : List HashLink) → AllTrue fs → (v : Verdict)
      → first_some (star_at (hash (low (star_under p))) t) fs ≡ Some v → SaysByStar z (star_under (low p)) t v
  star_truly p typed shares plain fs all v h =
      let found = first_from (star_at (hash (low (star_under p))) t) fs v h in
      star_says p typed found.0 (all_at (SaysTrulyHash z hash ex q) fs found.0 all found.1.0) shares plain v found.1.1

  -- a record at an ancestor shows that the ancestor has no DNAME
  no_dname : (p : Name) → Concerns z q p → (fs : List HashLink) → AllTrue fs → list_any (encloses (hash (low p))) fs ≡ true → has z (low p) 39 ≡ false
  no_dname p shares fs all encloser =
      let o = any_of (encloses (hash (low p))) fs encloser in
      let both = and_parts (is_at (hash (low p)) o.0) (not (bitmap_has o.0.bits 39)) o.1.1 in
      sym (said_shows z hash ex q o.0 (all_at (SaysTrulyHash z hash ex q) fs o.0 all o.1.0) p shares both.0).redirect ∙ not-true (bitmap_has o.0.bits 39) both.1

  -- an ancestor that a record matches, which is no delegation, and the next closer name, which one covers
  gap_from : (a : List ℕ) (p : Name) → at_or_above (a ∷ p) q ≡ true → Concerns z q p → Concerns z q (a ∷ p) → (fs : List HashLink) → AllTrue fs
      → first_some (cut_above z.name p (hash (low p))) fs ≡ None → list_any (encloses (hash (low p))) fs ≡ true
      → (f : HashLink) → SaysTrulyHash z hash ex q f → covers_hash (hash (low (a ∷ p))) f ≡ true → IsGap z ex (str_to_ascii_lowercase a) (low p) (low q)
  gap_from a p above shares closer fs all uncut encloser f k covers =
      let o = any_of (encloses (hash (low p))) fs encloser in
      let m = all_at (SaysTrulyHash z hash ex q) fs o.0 all o.1.0 in
      let at = (and_parts (is_at (hash (low p)) o.0) (not (bitmap_has o.0.bits 39)) o.1.1).0 in
      let there : kept z ex (low p) ≡ true = kept_lowered z ex p ∙ said_kept z hash ex q o.0 m p shares at in
      let test = cut_test z p o.0.bits (kept_inside z ex (low p) there) (said_shows z hash ex q o.0 m p shares at) in
      record {
        lowered = low-low (a ∷ p);
        there = there;
        plain = sym test ∙ false_from_ne_true (is_cut z.name p o.0.bits) (λ c.
            let said : cut_above z.name p (hash (low p)) o.0 ≡ Some Delegated = ap (λ b. elim b as (λ _. Option Verdict) [ true ↦ Some Delegated | false ↦ None ]) (and_from _ _ o.1.1 c) in
            let nothing = none_from (cut_above z.name p (hash (low p))) fs uncut o.0 o.1.0 in
            let wrong : Some Delegated ≡ None = sym said ∙ nothing in
            cc);
        gone = kept_lowered z ex (a ∷ p) ∙ said_gone z hash ex q f k (a ∷ p) closer covers;
        above = above-low (a ∷ p) q ∙ above;
      }

  beyond_truly : (a : List ℕ) (p : Name) → at_or_above (a ∷ p) q ≡ true → Concerns z q p → Concerns z q (a ∷ p) → Concerns z q (star_under p) → (fs : List HashLink) → AllTrue fs
      → first_some (cut_above z.name p (hash (low p))) fs ≡ None → list_any (encloses (hash (low p))) fs ≡ true → (v : Verdict)
      → first_some (beyond hash p t fs (hash (low (a ∷ p)))) fs ≡ Some v → IsSaidBy z ex q t v
  beyond_truly a p above shares closer star fs all uncut encloser v h =
      let found = first_from (beyond hash p t fs (hash (low (a ∷ p)))) fs v h in
      let f : HashLink = found.0 in
      let k = all_at (SaysTrulyHash z hash ex q) fs f all found.1.0 in
      let wildcard : Option Verdict = first_some (star_at (hash (low (star_under p))) t) fs in
      let r = on_true (covers_hash (hash (low (a ∷ p))) f) (elim f.opt_out [ true ↦ Some Open | false ↦ wildcard ]) v found.1.1 in
      let gap : IsGap z ex (str_to_ascii_lowercase a) (low p) (low q) = gap_from a p above shares closer fs all uncut encloser f k r.0 in
      gap_says z s ex (str_to_ascii_lowercase a) (low p) q t v gap (no_dname p shares fs all encloser) f.opt_out k.opts wildcard
      (λ plain w. star_truly p (gap_child z ex (str_to_ascii_lowercase a) (low p) (low q) gap (42 ∷ []) 5) star plain fs all v w) r.1

  enclosed_truly : (a : List ℕ) (p : Name) → at_or_above (a ∷ p) q ≡ true → Concerns z q p → Concerns z q (a ∷ p) → Concerns z q (star_under p) → (fs : List HashLink) → AllTrue fs → (v : Verdict)
      → enclosed z.name hash (a ∷ p) p t fs ≡ Some v → IsSaidBy z ex q t v
  enclosed_truly a p above shares closer star fs all v h =
      let covering : Option Verdict = elim (list_any (encloses (hash (low p))) fs) [ true ↦ first_some (beyond hash p t fs (hash (low (a ∷ p)))) fs | false ↦ None ] in
      elim (either_from (first_some (cut_above z.name p (hash (low p))) fs) covering v h) [
        | inl c ↦ cut_truly a p above shares fs all v c
        | inr c ↦
            let r = on_true (list_any (encloses (hash (low p))) fs) (first_some (beyond hash p t fs (hash (low (a ∷ p)))) fs) v c.1 in
            beyond_truly a p above shares closer star fs all c.0 r.0 v r.1
      ]

  pub climbed_truly : at_or_above z.name q ≡ true → (fs : List HashLink) → AllTrue fs → (v : Verdict)
      → by_closest_encloser z.name hash q t fs ≡ Some v → IsSaidBy z ex q t v
  climbed_truly inside fs all v h =
      let k = climbed_from z.name hash q t fs v inside h in
      let p : Name = k.parent in
      let apex : at_or_above (apex_of z) p ≡ true = lowered_above z.name p ∙ k.inside in
      let under : strictly_above p q ≡ true = strictly_above_at p (k.label ∷ p) q (above_itself p) k.above in
      let closer : at_or_above (apex_of z) (k.label ∷ p) ≡ true = strictly_at (apex_of z) (k.label ∷ p) apex in
      enclosed_truly k.label p k.above (concerns_name (apex_of z) p q apex (strictly_at p q under)) (concerns_name (apex_of z) (k.label ∷ p) q closer k.above) (concerns_star (apex_of z) p q apex under) fs all v k.enclosed
