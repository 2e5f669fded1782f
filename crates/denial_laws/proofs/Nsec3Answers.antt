-- Where the NSEC3 records are there that speak for a name, its closest encloser, the next closer name or the wildcard, a rule answers.
use Rattle.std.proofs.Common.{◌≡◌, ℕ, ◌<◌, ◌≤◌, Bool, true, false, List, [], ◌∷◌, length, Option, Some, None, refl, sym, ap, ◌∙◌, ◌⊎◌, inl, inr, arith}
use Rattle.std.specs.List.{list_any}
use Rattle.std.proofs.lemmas.Bool.{and_from, or_right, not_from_false, false≢true, false_from_ne_true}
use Rattle.definitions.specs.Name.{Name, low, same, at_or_above, strictly_above}
use Rattle.definitions.specs.Bitmap.{bitmap_has}
use Rattle.definitions.specs.Zone.{Zone, Verdict, NoName, StarNoType, Delegated, Open, apex_of, kept, star_under}
use Rattle.definitions.proofs.Members.{any_in}
use Rattle.definitions.proofs.ZoneNames.{low-low, above_itself, above_longer}
use Rattle.denial_laws.specs.Facts.{HashLink}
use Rattle.denial_laws.specs.NsecRules.{first_some, is_cut, star_lacks, at_name}
use Rattle.denial_laws.specs.Nsec3Rules.{is_at, covers_hash, is_matched, at_hash, encloses, cut_above, star_at, beyond, enclosed, by_closest_encloser, hash_denied}
use Rattle.denial_laws.proofs.NameFacts.{same_names, names_same, above_cases, above_trans, strictly_at, at_strictly_above, strictly_shorter, strictly_unlike}
use Rattle.denial_laws.proofs.AtName.{Answers}
use Rattle.denial_laws.proofs.Found.{left_is, right_is, first_is}
use Rattle.denial_laws.proofs.OwnHashes.{IsAmong}
use Rattle.denial_laws.proofs.KeptAncestor.{IsKeptParent}
use Rattle.denial_laws.proofs.ZoneCuts.{kept_inside}

-- ---- a record of the name

module _ (apex : Name) (hash : Name → List ℕ) (t : ℕ) (fs : List HashLink) where
  pub matched_answers : (q : Name) (f : IsAmong fs (is_at (hash (low q)))) → Answers (at_name apex q t f.link.bits) → Answers (hash_denied apex hash q t fs)
  matched_answers q f a =
      let h : List ℕ = hash (low q) in
      let here : at_hash apex q t h f.link ≡ Some a.0 = ap (λ b. elim b as (λ _. Option Verdict) [ true ↦ at_name apex q t f.link.bits | false ↦ None ]) f.passes ∙ a.1 in
      let first = first_is (at_hash apex q t h) fs f.link a.0 f.inside here in
      (first.0, ap (λ b. elim b as (λ _. Option Verdict) [ true ↦ first_some (at_hash apex q t h) fs | false ↦ by_closest_encloser apex hash q t fs ]) (any_in (is_at h) fs f.link f.inside f.passes) ∙ first.1)

  -- ---- records of the closest encloser and of names below it

  -- a delegation
  pub above_answers : (a : List ℕ) (p : Name) (f : IsAmong fs (is_at (hash (low p)))) → bitmap_has f.link.bits 39 ≡ false → is_cut apex p f.link.bits ≡ true → Answers (enclosed apex hash (a ∷ p) p t fs)
  above_answers a p f plain cut =
      let h : List ℕ = hash (low p) in
      let here : cut_above apex p h f.link ≡ Some Delegated = ap (λ b. elim b as (λ _. Option Verdict) [ true ↦ Some Delegated | false ↦ None ]) (and_from _ _ (and_from _ _ f.passes (not_from_false _ plain)) cut) in
      let first = first_is (cut_above apex p h) fs f.link Delegated f.inside here in
      left_is (first_some (cut_above apex p h) fs) _ first.0 first.1

  -- the next closer name is covered: by a record that opts out, or the wildcard answers
  beyond_answers : (p : Name) (h : List ℕ) (g : HashLink) → covers_hash h g ≡ true → (g.opt_out ≡ true) ⊎ Answers (first_some (star_at (hash (low (star_under p))) t) fs) → Answers (beyond hash p t fs h g)
  beyond_answers p h g c o =
      let within : Option Verdict = elim g.opt_out [ true ↦ Some Open | false ↦ first_some (star_at (hash (low (star_under p))) t) fs ] in
      let inner : Answers within = go g.opt_out refl in
      (inner.0, ap (λ b. elim b as (λ _. Option Verdict) [ true ↦ within | false ↦ None ]) c ∙ inner.1)
    where
      go : (b : Bool) → g.opt_out ≡ b → Answers (elim b as (λ _. Option Verdict) [ true ↦ Some Open | false ↦ first_some (star_at (hash (low (star_under p))) t) fs ])
      go true e = (Open, refl)
      go false e = elim o [
        | inl y ↦ absurd (false≢true (sym e ∙ y))
        | inr w ↦ w
      ]

  pub gap_answers : (a : List ℕ) (p : Name) (f : IsAmong fs (is_at (hash (low p)))) → bitmap_has f.link.bits 39 ≡ false → (g : IsAmong fs (covers_hash (hash (low (a ∷ p)))))
      → (g.link.opt_out ≡ true) ⊎ Answers (first_some (star_at (hash (low (star_under p))) t) fs) → Answers (enclosed apex hash (a ∷ p) p t fs)
  gap_answers a p f plain g o =
      let h : List ℕ = hash (low (a ∷ p)) in
      let here = beyond_answers p h g.link g.passes o in
      let first = first_is (beyond hash p t fs h) fs g.link here.0 g.inside here.1 in
      let encloser : list_any (encloses (hash (low p))) fs ≡ true = any_in (encloses (hash (low p))) fs f.link f.inside (and_from _ _ f.passes (not_from_false _ plain)) in
      right_is (first_some (cut_above apex p (hash (low p))) fs) _ first.0
      (ap (λ b. elim b as (λ _. Option Verdict) [ true ↦ first_some (beyond hash p t fs h) fs | false ↦ None ]) encloser ∙ first.1)

  -- the wildcard's own record without the type, or one that covers it
  pub star_matched : (e : Name) (f : IsAmong fs (is_at (hash (low (star_under e))))) → star_lacks f.link.bits t ≡ true → Answers (first_some (star_at (hash (low (star_under e))) t) fs)
  star_matched e f n =
      let h : List ℕ = hash (low (star_under e)) in
      let other : Option Verdict = elim (covers_hash h f.link) [ true ↦ Some NoName | false ↦ None ] in
      first_is (star_at h t) fs f.link StarNoType f.inside
      (λ i. elim (f.passes i) as (λ _. Option Verdict) [ true ↦ elim (n i) [ true ↦ Some StarNoType | false ↦ None ] | false ↦ other ])

  pub star_covered : (e : Name) (f : IsAmong fs (covers_hash (hash (low (star_under e))))) → is_at (hash (low (star_under e))) f.link ≡ false → Answers (first_some (star_at (hash (low (star_under e))) t) fs)
  star_covered e f n =
      let h : List ℕ = hash (low (star_under e)) in
      let other : Option Verdict = elim (star_lacks f.link.bits t) [ true ↦ Some StarNoType | false ↦ None ] in
      first_is (star_at h t) fs f.link NoName f.inside
      (λ i. elim (n i) as (λ _. Option Verdict) [ true ↦ other | false ↦ elim (f.passes i) [ true ↦ Some NoName | false ↦ None ] ])

-- ---- the climb

-- it stops at the longest kept ancestor
pub record Climbs (apex : Name) (hash : Name → List ℕ) (t : ℕ) (fs : List HashLink) (q e : Name) : Type 0 where
  pub label : List ℕ
  pub parent : Name
  pub is : low parent ≡ low e
  pub above : at_or_above (label ∷ parent) q ≡ true
  pub stops : by_closest_encloser apex hash q t fs ≡ enclosed apex hash (label ∷ parent) parent t fs

module _ (z : Zone) (ex : Bool) (hash : Name → List ℕ) (t : ℕ) (fs : List HashLink) where
  -- no record has the hash of a name on the way that is not kept
  abbrev Unmatched : Name → Type 0
  Unmatched q = (n : Name) → at_or_above (apex_of z) n ≡ true → at_or_above n q ≡ true → kept z ex n ≡ false → is_matched fs (hash (low n)) ≡ false

  abbrev step : Bool → Bool → List ℕ → Name → Option Verdict
  step b c l p = elim b as (λ _. Option Verdict) [ true ↦ None | false ↦ elim c [ true ↦ enclosed z.name hash (l ∷ p) p t fs | false ↦ by_closest_encloser z.name hash p t fs ] ]

  pub climbs : (q e : Name) → IsKeptParent z ex q e → Unmatched q → is_matched fs (hash (low e)) ≡ true → Climbs z.name hash t fs q e
  climbs [] e k u m = absurd (false≢true k.above)
  climbs (l ∷ p) e k u m = elim (above_cases e p k.above) [
    | inl s ↦
        let is : low p ≡ low e = sym (same_names e p s) in
        record {
          label = l;
          parent = p;
          is = is;
          above = above_itself (l ∷ p);
          stops = λ i. step (inner i) ((ap (λ n. is_matched fs (hash n)) is ∙ m) i) l p;
        }
    | inr s ↦
        let inside : at_or_above (apex_of z) p ≡ true = above_trans (apex_of z) e p (kept_inside z ex e k.there) (strictly_at e p s) in
        let gone : kept z ex p ≡ false = false_from_ne_true (kept z ex p) (λ h.
        let short : length e < length p = strictly_shorter e p s in
        let long : length p ≤ length e = above_longer p e (k.longest p h (above_itself p)) in
        omega arith) in
        let r : Climbs z.name hash t fs p e = climbs p e (record { there = k.there; above = s; longest = λ n h a. k.longest n h (strictly_at n p a) }) (λ n i a. u n i (or_right (same n (l ∷ p)) (at_or_above n p) a)) m in
        record {
          label = r.label;
          parent = r.parent;
          is = r.is;
          above = or_right (same (r.label ∷ r.parent) (l ∷ p)) (at_or_above (r.label ∷ r.parent) p) r.above;
          stops = (λ i. step (inner i) (u p inside (or_right (same p (l ∷ p)) (at_or_above p p) (above_itself p)) gone i) l p) ∙ r.stops;
        }
  ]
    where
      -- the name on the way is not the apex, which is at or above a kept ancestor
      inner : same (l ∷ p) z.name ≡ false
      inner = false_from_ne_true (same (l ∷ p) z.name) (λ s.
          let strictly : strictly_above (apex_of z) (l ∷ p) ≡ true = at_strictly_above (apex_of z) e (l ∷ p) (kept_inside z ex e k.there) k.above in
          strictly_unlike (apex_of z) (l ∷ p) strictly (names_same (apex_of z) (l ∷ p) (low-low z.name ∙ sym (same_names (l ∷ p) z.name s))))
