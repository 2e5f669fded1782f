-- What true NSEC3 records decide, more true ones decide too: a name that one more of them matches is kept, and then the others decide
-- nothing by an ancestor of it.
use Rattle.std.proofs.Common.{◌≡◌, ℕ, ◌+◌, Bool, true, false, not, ◌&&◌, List, [], ◌∷◌, Option, Some, None, refl, sym, ◌∙◌, inl, inr}
use Rattle.std.specs.List.{list_any}
use Rattle.std.proofs.lemmas.Bool.{and_parts, or_cases, or_right, false≢true}
use Rattle.definitions.specs.Bitmap.{bitmap_has}
use Rattle.definitions.specs.Name.{Name, at_or_above, low, same}
use Rattle.definitions.specs.Zone.{Delegated, Open, Verdict, Zone, apex_of, is_delegation, kept, star_under}
use Rattle.definitions.proofs.Members.{In, any_in, any_of}
use Rattle.definitions.proofs.ZoneNames.{above_itself, lowered_above, above_lowered}
use Rattle.denial_laws.specs.Facts.{HashLink, Rrset}
use Rattle.denial_laws.specs.NsecRules.{first_some, is_cut}
use Rattle.denial_laws.specs.Nsec3Rules.{at_hash, beyond, by_closest_encloser, covers_hash, cut_above, enclosed, encloses, hash_denied, hash_expanded, hash_expanded_by, is_at, is_matched, last_labels, star_at}
use Rattle.denial_laws.specs.Truth.{Concerns, SaysTrulyHash}
use Rattle.denial_laws.proofs.AtName.{Answers, on_true}
use Rattle.denial_laws.proofs.ChainBits.{cut_test}
use Rattle.denial_laws.proofs.Found.{either_from, first_from, left_is, right_is}
use Rattle.denial_laws.proofs.HashChain.{concerns_name}
use Rattle.denial_laws.proofs.HashSays.{said_gone, said_kept, said_shows}
use Rattle.denial_laws.proofs.NameFacts.{above_trans, names_same, same_names}
use Rattle.denial_laws.proofs.ZoneCuts.{kept_uncut, kept_up}
use Rattle.fact_laws.proofs.MoreLinks.{more_answer}

-- ---- whichever records these are

module _ (apex : Name) (hash : Name → List ℕ) (t : ℕ) (fs gs : List HashLink) (more : (l : HashLink) → In l fs → In l gs) where
  pub any_more : (p : HashLink → Bool) → list_any p fs ≡ true → list_any p gs ≡ true
  any_more p h = let found = any_of p fs h in any_in p gs found.0 (more found.0 found.1.0) found.1.1

  abbrev gap : List HashLink → Name → Bool → Bool → Option Verdict
  gap ls e c o = elim c [
    | true ↦ elim o [ true ↦ Some Open | false ↦ first_some (star_at (hash (low (star_under e))) t) ls ]
    | false ↦ None
  ]

  beyond_more : (e : Name) (h : List ℕ) (l : HashLink) (v : Verdict) → beyond hash e t fs h l ≡ Some v → Answers (beyond hash e t gs h l)
  beyond_more e h l v is = go (covers_hash h l) l.opt_out is
    where
      go : (c o : Bool) → gap fs e c o ≡ Some v → Answers (gap gs e c o)
      go true true is = (Open, refl)
      go true false is = more_answer (star_at (hash (low (star_under e))) t) (star_at (hash (low (star_under e))) t) fs gs more (λ x w k. (w, k)) v is
      go false o is = absurd cc

  abbrev onward : List HashLink → Name → Name → Bool → Option Verdict
  onward ls closer e b = elim b [ true ↦ first_some (beyond hash e t ls (hash (low closer))) ls | false ↦ None ]

  pub enclosed_more : (closer e : Name) (v : Verdict) → enclosed apex hash closer e t fs ≡ Some v → Answers (enclosed apex hash closer e t gs)
  enclosed_more closer e v is = elim (either_from (first_some (cut_above apex e (hash (low e))) fs) (onward fs closer e (list_any (encloses (hash (low e))) fs)) v is) [
    | inl here ↦
        let told = more_answer (cut_above apex e (hash (low e))) (cut_above apex e (hash (low e))) fs gs more (λ x w k. (w, k)) v here in
        left_is (first_some (cut_above apex e (hash (low e))) gs) (onward gs closer e (list_any (encloses (hash (low e))) gs)) told.0 told.1
    | inr there ↦
        let r = on_true (list_any (encloses (hash (low e))) fs) (first_some (beyond hash e t fs (hash (low closer))) fs) v there.1 in
        let told = more_answer (beyond hash e t fs (hash (low closer))) (beyond hash e t gs (hash (low closer))) fs gs more (beyond_more e (hash (low closer))) v r.1 in
        right_is (first_some (cut_above apex e (hash (low e))) gs) (onward gs closer e (list_any (encloses (hash (low e))) gs)) told.0
        ((λ i. onward gs closer e (any_more (encloses (hash (low e))) r.0 i)) ∙ told.1)
  ]

  pub hash_expanded_more : (q : Name) (r : Rrset) (v : Verdict) → hash_expanded hash q r fs ≡ Some v → Answers (hash_expanded hash q r gs)
  hash_expanded_more q r v is =
      let h : List ℕ = hash (low (last_labels (r.labels + 1) q)) in
      more_answer (hash_expanded_by h r) (hash_expanded_by h r) fs gs more (λ x w k. (w, k)) v is

-- ---- of a zone

module _ (z : Zone) (hash : Name → List ℕ) (ex : Bool) (q : Name) (t : ℕ) (fs gs : List HashLink) (more : (l : HashLink) → In l fs → In l gs) (are : (l : HashLink) → In l gs → SaysTrulyHash z hash ex q l) where
  concerns : (n : Name) → at_or_above (apex_of z) n ≡ true → at_or_above n q ≡ true → Concerns z q n
  concerns n i a = concerns_name (apex_of z) n q i a

  -- a name that a record matches is kept
  matched : (n : Name) → at_or_above (apex_of z) n ≡ true → at_or_above n q ≡ true → is_matched gs (hash (low n)) ≡ true → kept z ex n ≡ true
  matched n i a h =
      let found = any_of (is_at (hash (low n))) gs h in
      said_kept z hash ex q found.0 (are found.0 found.1.0) n (concerns n i a) found.1.1

  -- ---- on the way up

  abbrev step : Bool → Bool → Option Verdict → Option Verdict → Option Verdict
  step b c here up = elim b [ true ↦ None | false ↦ elim c [ true ↦ here | false ↦ up ] ]

  -- the parent of a name that is not the apex is at or below it
  parent_inside : (l : List ℕ) (p : Name) → at_or_above (apex_of z) (l ∷ p) ≡ true → same (l ∷ p) z.name ≡ false → at_or_above (apex_of z) p ≡ true
  parent_inside l p i n = elim (or_cases (same z.name (l ∷ p)) (at_or_above z.name p) (sym (lowered_above z.name (l ∷ p)) ∙ i)) [
    | inl e ↦ absurd (false≢true (sym n ∙ names_same (l ∷ p) z.name (sym (same_names z.name (l ∷ p) e))))
    | inr a ↦ lowered_above z.name p ∙ a
  ]

  parent_above : (l : List ℕ) (p : Name) → at_or_above p (l ∷ p) ≡ true
  parent_above l p = or_right (same p (l ∷ p)) (at_or_above p p) (above_itself p)

  -- of a kept name no rule at an ancestor answers
  enclosed_never : (l : List ℕ) (p : Name) → at_or_above (apex_of z) p ≡ true → at_or_above (apex_of z) (l ∷ p) ≡ true → at_or_above (l ∷ p) q ≡ true → kept z ex (l ∷ p) ≡ true → (v : Verdict) → enclosed z.name hash (l ∷ p) p t fs ≡ Some v → ⊥
  enclosed_never l p i child above k v is = elim (either_from (first_some (cut_above z.name p (hash (low p))) fs) (onward z.name hash t fs gs more fs (l ∷ p) p (list_any (encloses (hash (low p))) fs)) v is) [
    | inl here ↦
        let found = first_from (cut_above z.name p (hash (low p))) fs v here in
        let f : HashLink = found.0 in
        let f_true = are f (more f found.1.0) in
        let r = on_true (encloses (hash (low p)) f && is_cut z.name p f.bits) (Some Delegated) v found.1.1 in
        let both = and_parts (encloses (hash (low p)) f) (is_cut z.name p f.bits) r.0 in
        let at = (and_parts (is_at (hash (low p)) f) (not (bitmap_has f.bits 39)) both.0).0 in
        let cut : is_delegation z (low p) ≡ true = sym (cut_test z p f.bits (above_lowered (apex_of z) p ∙ i) (said_shows z hash ex q f f_true p (concerns p i (above_trans p (l ∷ p) q (parent_above l p) above)) at)) ∙ both.1 in
        kept_uncut z ex (l ∷ p) k (low p) cut (lowered_above p p ∙ above_itself p)
    | inr there ↦
        let r = on_true (list_any (encloses (hash (low p))) fs) (first_some (beyond hash p t fs (hash (low (l ∷ p)))) fs) v there.1 in
        let found = first_from (beyond hash p t fs (hash (low (l ∷ p)))) fs v r.1 in
        let f : HashLink = found.0 in
        let covers = on_true (covers_hash (hash (low (l ∷ p))) f) (elim f.opt_out [ true ↦ Some Open | false ↦ first_some (star_at (hash (low (star_under p))) t) fs ]) v found.1.1 in
        false≢true (sym (said_gone z hash ex q f (are f (more f found.1.0)) (l ∷ p) (concerns (l ∷ p) child above) covers.0) ∙ k)
  ]

  never : (n : Name) → at_or_above (apex_of z) n ≡ true → at_or_above n q ≡ true → kept z ex n ≡ true → (v : Verdict) → by_closest_encloser z.name hash n t fs ≡ Some v → ⊥
  never [] i a k v is = absurd cc
  never (l ∷ p) i a k v is = go (same (l ∷ p) z.name) refl (is_matched fs (hash (low p))) is (λ j b m w. never p j b m w)
    where
      up : at_or_above p q ≡ true
      up = above_trans p (l ∷ p) q (parent_above l p) a

      go : (b : Bool) → same (l ∷ p) z.name ≡ b → (c : Bool) → step b c (enclosed z.name hash (l ∷ p) p t fs) (by_closest_encloser z.name hash p t fs) ≡ Some v
          → (at_or_above (apex_of z) p ≡ true → at_or_above p q ≡ true → kept z ex p ≡ true → (w : Verdict) → by_closest_encloser z.name hash p t fs ≡ Some w → ⊥) → ⊥
      go true n c is f = absurd cc
      go false n true is f = enclosed_never l p (parent_inside l p i n) i a k v is
      go false n false is f = f (parent_inside l p i n) up (kept_up z ex p (l ∷ p) k (parent_above l p) (parent_inside l p i n)) v is

  climb_more : (n : Name) → at_or_above (apex_of z) n ≡ true → at_or_above n q ≡ true → (v : Verdict) → by_closest_encloser z.name hash n t fs ≡ Some v → Answers (by_closest_encloser z.name hash n t gs)
  climb_more [] i a v is = absurd cc
  climb_more (l ∷ p) i a v is = go (same (l ∷ p) z.name) refl (is_matched fs (hash (low p))) refl (is_matched gs (hash (low p))) refl is (λ j b w. climb_more p j b w)
    where
      up : at_or_above p q ≡ true
      up = above_trans p (l ∷ p) q (parent_above l p) a

      here : List HashLink → Option Verdict
      here ls = enclosed z.name hash (l ∷ p) p t ls

      above : List HashLink → Option Verdict
      above ls = by_closest_encloser z.name hash p t ls

      go : (b : Bool) → same (l ∷ p) z.name ≡ b → (c : Bool) → is_matched fs (hash (low p)) ≡ c → (d : Bool) → is_matched gs (hash (low p)) ≡ d → step b c (here fs) (above fs) ≡ Some v
          → (at_or_above (apex_of z) p ≡ true → at_or_above p q ≡ true → (w : Verdict) → above fs ≡ Some w → Answers (above gs)) → Answers (by_closest_encloser z.name hash (l ∷ p) t gs)
      go true n c m d o is f = absurd cc
      go false n true m true o is f =
          let told = enclosed_more z.name hash t fs gs more (l ∷ p) p v is in
          (told.0, (λ j. step (n j) (o j) (here gs) (above gs)) ∙ told.1)
      go false n true m false o is f = absurd (false≢true (sym o ∙ any_more z.name hash t fs gs more (is_at (hash (low p))) m))
      go false n false m true o is f = absurd (never p (parent_inside l p i n) up (matched p (parent_inside l p i n) up o) v is)
      go false n false m false o is f =
          let told = f (parent_inside l p i n) up v is in
          (told.0, (λ j. step (n j) (o j) (here gs) (above gs)) ∙ told.1)

  -- ---- from the name

  pub hash_denied_more : at_or_above (apex_of z) q ≡ true → (v : Verdict) → hash_denied z.name hash q t fs ≡ Some v → Answers (hash_denied z.name hash q t gs)
  hash_denied_more inside v is = go (is_matched fs (hash (low q))) refl (is_matched gs (hash (low q))) refl is
    where
      here : List HashLink → Option Verdict
      here ls = first_some (at_hash z.name q t (hash (low q))) ls

      above : List HashLink → Option Verdict
      above ls = by_closest_encloser z.name hash q t ls

      by_match : List HashLink → Bool → Option Verdict
      by_match ls b = elim b [ true ↦ here ls | false ↦ above ls ]

      go : (c : Bool) → is_matched fs (hash (low q)) ≡ c → (d : Bool) → is_matched gs (hash (low q)) ≡ d → by_match fs c ≡ Some v → Answers (hash_denied z.name hash q t gs)
      go true m true o is =
          let told = more_answer (at_hash z.name q t (hash (low q))) (at_hash z.name q t (hash (low q))) fs gs more (λ x w k. (w, k)) v is in
          (told.0, (λ j. by_match gs (o j)) ∙ told.1)
      go true m false o is = absurd (false≢true (sym o ∙ any_more z.name hash t fs gs more (is_at (hash (low q))) m))
      go false m true o is = absurd (never q inside (above_itself q) (matched q inside (above_itself q) o) v is)
      go false m false o is =
          let told = climb_more q inside (above_itself q) v is in
          (told.0, (λ j. by_match gs (o j)) ∙ told.1)
