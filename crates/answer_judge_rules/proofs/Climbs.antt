-- Going up from a name that no record matches.
use Rattle.std.proofs.Common.{◌≡◌, ℕ, Bool, true, false, ◌&&◌, List, [], ◌∷◌, drop, refl, sym, ap, ◌∙◌}
use Rattle.std.specs.Prelude.{Option, Some, None}
use Rattle.std.specs.List.{list_any}
use Rattle.definitions.specs.Name.{Name, low, same}
use Rattle.definitions.specs.Zone.{Verdict, star_under}
use Rattle.denial_laws.specs.Facts.{HashLink}
use Rattle.denial_laws.specs.NsecRules.{first_some, or_else}
use Rattle.denial_laws.specs.Nsec3Rules.{asks_star, beyond, by_closest_encloser, cut_above, enclosed, encloses, hashed_climbing, hashed_denied, hashed_enclosed, is_matched}
use Rattle.answer_judge_rules.specs.Hashing.{hashed_beyond}

-- a name below another has one label more
pub child_of : (q p : Name) → p ≡ drop 1 q → (q ≡ [] → ⊥) → (l : List ℕ) × (q ≡ l ∷ p)
child_of [] p e n = absurd (n refl)
child_of (l ∷ q) p e n = (l, ap (λ m. l ∷ m) (sym e))

module _ (apex : Name) (hash : Name → List ℕ) (fs : List HashLink) where
  -- ---- the apex, and the root

  pub climbed_out : (q : Name) (t : ℕ) → same q apex ≡ true → by_closest_encloser apex hash q t fs ≡ None
  climbed_out [] t e = refl
  climbed_out (l ∷ p) t e = ap (λ (b : Bool). elim b as (λ _. Option Verdict) [ true ↦ None | false ↦ elim (is_matched fs (hash (low p))) [ true ↦ enclosed apex hash (l ∷ p) p t fs | false ↦ by_closest_encloser apex hash p t fs ] ]) e

  pub hashed_out : (q : Name) → same q apex ≡ true → hashed_climbing apex hash q fs ≡ []
  hashed_out [] e = refl
  hashed_out (l ∷ p) e = ap (λ (b : Bool). elim b as (λ _. List Name) [ true ↦ [] | false ↦ p ∷ elim (is_matched fs (hash (low p))) [ true ↦ hashed_enclosed apex hash (l ∷ p) p fs | false ↦ hashed_climbing apex hash p fs ] ]) e

  -- ---- a parent

  pub climbed_to : (q p : Name) (l : List ℕ) (t : ℕ) (m : Bool) → q ≡ l ∷ p → same q apex ≡ false → is_matched fs (hash (low p)) ≡ m
      → by_closest_encloser apex hash q t fs ≡ (elim m as (λ _. Option Verdict) [ true ↦ enclosed apex hash q p t fs | false ↦ by_closest_encloser apex hash p t fs ])
  climbed_to q p l t m e a h =
      ap (λ n. by_closest_encloser apex hash n t fs) e
      ∙ ap (λ (b : Bool). elim b as (λ _. Option Verdict) [ true ↦ None | false ↦ elim (is_matched fs (hash (low p))) [ true ↦ enclosed apex hash (l ∷ p) p t fs | false ↦ by_closest_encloser apex hash p t fs ] ]) (ap (λ n. same n apex) (sym e) ∙ a)
      ∙ ap (λ (b : Bool). elim b as (λ _. Option Verdict) [ true ↦ enclosed apex hash (l ∷ p) p t fs | false ↦ by_closest_encloser apex hash p t fs ]) h
      ∙ ap (λ n. elim m as (λ _. Option Verdict) [ true ↦ enclosed apex hash n p t fs | false ↦ by_closest_encloser apex hash p t fs ]) (sym e)

  pub hashed_to : (q p : Name) (l : List ℕ) (m : Bool) → q ≡ l ∷ p → same q apex ≡ false → is_matched fs (hash (low p)) ≡ m
      → hashed_climbing apex hash q fs ≡ p ∷ (elim m as (λ _. List Name) [ true ↦ hashed_enclosed apex hash q p fs | false ↦ hashed_climbing apex hash p fs ])
  hashed_to q p l m e a h =
      ap (λ n. hashed_climbing apex hash n fs) e
      ∙ ap (λ (b : Bool). elim b as (λ _. List Name) [ true ↦ [] | false ↦ p ∷ elim (is_matched fs (hash (low p))) [ true ↦ hashed_enclosed apex hash (l ∷ p) p fs | false ↦ hashed_climbing apex hash p fs ] ]) (ap (λ n. same n apex) (sym e) ∙ a)
      ∙ ap (λ (b : Bool). p ∷ (elim b as (λ _. List Name) [ true ↦ hashed_enclosed apex hash (l ∷ p) p fs | false ↦ hashed_climbing apex hash p fs ])) h
      ∙ ap (λ n. p ∷ (elim m as (λ _. List Name) [ true ↦ hashed_enclosed apex hash n p fs | false ↦ hashed_climbing apex hash p fs ])) (sym e)

  -- the parent is hashed whether it is matched or not
  pub hashed_on : (q p : Name) (l : List ℕ) → q ≡ l ∷ p → same q apex ≡ false → (ns : List Name) × (hashed_climbing apex hash q fs ≡ p ∷ ns)
  hashed_on q p l e a = ((elim (is_matched fs (hash (low p))) as (λ _. List Name) [ true ↦ hashed_enclosed apex hash q p fs | false ↦ hashed_climbing apex hash p fs ]), hashed_to q p l (is_matched fs (hash (low p))) e a refl)

  -- ---- the closest encloser

  pub enclosed_so : (closer e : Name) (t : ℕ) (cut : Option Verdict) (m : Bool)
      → first_some (cut_above apex e (hash (low e))) fs ≡ cut → list_any (encloses (hash (low e))) fs ≡ m
      → enclosed apex hash closer e t fs ≡ or_else cut (elim m as (λ _. Option Verdict) [ true ↦ first_some (beyond hash e t fs (hash (low closer))) fs | false ↦ None ])
  enclosed_so closer e t cut m c h = λ i. or_else (c i) (elim (h i) as (λ _. Option Verdict) [ true ↦ first_some (beyond hash e t fs (hash (low closer))) fs | false ↦ None ])

  starred : (m asks : Bool) (s : List Name)
      → (elim (m && asks) as (λ _. List Name) [ true ↦ s | false ↦ [] ])
      ≡ (elim m as (λ _. List Name) [ true ↦ elim asks [ true ↦ s | false ↦ [] ] | false ↦ [] ])
  starred false asks s = refl
  starred true asks s = refl

  pub hashed_enclosed_so : (closer e : Name) (cut : Option Verdict) (m : Bool)
      → first_some (cut_above apex e (hash (low e))) fs ≡ cut → list_any (encloses (hash (low e))) fs ≡ m
      → hashed_enclosed apex hash closer e fs ≡ (elim cut as (λ _. List Name) [ Some v ↦ [] | None ↦ elim m [ true ↦ hashed_beyond (hash (low closer)) e fs | false ↦ [] ] ])
  hashed_enclosed_so closer e cut m c h =
      (λ i. elim (c i) as (λ _. List Name) [
        | Some v ↦ []
        | None ↦ elim (h i && asks_star (hash (low closer)) fs) [ true ↦ star_under e ∷ [] | false ↦ [] ]
      ])
      ∙ ap (λ ns. elim cut as (λ _. List Name) [ Some v ↦ [] | None ↦ ns ]) (starred m (asks_star (hash (low closer)) fs) (star_under e ∷ []))

-- ---- the name itself

pub denied_so : (apex : Name) (hash : Name → List ℕ) (fs : List HashLink) (q : Name) (t : ℕ) (m : Bool) → is_matched fs (hash (low q)) ≡ m
    → hashed_denied apex hash q fs ≡ q ∷ (elim m as (λ _. List Name) [ true ↦ [] | false ↦ hashed_climbing apex hash q fs ])
denied_so apex hash fs q t m h = ap (λ (b : Bool). q ∷ (elim b as (λ _. List Name) [ true ↦ [] | false ↦ hashed_climbing apex hash q fs ])) h
