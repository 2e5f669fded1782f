-- What links say of a gap at the next closer name.
use Rattle.std.proofs.Common.{◌≡◌, ℕ, Bool, true, false, ◌&&◌, ◌||◌, List, [], ◌∷◌, refl, ap, ◌∙◌}
use Rattle.std.specs.Prelude.{Option, Some, None, not}
use Rattle.std.specs.List.{list_any}
use Rattle.definitions.specs.Name.{Name, low}
use Rattle.definitions.specs.Zone.{Verdict, Open, StarRecords, star_under}
use Rattle.denial_laws.specs.Facts.{HashLink, Rrset}
use Rattle.denial_laws.specs.NsecRules.{first_some, or_else}
use Rattle.denial_laws.specs.Nsec3Rules.{asks_star, beyond, covers_hash, hash_expanded_by, star_at}
use Rattle.answer_judge_rules.specs.Hashing.{open_among, opens}

-- a covering record opts out, or says this
abbrev pub gap : Option Verdict → List ℕ → HashLink → Option Verdict
gap s h f = elim (covers_hash h f) [
  | true ↦ elim f.opt_out [ true ↦ Some Open | false ↦ s ]
  | false ↦ None
]

-- what the first record says that covers the hash, or else what is open
abbrev pub said : Option Verdict → List ℕ → List HashLink → Option Verdict
said s h fs = elim (asks_star h fs) [ true ↦ or_else s (open_among h fs) | false ↦ open_among h fs ]

abbrev first_of : Option Verdict → Option Verdict → Option Verdict
first_of o rest = elim o [ None ↦ rest | Some y ↦ Some y ]

-- where this is nothing, what is open is left
left : (h : List ℕ) (fs : List HashLink) → said None h fs ≡ open_among h fs
left h fs = go (asks_star h fs)
  where
    go : (b : Bool) → (elim b as (λ _. Option Verdict) [ true ↦ open_among h fs | false ↦ open_among h fs ]) ≡ open_among h fs
    go true = refl
    go false = refl

abbrev opened : Bool → Option Verdict
opened b = elim b [ true ↦ Some Open | false ↦ None ]

step : (s : Option Verdict) (covered out asked gaping : Bool) (rest : Option Verdict) → (s ≡ None → rest ≡ opened gaping)
    → rest ≡ (elim asked as (λ _. Option Verdict) [ true ↦ or_else s (opened gaping) | false ↦ opened gaping ])
    → first_of (elim covered as (λ _. Option Verdict) [ true ↦ elim out [ true ↦ Some Open | false ↦ s ] | false ↦ None ]) rest
    ≡ (elim (elim covered as (λ _. Bool) [ true ↦ not out | false ↦ asked ]) as (λ _. Option Verdict) [ true ↦ or_else s (opened ((covered && out) || gaping)) | false ↦ opened ((covered && out) || gaping) ])
step s false out asked gaping rest k e = e
step s true true asked gaping rest k e = refl
step (Some v) true false asked gaping rest k e = refl
step None true false asked gaping rest k e = k refl

pub gaps : (s : Option Verdict) (h : List ℕ) (fs : List HashLink) → first_some (gap s h) fs ≡ said s h fs
gaps s h [] = refl
gaps s h (f ∷ fs) = step s (covers_hash h f) f.opt_out (asks_star h fs) (list_any (opens h) fs) (first_some (gap s h) fs)
    (λ e. gaps s h fs ∙ ap (λ t. said t h fs) e ∙ left h fs)
    (gaps s h fs)

-- ---- the rules

pub beyond_gaps : (hash : Name → List ℕ) (e : Name) (t : ℕ) (fs : List HashLink) (h : List ℕ) (gs : List HashLink) → first_some (beyond hash e t fs h) gs ≡ said (first_some (star_at (hash (low (star_under e))) t) fs) h gs
beyond_gaps hash e t fs h gs = gaps (first_some (star_at (hash (low (star_under e))) t) fs) h gs

pub expanded_gaps : (h : List ℕ) (r : Rrset) (fs : List HashLink) → first_some (hash_expanded_by h r) fs ≡ said (Some (StarRecords r.datas)) h fs
expanded_gaps h r fs = gaps (Some (StarRecords r.datas)) h fs

pub said_asked : (s : Option Verdict) (h : List ℕ) (fs : List HashLink) → asks_star h fs ≡ true → said s h fs ≡ or_else s (open_among h fs)
said_asked s h fs e = ap (λ (b : Bool). elim b as (λ _. Option Verdict) [ true ↦ or_else s (open_among h fs) | false ↦ open_among h fs ]) e

pub said_unasked : (s : Option Verdict) (h : List ℕ) (fs : List HashLink) → asks_star h fs ≡ false → said s h fs ≡ open_among h fs
said_unasked s h fs e = ap (λ (b : Bool). elim b as (λ _. Option Verdict) [ true ↦ or_else s (open_among h fs) | false ↦ open_among h fs ]) e
