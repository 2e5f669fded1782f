-- What facts decide, by the chain that is at hand.
use Rattle.std.proofs.Common.{◌≡◌, ℕ, Bool, true, false, List, [], ◌∷◌, refl, sym, ap, ◌∙◌}
use Rattle.std.specs.Prelude.{Option, Some, None}
use Rattle.definitions.specs.Name.{Name, at_or_above}
use Rattle.definitions.specs.Zone.{Verdict}
use Rattle.denial_laws.specs.Facts.{Facts, HashLink, Link, Rrset, is_expanded}
use Rattle.denial_laws.specs.Deciding.{decided, decided_inside, hashed, hashed_inside}
use Rattle.answer_judge_rules.specs.Hashes.{fails_among, hash_among}
use Rattle.answer_judge_rules.specs.Hashing.{by_hashes, by_names, fails_as, hash_as, hashed_by}

abbrev pub facts_of : Option Rrset → List Link → List HashLink → Facts
facts_of r ls hs = record { rrset = r; links = ls; hash_links = hs }

-- ---- outside the zone

pub decided_outside : (apex : Name) (hash : Name → List ℕ) (f : Facts) (q : Name) (t : ℕ) → at_or_above apex q ≡ false → decided apex hash f q t ≡ None
decided_outside apex hash f q t e = ap (λ (b : Bool). elim b as (λ _. Option Verdict) [ true ↦ decided_inside apex hash f q t | false ↦ None ]) e

pub hashed_outside : (apex : Name) (hash : Name → List ℕ) (f : Facts) (q : Name) → at_or_above apex q ≡ false → hashed apex hash f q ≡ []
hashed_outside apex hash f q e = ap (λ (b : Bool). elim b as (λ _. List Name) [ true ↦ hashed_inside apex hash f q | false ↦ [] ]) e

-- ---- inside

pub decided_within : (apex : Name) (hash : Name → List ℕ) (f : Facts) (q : Name) (t : ℕ) → at_or_above apex q ≡ true → decided apex hash f q t ≡ decided_inside apex hash f q t
decided_within apex hash f q t e = ap (λ (b : Bool). elim b as (λ _. Option Verdict) [ true ↦ decided_inside apex hash f q t | false ↦ None ]) e

pub hashed_within : (apex : Name) (hash : Name → List ℕ) (f : Facts) (q : Name) → at_or_above apex q ≡ true → hashed apex hash f q ≡ hashed_inside apex hash f q
hashed_within apex hash f q e = ap (λ (b : Bool). elim b as (λ _. List Name) [ true ↦ hashed_inside apex hash f q | false ↦ [] ]) e

names_decide : (apex : Name) (hash : Name → List ℕ) (r : Option Rrset) (ls : List Link) (q : Name) (t : ℕ) → decided_inside apex hash (facts_of r ls []) q t ≡ by_names apex r ls q t
names_decide apex hash None ls q t = refl
names_decide apex hash (Some r) ls q t = refl

names_unhashed : (apex : Name) (hash : Name → List ℕ) (r : Option Rrset) (ls : List Link) (q : Name) → hashed_inside apex hash (facts_of r ls []) q ≡ []
names_unhashed apex hash None ls q = refl
names_unhashed apex hash (Some r) ls q = go (is_expanded r q)
  where
    go : (b : Bool) → (elim b as (λ _. List Name) [ false ↦ [] | true ↦ [] ]) ≡ []
    go false = refl
    go true = refl

hashes_decide : (apex : Name) (hash : Name → List ℕ) (r : Option Rrset) (ls : List Link) (h : HashLink) (hs : List HashLink) (q : Name) (t : ℕ) → decided_inside apex hash (facts_of r ls (h ∷ hs)) q t ≡ by_hashes apex hash r (h ∷ hs) q t
hashes_decide apex hash None ls h hs q t = refl
hashes_decide apex hash (Some r) ls h hs q t = refl

hashes_hashed : (apex : Name) (hash : Name → List ℕ) (r : Option Rrset) (ls : List Link) (h : HashLink) (hs : List HashLink) (q : Name) → hashed_inside apex hash (facts_of r ls (h ∷ hs)) q ≡ hashed_by apex hash r (h ∷ hs) q
hashes_hashed apex hash None ls h hs q = refl
hashes_hashed apex hash (Some r) ls h hs q = refl

-- by links of names alone
pub by_names_decided : (apex : Name) (hash : Name → List ℕ) (r : Option Rrset) (ls : List Link) (hs : List HashLink) (q : Name) (t : ℕ) → hs ≡ [] → at_or_above apex q ≡ true → decided apex hash (facts_of r ls hs) q t ≡ by_names apex r ls q t
by_names_decided apex hash r ls hs q t e a =
    decided_within apex hash (facts_of r ls hs) q t a ∙ ap (λ ms. decided_inside apex hash (facts_of r ls ms) q t) e ∙ names_decide apex hash r ls q t

pub by_names_unhashed : (apex : Name) (hash : Name → List ℕ) (r : Option Rrset) (ls : List Link) (hs : List HashLink) (q : Name) → hs ≡ [] → at_or_above apex q ≡ true → hashed apex hash (facts_of r ls hs) q ≡ []
by_names_unhashed apex hash r ls hs q e a =
    hashed_within apex hash (facts_of r ls hs) q a ∙ ap (λ ms. hashed_inside apex hash (facts_of r ls ms) q) e ∙ names_unhashed apex hash r ls q

-- by links of hashes, as the first of them says
pub by_hashes_decided : (apex : Name) (answers : List ℕ → ℕ → ℕ → List ℕ → Option (List ℕ)) (r : Option Rrset) (ls : List Link) (hs : List HashLink) (h : HashLink) (rest : List HashLink) (q : Name) (t : ℕ) → hs ≡ h ∷ rest → at_or_above apex q ≡ true
    → decided apex (hash_among answers hs) (facts_of r ls hs) q t ≡ by_hashes apex (hash_as answers h) r hs q t
by_hashes_decided apex answers r ls hs h rest q t e a =
    decided_within apex (hash_among answers hs) (facts_of r ls hs) q t a
    ∙ ap (λ ms. decided_inside apex (hash_among answers ms) (facts_of r ls ms) q t) e
    ∙ hashes_decide apex (hash_among answers (h ∷ rest)) r ls h rest q t
    ∙ ap (λ ms. by_hashes apex (hash_as answers h) r ms q t) (sym e)

pub by_hashes_hashed : (apex : Name) (answers : List ℕ → ℕ → ℕ → List ℕ → Option (List ℕ)) (r : Option Rrset) (ls : List Link) (hs : List HashLink) (h : HashLink) (rest : List HashLink) (q : Name) → hs ≡ h ∷ rest → at_or_above apex q ≡ true
    → hashed apex (hash_among answers hs) (facts_of r ls hs) q ≡ hashed_by apex (hash_as answers h) r hs q
by_hashes_hashed apex answers r ls hs h rest q e a =
    hashed_within apex (hash_among answers hs) (facts_of r ls hs) q a
    ∙ ap (λ ms. hashed_inside apex (hash_among answers ms) (facts_of r ls ms) q) e
    ∙ hashes_hashed apex (hash_among answers (h ∷ rest)) r ls h rest q
    ∙ ap (λ ms. hashed_by apex (hash_as answers h) r ms q) (sym e)

pub fails_first : (answers : List ℕ → ℕ → ℕ → List ℕ → Option (List ℕ)) (hs : List HashLink) (h : HashLink) (rest : List HashLink) → hs ≡ h ∷ rest → fails_among answers hs ≡ fails_as answers h
fails_first answers hs h rest e = ap (λ ms. fails_among answers ms) e
