-- Chains whose records each lead to the next: of names up to the apex again, of hashes round a circle.
use Rattle.std.specs.Prelude.{◌≡◌, ℕ, Bool, true, false, List, [], ◌∷◌}
use Rattle.std.specs.List.{AllByRecursion}
use Rattle.std.specs.Ordering.{is_le}
use Rattle.std.specs.declared.cmp.Ordering.{Ordering}
use Rattle.std.specs.declared.cmp.Ordering.TheVariants.{Less}
use Rattle.definitions.specs.Name.{Name, low, name_cmp, same}
use Rattle.definitions.specs.ZoneChain.{hash_cmp}
use Rattle.answer_terms.specs.HashedLinks.{HashedLink}
use Rattle.answer_terms.specs.Links.{ChainLink, link_speaks}

-- keys of items strictly ascend
abbrev pub Climbs : {A K : Type 0} → (K → K → Ordering) → (A → K) → List A → Type 0
Climbs cmp key [] = Unit {0}
Climbs cmp key (x ∷ xs) = AllByRecursion (λ y. cmp (key x) (key y) ≡ Less) xs × Climbs cmp key xs

-- ---- names

abbrev pub IsClimbing : List ChainLink → Type 0
IsClimbing ls = Climbs name_cmp (λ l. l.owner) ls

-- each leads to the next, which is not the apex, and the last to the apex
abbrev pub Leads : Name → List ChainLink → Type 0
Leads apex [] = Unit {0}
Leads apex (l ∷ []) = same l.next apex ≡ true
Leads apex (l ∷ m ∷ ls) = (low l.next ≡ low m.owner) × (same l.next apex ≡ false) × Leads apex (m ∷ ls)

pub record IsRound (apex : Name) (ls : List ChainLink) : Type 0 where
  pub climbing : IsClimbing ls
  pub leads : Leads apex ls

-- an owner does not come behind a name
abbrev pub is_up_to : Name → ChainLink → Bool
is_up_to q l = is_le (name_cmp l.owner q)

-- a record matches or covers a name
abbrev pub link_speaks_for : Name → Name → ChainLink → Bool
link_speaks_for apex q l = link_speaks apex (low q ∷ []) (low l.owner) (low l.next)

-- ---- hashes

abbrev pub AreAscending : List HashedLink → Type 0
AreAscending ls = Climbs hash_cmp (λ l. l.hash) ls

-- each leads to the next, and the last to some first one
abbrev pub LeadsRound : List ℕ → List HashedLink → Type 0
LeadsRound first [] = Unit {0}
LeadsRound first (l ∷ []) = l.next ≡ first
LeadsRound first (l ∷ m ∷ ls) = (l.next ≡ m.hash) × LeadsRound first (m ∷ ls)

abbrev pub first_hash : List HashedLink → List ℕ
first_hash [] = []
first_hash (l ∷ ls) = l.hash

pub record IsCircle (ls : List HashedLink) : Type 0 where
  pub ascending : AreAscending ls
  pub leads : LeadsRound (first_hash ls) ls

-- a hash does not come behind another
abbrev pub is_hash_up_to : List ℕ → HashedLink → Bool
is_hash_up_to h l = is_le (hash_cmp l.hash h)
