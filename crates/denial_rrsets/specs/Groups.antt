-- Items in groups: as many of a kind as stand together.
use Rattle.std.specs.Prelude.{◌≡◌, ℕ, Bool, true, false, not, ◌&&◌, ◌||◌, nat_eq, List, [], ◌∷◌, Option, if◌then◌else◌, map}
use Rattle.std.specs.declared.option.Option.TheVariants.{None, Some}
use Rattle.std.specs.Option.{option_map}
use Rattle.std.specs.List.{AllByRecursion, list_any, onto_first}
use Rattle.definitions.specs.Name.{Name, low, same, at_or_above}
use Rattle.plain.specs.declared.record.Record.{Record}

-- the groups of neighbours that are alike
abbrev pub groups : {A : Type 0} → (A → A → Bool) → List A → List (List A)
groups alike [] = []
groups alike (x ∷ []) = (x ∷ []) ∷ []
groups alike (x ∷ y ∷ ys) = if alike x y then onto_first x (groups alike (y ∷ ys)) else (x ∷ []) ∷ groups alike (y ∷ ys)

-- some items, each later one like the first
abbrev pub IsGroup : {A : Type 0} → (A → A → Bool) → List A → Type 0
IsGroup alike [] = ⊥
IsGroup alike (x ∷ xs) = AllByRecursion (λ y. alike x y ≡ true) xs

-- a test holds of an item and the next
abbrev pub neighbours : {A : Type 0} → (A → A → Bool) → List A → Bool
neighbours p [] = false
neighbours p (a ∷ []) = false
neighbours p (a ∷ b ∷ xs) = p a b || neighbours p (b ∷ xs)

-- the owner of some records of one owner, in lower case
abbrev pub group_owner : {N D : Type 0} → (N → Name) → List (Record N D) → Name
group_owner name [] = []
group_owner name (r ∷ rs) = low (name r.owner)

-- records of one class and owner, up to ASCII case
abbrev pub of_one_owner : {N D : Type 0} → (N → Name) → Record N D → Record N D → Bool
of_one_owner name a b = nat_eq a.class b.class && same (name a.owner) (name b.owner)

abbrev pub of_one_type : {N D : Type 0} → (D → ℕ) → Record N D → Record N D → Bool
of_one_type rtype a b = nat_eq (rtype a.content) (rtype b.content)

-- records of one class, owner and type: of an RRset (RFC 2181, 5)
abbrev pub of_one_set : {N D : Type 0} → (N → Name) → (D → ℕ) → Record N D → Record N D → Bool
of_one_set name rtype a b = of_one_type rtype a b && of_one_owner name a b

-- whether a TTL is not that of the first record, RRSIG records aside (RFC 2181, 5.2; RFC 4034, 3)
abbrev pub ttls_differ : {N D : Type 0} → (D → ℕ) → List (Record N D) → Bool
ttls_differ rtype [] = false
ttls_differ rtype (r ∷ rs) = not (nat_eq (rtype r.content) 46) && list_any (λ s. not (nat_eq s.ttl r.ttl)) rs

-- a group as an RRset, which has one TTL
abbrev pub rrset_of : {N D : Type 0} → (D → ℕ) → List (Record N D) → Option (List (Record N D))
rrset_of rtype rs = if ttls_differ rtype rs then None else Some rs

-- an RRset: records of one class, owner, type and TTL
abbrev pub IsRrset : {N D : Type 0} → (N → Name) → (D → ℕ) → List (Record N D) → Type 0
IsRrset name rtype rs = IsGroup (of_one_set name rtype) rs × (ttls_differ rtype rs ≡ false)

-- the groups of records by owner, type and class, as RRsets
abbrev pub rrsets_of : {N D : Type 0} → (N → Name) → (D → ℕ) → List (Record N D) → List (Option (List (Record N D)))
rrsets_of name rtype rs = map (rrset_of rtype) (groups (of_one_set name rtype) rs)

-- whether a group stands at or below an apex, by its first record
abbrev pub in_zone : {N D : Type 0} → (N → Name) → Name → List (Record N D) → Bool
in_zone name apex [] = false
in_zone name apex (r ∷ rs) = at_or_above apex (name r.owner)

-- whether a group is not the apex's and has an NS record: where the zone ends (RFC 4035, 2.2)
abbrev pub zone_cut : {N D : Type 0} → (N → Name) → (D → ℕ) → Name → List (Record N D) → Bool
zone_cut name rtype apex [] = false
zone_cut name rtype apex (r ∷ rs) = not (same (name r.owner) apex) && list_any (λ s. nat_eq (rtype s.content) 2) (r ∷ rs)

-- the items from the first on that passes
abbrev pub from_first : {A : Type 0} → (A → Bool) → List A → List A
from_first p [] = []
from_first p (x ∷ xs) = if p x then x ∷ xs else from_first p xs

abbrev pub is_of_type : {N D : Type 0} → (D → ℕ) → ℕ → Record N D → Bool
is_of_type rtype t r = nat_eq (rtype r.content) t

-- whether a record is of a type and an owner, up to ASCII case
abbrev pub is_at : {N D : Type 0} → (N → Name) → (D → ℕ) → Name → ℕ → Record N D → Bool
is_at name rtype owner t r = is_of_type rtype t r && same (name r.owner) owner

-- the first group whose records are asked for, by its first record; none is no fault
abbrev pub found_set : {N D : Type 0} → (D → ℕ) → (Record N D → Bool) → List (List (Record N D)) → Option (Option (List (Record N D)))
found_set rtype asked [] = Some None
found_set rtype asked ([] ∷ gs) = found_set rtype asked gs
found_set rtype asked ((r ∷ rs) ∷ gs) = if asked r then option_map Some (rrset_of rtype (r ∷ rs)) else found_set rtype asked gs
