-- Verdicts of small zones, by computing.
use Rattle.std.proofs.Common.{◌≡◌, ℕ, true, false, List, [], ◌∷◌, refl}
use Rattle.std.specs.Prelude.{codes}
use Rattle.definitions.specs.Name.{Name}
use Rattle.definitions.specs.Zone.{Zone, Rr, verdict, Records, NoType, NoName, StarRecords, StarNoType, Delegated, Open}
use Rattle.definitions.proofs.NameRows.{example}

abbrev pub rr : Name → ℕ → List ℕ → Rr
rr o t d = record { spelled = o; rtype = t; bytes = d }

-- an address, an empty non-terminal, a wildcard and a delegation
abbrev pub small : Zone
small = record {
  name = example;
  records =
      rr example 6 (1 ∷ [])
      ∷ rr (codes "a" ∷ example) 1 (192 ∷ 0 ∷ 2 ∷ 1 ∷ [])
      ∷ rr (codes "b" ∷ codes "c" ∷ example) 1 (192 ∷ 0 ∷ 2 ∷ 2 ∷ [])
      ∷ rr (codes "*" ∷ codes "w" ∷ example) 16 (1 ∷ 120 ∷ [])
      ∷ rr (codes "D" ∷ codes "Example" ∷ []) 2 (0 ∷ [])
      ∷ [];
}

other_type : verdict small false (codes "a" ∷ example) 15 ≡ NoType
other_type = refl

records_there : verdict small false (codes "A" ∷ codes "Example" ∷ []) 1 ≡ Records ((192 ∷ 0 ∷ 2 ∷ 1 ∷ []) ∷ [])
records_there = refl

empty_non_terminal : verdict small false (codes "c" ∷ example) 1 ≡ NoType
empty_non_terminal = refl

no_such_name : verdict small false (codes "bb" ∷ example) 1 ≡ NoName
no_such_name = refl

wildcard_records : verdict small false (codes "X" ∷ codes "w" ∷ codes "EXAMPLE" ∷ []) 16 ≡ StarRecords ((1 ∷ 120 ∷ []) ∷ [])
wildcard_records = refl

wildcard_without_type : verdict small false (codes "x" ∷ codes "w" ∷ example) 1 ≡ StarNoType
wildcard_without_type = refl

wildcard_itself : verdict small false (codes "*" ∷ codes "w" ∷ example) 16 ≡ Records ((1 ∷ 120 ∷ []) ∷ [])
wildcard_itself = refl

ds_at_delegation : verdict small false (codes "d" ∷ example) 43 ≡ NoType
ds_at_delegation = refl

at_delegation : verdict small false (codes "d" ∷ example) 1 ≡ Delegated
at_delegation = refl

below_delegation : verdict small false (codes "y" ∷ codes "d" ∷ example) 1 ≡ Delegated
below_delegation = refl

-- a wildcard that is an empty non-terminal
abbrev pub below_wildcard : Zone
below_wildcard = record { name = example; records = rr example 6 (1 ∷ []) ∷ rr (codes "a" ∷ codes "*" ∷ codes "w" ∷ example) 1 (1 ∷ []) ∷ [] }

empty_wildcard : verdict below_wildcard false (codes "x" ∷ codes "w" ∷ example) 1 ≡ StarNoType
empty_wildcard = refl

opt_out_ds : verdict small true (codes "d" ∷ example) 43 ≡ Open
opt_out_ds = refl

opt_out_no_name : verdict small true (codes "bb" ∷ example) 1 ≡ Open
opt_out_no_name = refl

opt_out_wildcard : verdict small true (codes "x" ∷ codes "w" ∷ example) 16 ≡ Open
opt_out_wildcard = refl

opt_out_empty_non_terminal : verdict small true (codes "c" ∷ example) 1 ≡ NoType
opt_out_empty_non_terminal = refl

opt_out_other_type : verdict small true (codes "a" ∷ example) 15 ≡ NoType
opt_out_other_type = refl

-- the apex alone
abbrev pub apex_alone : Zone
apex_alone = record { name = example; records = rr example 6 (1 ∷ []) ∷ [] }

nothing_below : verdict apex_alone false (codes "a" ∷ example) 1 ≡ NoName
nothing_below = refl

-- order and repetition of the records mean nothing
abbrev twice : Zone
twice = record { name = example; records = rr (codes "a" ∷ example) 1 (2 ∷ []) ∷ rr (codes "a" ∷ example) 1 (1 ∷ []) ∷ rr example 6 (1 ∷ []) ∷ rr (codes "a" ∷ example) 1 (2 ∷ []) ∷ [] }

data_in_order : verdict twice false (codes "a" ∷ example) 1 ≡ Records ((1 ∷ []) ∷ (2 ∷ []) ∷ [])
data_in_order = refl

-- a wildcard beside a closer ancestor that exists does not speak (RFC 4592, 3.3.1)
abbrev closer : Zone
closer = record { name = example; records = rr example 6 (1 ∷ []) ∷ rr (codes "*" ∷ example) 16 (1 ∷ []) ∷ rr (codes "a" ∷ example) 1 (1 ∷ []) ∷ [] }

closer_encloser : verdict closer false (codes "x" ∷ codes "a" ∷ example) 16 ≡ NoName
closer_encloser = refl

wildcard_at_apex : verdict closer false (codes "x" ∷ codes "y" ∷ example) 16 ≡ StarRecords ((1 ∷ []) ∷ [])
wildcard_at_apex = refl
