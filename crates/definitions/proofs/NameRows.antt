-- The order of names, by computing.
use Rattle.std.proofs.Common.{◌≡◌, true, false, [], ◌∷◌, ◌++◌, refl}
use Rattle.std.specs.Prelude.{codes}
use Rattle.std.specs.declared.cmp.Ordering.TheVariants.{Less, Equal, Greater}
use Rattle.std.specs.Ordering.{nat_cmp}
use Rattle.std.specs.Cmp.Lexicographic.{slice_cmp}
use Rattle.definitions.specs.Name.{Name, name_cmp, wire, same, at_or_above, strictly_above}
use Rattle.definitions.specs.Serial.{serial_le}
use Rattle.definitions.specs.Signing.{signed_owner}

abbrev pub example : Name
example = codes "example" ∷ []

-- canonical order looks at the labels from the right, the order of wire octets from the left
canonical_order : name_cmp (codes "z" ∷ example) (codes "yy" ∷ codes "a" ∷ example) ≡ Greater
canonical_order = refl

wire_order : slice_cmp nat_cmp (wire (codes "z" ∷ example)) (wire (codes "yy" ∷ codes "a" ∷ example)) ≡ Less
wire_order = refl

order_up_to_case : name_cmp (codes "A" ∷ codes "EXAMPLE" ∷ []) (codes "a" ∷ example) ≡ Equal
order_up_to_case = refl

parent_first : name_cmp example (codes "a" ∷ example) ≡ Less
parent_first = refl

same_up_to_case : same (codes "X" ∷ codes "w" ∷ []) (codes "x" ∷ codes "W" ∷ []) ≡ true
same_up_to_case = refl

above_itself : at_or_above example example ∷ strictly_above example example ∷ strictly_above example (codes "a" ∷ example) ∷ at_or_above (codes "ample" ∷ []) example ∷ [] ≡ true ∷ false ∷ true ∷ false ∷ []
above_itself = refl

wire_of_example : wire example ≡ 7 ∷ codes "example" ++ 0 ∷ []
wire_of_example = refl

-- serial numbers go round, and half the circle is no order
serial_wraps : serial_le 4294967295 0 ∷ serial_le 0 4294967295 ∷ serial_le 0 2147483648 ∷ serial_le 2147483648 0 ∷ serial_le 7 7 ∷ [] ≡ true ∷ false ∷ false ∷ false ∷ true ∷ []
serial_wraps = refl

-- an expanded owner is signed as the wildcard, a wildcard itself as it is
expanded_owner : signed_owner 2 (codes "X" ∷ codes "w" ∷ codes "EXAMPLE" ∷ []) ≡ codes "*" ∷ codes "w" ∷ example
expanded_owner = refl

wildcard_owner : signed_owner 2 (codes "*" ∷ codes "w" ∷ codes "EXAMPLE" ∷ []) ≡ codes "*" ∷ codes "w" ∷ example
wildcard_owner = refl
