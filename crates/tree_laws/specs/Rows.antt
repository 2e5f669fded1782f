-- A small tree, and what it says.
use Rattle.std.specs.Prelude.{ℕ, Bool, true, false, List, [], ◌∷◌}
use Rattle.definitions.specs.Name.{Name, wire}
use Rattle.definitions.specs.Zone.{Rr, Records, NoType, NoName}
use Rattle.tree_laws.specs.Tree.{Tree, TreeZone, Secure, Unsigned, LeftOpen, Says, Resolves}

-- names of labels of one letter
abbrev pub under : ℕ → Name → Name
under letter n = (letter ∷ []) ∷ n

abbrev pub a : Name
a = under 97 []

abbrev pub b : Name
b = under 98 []

abbrev pub w_a : Name
w_a = under 119 a

abbrev pub l_a : Name
l_a = under 108 a

abbrev pub o_a : Name
o_a = under 111 a

abbrev pub record_of : Name → ℕ → List ℕ → Rr
record_of owner t datum = record { spelled = owner; rtype = t; bytes = datum }

abbrev pub address : List ℕ
address = 192 ∷ 0 ∷ 2 ∷ 1 ∷ []

abbrev pub digest : List ℕ
digest = 0 ∷ 1 ∷ 13 ∷ 2 ∷ 9 ∷ []

-- The root delegates a with a DS record, and b without one.
abbrev pub root : TreeZone
root = record { zone = record { name = []; records = record_of [] 6 [] ∷ record_of a 2 [] ∷ record_of a 43 digest ∷ record_of b 2 [] ∷ [] }; optout = false }

-- Below a, which opts out, w has an address, l is an alias of w, and o is a delegation without DS.
abbrev pub zone_a : TreeZone
zone_a = record { zone = record { name = a; records = record_of a 6 [] ∷ record_of w_a 1 address ∷ record_of l_a 5 (wire w_a) ∷ record_of o_a 2 [] ∷ [] }; optout = true }

abbrev pub small_tree : Tree
small_tree = root ∷ zone_a ∷ []

abbrev knows_all : List ℕ → Bool
knows_all d = true

-- What the tree says of names and types: of an address; of DS at a delegation, which the zone above has; of DS at a name that is no
-- delegation; of a name that is not there; below a delegation without DS; of a name that opt-out leaves open, and of one below its
-- delegation; of an alias.
pub record SmallTreeSays : Type 0 where
  pub address_is : Says knows_all small_tree w_a 1 (Secure a (Records (address ∷ []))) root
  pub ds_is : Says knows_all small_tree a 43 (Secure [] (Records (digest ∷ []))) root
  pub no_delegation : Says knows_all small_tree w_a 43 (Secure a NoType) root
  pub missing : Says knows_all small_tree (under 120 []) 1 (Secure [] NoName) root
  pub unsigned : Says knows_all small_tree (under 120 b) 1 (Unsigned b) root
  pub opened : Says knows_all small_tree (under 120 a) 1 (LeftOpen a) root
  pub below_open : Says knows_all small_tree (under 120 o_a) 1 (Unsigned o_a) root
  pub alias : Resolves knows_all small_tree root 1 (Secure a (Records (address ∷ []))) l_a (w_a ∷ [])
