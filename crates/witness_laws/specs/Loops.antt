-- A caller's loop over the evidence.
use Rattle.std.specs.Prelude.{◌≡◌, List, [], ◌∷◌, Some}
use Rattle.definitions.specs.Name.{Name}
use Rattle.definitions.specs.Zone.{StarRecords}
use Rattle.tree_laws.specs.Tree.{Said, Secure}
use Rattle.resolution_walk.specs.Ended.{said_of}
use Rattle.resolution_walk.specs.declared.ending.Walk.{Walk}
use Rattle.resolution_walk.specs.declared.walk.Limits.{Limits}
use Rattle.walk_laws.specs.Loop.{Caller}
use Rattle.walk_laws.specs.Verdict.{IsTreesLoop}
use Rattle.witness_laws.specs.Evidence.{asking, evidence}
use Rattle.witness_laws.specs.Signed.{passes}
use Rattle.witness_laws.specs.Zones.{address, c_s, parent, s, y_d, y_e, zones}

-- what the tree says of the alias, and the names that it leads through
abbrev pub said : Said
said = Secure s (StarRecords (address ∷ []))

abbrev pub through : List Name
through = y_d ∷ y_e ∷ []

-- a caller that has no more messages than the evidence
abbrev pub caller : Caller
caller = record { octets = λ w. []; passes = passes }

-- one delegation, two aliases and 128 messages
abbrev pub limits : Limits
limits = record { cuts = 1; aliases = 2; messages = 128 }

-- There is a loop of this caller over the tree, from the evidence on: its one call is a walk that ends in what the tree says.
pub record HasLoop : Type 0 where
  pub walk : Walk
  pub says : said_of walk.ending ≡ Some said
  pub through_are : walk.through.items ≡ through
  pub loop : IsTreesLoop caller (asking c_s) limits 13 (λ e. walk) evidence zones parent said through
