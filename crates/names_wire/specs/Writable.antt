-- Labels that are written through.
use Rattle.std.specs.Prelude.{ℕ, List}
use Rattle.std.specs.Borrow.{GName}
use Rattle.names_wire.specs.Owned.{owned_octets}
use Rattle.names_wire.specs.declared.label_mut.LabelMut.{LabelMut}
use Rattle.names_wire.specs.declared.label_mut.OwnedLabelMut.{OwnedLabelMut}

-- the octets of the label
abbrev pub mut_octets : LabelMut → List ℕ
mut_octets l = l.octets.now

-- the place that the label writes to
abbrev pub mut_name : LabelMut → GName
mut_name l = l.octets.ghost_name

-- the octets of the label behind it
abbrev pub owned_mut_octets : OwnedLabelMut → List ℕ
owned_mut_octets l = owned_octets l.label.now

-- the label that it writes to
abbrev pub owned_mut_name : OwnedLabelMut → GName
owned_mut_name l = l.label.ghost_name
