use Rattle.std.proofs.Common.{List, ℕ, ◌++◌, length}
use Rattle.master_file_data.specs.Text.{Spells}
use Rattle.master_file_data.proofs.text.text_octets.Given as goal

-- what the rest spells stands behind what is read
abbrev pub invariant-octets : goal.invariant-octets
invariant-octets l = (os : List ℕ) → Spells l.rest os → Spells l.text (l.out.items ++ os)

abbrev pub decreases-octets : goal.decreases-octets
decreases-octets l = length l.rest
