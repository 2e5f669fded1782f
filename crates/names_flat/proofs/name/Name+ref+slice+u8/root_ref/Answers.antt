use Rattle.std.proofs.Common.{[], ◌∷◌, refl, arith}
use Rattle.names_labels.proofs.Checks.{spells_flat}
use Rattle.names_labels.proofs.Runs.{name_in-wire}
use Rattle.names_flat.proofs.name.Name+ref+slice+u8.root_ref.Goals as goal

pub invariant_of-result : goal.invariant_of-result
invariant_of-result c = spells_flat (0 ∷ []) [] (record { octets = refl; name = record { labels = tt; short = omega arith } })

pub returns : goal.returns
returns c = name_in-wire []
