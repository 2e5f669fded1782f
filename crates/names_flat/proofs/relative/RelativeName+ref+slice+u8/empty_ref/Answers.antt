use Rattle.std.proofs.Common.{[], refl, arith}
use Rattle.names_labels.proofs.Relatives.{spells_relative}
use Rattle.names_labels.proofs.Runs.{labels_in-spelled}
use Rattle.names_flat.proofs.relative.RelativeName+ref+slice+u8.empty_ref.Goals as goal

pub invariant_of-result : goal.invariant_of-result
invariant_of-result c = spells_relative [] [] (record { octets = refl; name = record { labels = tt; short = omega arith } })

pub returns : goal.returns
returns c = labels_in-spelled []
