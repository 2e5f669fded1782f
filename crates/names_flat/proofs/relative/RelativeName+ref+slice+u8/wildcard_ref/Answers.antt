use Rattle.std.proofs.Common.{[], ◌∷◌, refl, arith}
use Rattle.names_labels.proofs.Relatives.{spells_relative}
use Rattle.names_labels.proofs.Runs.{labels_in-spelled}
use Rattle.names_flat.proofs.relative.RelativeName+ref+slice+u8.wildcard_ref.Goals as goal

pub invariant_of-result : goal.invariant_of-result
invariant_of-result c =
    spells_relative (1 ∷ 42 ∷ []) ((42 ∷ []) ∷ []) (record { octets = refl; name = record { labels = (record { some = omega arith; short = omega arith }, tt); short = omega arith } })

pub returns : goal.returns
returns c = labels_in-spelled ((42 ∷ []) ∷ [])
