use Rattle.std.proofs.Common.{[], ◌++◌, ◌∙◌, ap, refl}
use Rattle.std.proofs.lemmas.List.{append-nil}
use Rattle.names_labels.specs.Flat.{labels_in}
use Rattle.names_labels.proofs.Runs.{empty_run, no_row}
use Rattle.names_labels.proofs.iter.NameIter.over.Goals as goal

pub invariant_of-result : goal.invariant_of-result
invariant_of-result c = (c.requires, no_row)

pub returns : goal.returns
returns c = ap (λ ls. labels_in c.args.run.now ++ ls) (empty_run [] refl) ∙ append-nil (labels_in c.args.run.now)
