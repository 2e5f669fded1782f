use Rattle.std.proofs.Common.{sym, ◌∙◌, arith}
use Rattle.names_labels.proofs.Runs.{nothing_at, there}
use Rattle.names_labels.specs.Flat.{labels_in}
use Rattle.names_labels.proofs.flat.label_at.Goals as goal

pub returns-in_err-label : goal.returns-in_err-label
returns-in_err-label c =
    rw c.from_residual.ensures (sym (nothing_at (labels_in c.args.run.now) c.args.index c.args.index (sym c.behind.ensures.labels ∙ c.in_err-label.ensures) (omega arith)))

pub returns : goal.returns
returns c = there (labels_in c.args.run.now) _ c.args.index _ _ (sym c.behind.ensures.labels) c.in_ok-label.ensures.first
