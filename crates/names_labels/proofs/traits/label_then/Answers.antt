use Rattle.std.proofs.Common.{◌∙◌, drop, sym, arith}
use Rattle.names_wire.specs.Label.{octets_of}
use Rattle.names_labels.specs.Flat.{labels_in, IsRunOf}
use Rattle.names_labels.proofs.Runs.{nothing_at, drop-one, there}
use Rattle.names_labels.proofs.traits.label_then.Goals as goal

pub returns-in_err-label-in-Row : goal.returns-in_err-label-in-Row
returns-in_err-label-in-Row g c =
    let ls = g.N.Labels.labels c.args.name.now in
    let row : IsRunOf c.in-Row.run'.now (drop c.args.index ls) = rw c.in-Row.is at c.requires in
    rw c.from_residual.ensures (nothing_at ls c.args.index c.args.index (sym row.labels ∙ c.in_err-label-in-Row.ensures) (omega arith))

pub split_label-requires : goal.split_label-requires
split_label-requires g c =
    let row : IsRunOf c.in-Row.run'.now (drop c.args.index (g.N.Labels.labels c.args.name.now)) = rw c.in-Row.is at c.requires in
    row.run

pub returns-in_ok-label-in-Row : goal.returns-in_ok-label-in-Row
returns-in_ok-label-in-Row g c =
    let ls = g.N.Labels.labels c.args.name.now in
    let label = octets_of c.in_ok-label-in-Row.label in
    let behind = c.in_ok-label-in-Row.behind.now in
    let row : IsRunOf c.in-Row.run'.now (drop c.args.index ls) = rw c.in-Row.is at c.requires in (
      there ls (labels_in c.in-Row.run'.now) c.args.index label (labels_in behind) (sym row.labels) c.in_ok-label-in-Row.ensures.first,
      record { run = c.in_ok-label-in-Row.ensures.behind; labels = sym (drop-one ls c.args.index label (labels_in behind) (sym row.labels ∙ c.in_ok-label-in-Row.ensures.first)) },
    )
