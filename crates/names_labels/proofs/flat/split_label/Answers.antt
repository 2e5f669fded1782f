use Rattle.names_labels.proofs.Runs.{empty_run, splits_label, first_short}
use Rattle.names_labels.proofs.flat.split_label.Goals as goal

pub returns-in_err-len : goal.returns-in_err-len
returns-in_err-len c = rw c.from_residual.ensures (empty_run _ c.in_err-len.ensures.cases)

pub split_at-requires : goal.split_at-requires
split_at-requires c =
    let s = splits_label c.args.run.now c.in_ok-len.rest.now c.in_ok-len.field-0-0.now c.requires c.in_ok-len.ensures.cases.0 in
    rw c.from.ensures s.0

pub from_short-requires : goal.from_short-requires
from_short-requires c =
    let s = splits_label c.args.run.now c.in_ok-len.rest.now c.in_ok-len.field-0-0.now c.requires c.in_ok-len.ensures.cases.0 in
    rw (c.split_at.ensures.front, c.from.ensures) (first_short _ _ _ c.requires s.1)

pub returns : goal.returns
returns c =
    let s = splits_label c.args.run.now c.in_ok-len.rest.now c.in_ok-len.field-0-0.now c.requires c.in_ok-len.ensures.cases.0 in
    rw (c.from_short.ensures, c.split_at.ensures.front, c.split_at.ensures.back, c.from.ensures) s.1
