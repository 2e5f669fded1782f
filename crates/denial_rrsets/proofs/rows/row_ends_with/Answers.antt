use Rattle.denial_rrsets.proofs.RowEnds.{ends_not, ends_where}
use Rattle.denial_rrsets.proofs.rows.row_ends_with.Goals as goal

pub returns-then-common_tail-tail : goal.returns-then-common_tail-tail
returns-then-common_tail-tail c =
    ends_not c.args.run.now c.args.tail.now c.common_tail.result c.requires.run c.requires.tail c.common_tail.ensures c.if-common_tail-tail.true

pub returns : goal.returns
returns c =
    ends_where c.args.run.now c.args.tail.now c.common_tail.result c.is_label_start.result c.requires.run c.requires.tail c.common_tail.ensures c.if-common_tail-tail.false c.is_label_start.ensures
