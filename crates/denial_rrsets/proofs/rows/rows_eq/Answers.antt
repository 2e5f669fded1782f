use Rattle.std.proofs.Common.{length, nat_eq, eq-eqb}
use Rattle.std.proofs.lemmas.Bool.{eqb-true}
use Rattle.denial_rrsets.proofs.RowEnds.{same_not, same_where}
use Rattle.denial_rrsets.proofs.rows.rows_eq.Goals as goal

pub returns-then-run-other : goal.returns-then-run-other
returns-then-run-other c = same_not c.args.run.now c.args.other.now c.requires.run c.requires.other c.if-run-other.true

pub returns : goal.returns
returns c =
    let count = c.common_tail.result in
    let whole = length c.args.run.now in
    same_where c.args.run.now c.args.other.now count (nat_eq count whole) c.requires.run c.requires.other c.common_tail.ensures c.if-run-other.false (eqb-true count whole, eq-eqb count whole)
