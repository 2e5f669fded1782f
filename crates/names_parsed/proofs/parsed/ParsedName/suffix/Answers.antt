use Rattle.std.proofs.Common.{◌+◌, arith}
use Rattle.names_parsed.proofs.Rows.{row_within, row_short}
use Rattle.names_parsed.proofs.parsed.ParsedName.suffix.Goals as goal

pub overflow_add-row : goal.overflow_add-row
overflow_add-row c =
    let n = c.args.self.now in
    let row = n.in_row (omega (arith, c.if-self-eq0.false)) in
    omega (arith, row_within n.message.now n.start (n.start + n.row) row, c.from.ensures)

pub overflow_sub-row : goal.overflow_sub-row
overflow_sub-row c =
    let n = c.args.self.now in
    let row = c.requires.row (n.start + n.row) (n.in_row (omega (arith, c.if-self-eq0.false))) in
    omega (arith, row_within n.message.now c.args.start (n.start + n.row) row, c.from.ensures)

pub overflow_cast-row : goal.overflow_cast-row
overflow_cast-row c =
    let n = c.args.self.now in
    let row = c.requires.row (n.start + n.row) (n.in_row (omega (arith, c.if-self-eq0.false))) in
    omega (arith, row_short n.message.now c.args.start (n.start + n.row) row, c.from.ensures)
