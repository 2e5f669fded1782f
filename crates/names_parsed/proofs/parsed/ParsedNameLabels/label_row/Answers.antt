use Rattle.std.proofs.Common.{◌+◌, sym, subst, arith}
use Rattle.names_parsed.specs.Standing.{InRow}
use Rattle.names_parsed.proofs.Parsing.{is_name}
use Rattle.names_parsed.proofs.Rows.{row_run, row_within}
use Rattle.names_parsed.proofs.parsed.ParsedNameLabels.label_row.Goals as goal

pub overflow_add-result : goal.overflow_add-result
overflow_add-result c =
    let n = c.args.self.now in
    let ends = row_within n.message.now n.start (n.start + n.row) (n.in_row (omega (arith, c.if-self-eq0.false))) in
    omega (arith, ends.1, c.from.ensures)

pub slice_bounds-result-end : goal.slice_bounds-result-end
slice_bounds-result-end c =
    let n = c.args.self.now in
    let ends = row_within n.message.now n.start (n.start + n.row) (n.in_row (omega (arith, c.if-self-eq0.false))) in
    omega (arith, ends.1, c.from.ensures)

pub returns-clause-row : goal.returns-clause-row
returns-clause-row c =
    let n = c.args.self.now in
    let m = n.message.now in
    let row = subst (λ k. InRow m n.start (n.start + k)) (sym c.from.ensures) (n.in_row (omega (arith, c.if-self-eq0.false))) in
    row_run m n.start (n.start + c.from.result) (is_name m n.start n.there) row

pub returns-clause-name : goal.returns-clause-name
returns-clause-name c = let n = c.args.self.now in is_name n.message.now n.start n.there
