use Rattle.std.proofs.Common.{arith}
use Rattle.denial_bitmap.proofs.Breaking.{few_octets, no_octets, many_octets, missing_octets}
use Rattle.denial_bitmap.proofs.window.split_window.Goals as goal
use Rattle.denial_bitmap.proofs.window.split_window.Goals.{then-len-eq0-via-then-len-eq0, then-len-eq0-via-else-len-eq0+then-len-gt32}

pub returns-in_default-clause-refused : goal.returns-in_default-clause-refused
returns-in_default-clause-refused c = few_octets c.args.octets.now c.in_default.len_below

pub returns-then-len-eq0-clause-refused : goal.returns-then-len-eq0-clause-refused
returns-then-len-eq0-clause-refused c = elim c.then-len-eq0.branch [
  | then-len-eq0-via-then-len-eq0 w ↦ no_octets c.args.octets.now c.in-len2-up.len_at_least (omega (arith, w.if-len-eq0.true, c.from-len.ensures))
  | then-len-eq0-via-else-len-eq0+then-len-gt32 w ↦ many_octets c.args.octets.now c.in-len2-up.len_at_least (omega (arith, w.if-len-gt32.true, c.from-len.ensures))
]

pub returns-then-len-rest-clause-refused : goal.returns-then-len-rest-clause-refused
returns-then-len-rest-clause-refused c =
    missing_octets c.args.octets.now c.in-len2-up.len_at_least (omega (arith, c.if-len-eq0.false, c.from-len.ensures)) (omega (arith, c.if-len-gt32.false, c.from-len.ensures)) (omega (arith, c.if-len-rest.true, c.from-len.ensures))
