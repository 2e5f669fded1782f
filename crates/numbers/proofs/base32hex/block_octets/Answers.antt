use Rattle.std.proofs.Common.{arith, refl}
use Rattle.numbers.proofs.Spelling.{no_digit, block_small, block_spells}
use Rattle.numbers.proofs.base32hex.block_octets.Goals as goal

pub returns-in_err-b : goal.returns-in_err-b
returns-in_err-b c = rw c.from_residual-in_err-b.ensures (no_digit c.args.digits.now 1 (omega (arith, c.requires)) c.in_err-b.ensures)

pub returns-in_err-c : goal.returns-in_err-c
returns-in_err-c c = rw c.from_residual-in_err-c.ensures (no_digit c.args.digits.now 2 (omega (arith, c.requires)) c.in_err-c.ensures)

pub returns-in_err-d : goal.returns-in_err-d
returns-in_err-d c = rw c.from_residual-in_err-d.ensures (no_digit c.args.digits.now 3 (omega (arith, c.requires)) c.in_err-d.ensures)

pub returns-in_err-e : goal.returns-in_err-e
returns-in_err-e c = rw c.from_residual-in_err-e.ensures (no_digit c.args.digits.now 4 (omega (arith, c.requires)) c.in_err-e.ensures)

pub returns-in_err-f : goal.returns-in_err-f
returns-in_err-f c = rw c.from_residual-in_err-f.ensures (no_digit c.args.digits.now 5 (omega (arith, c.requires)) c.in_err-f.ensures)

pub returns-in_err-g : goal.returns-in_err-g
returns-in_err-g c = rw c.from_residual-in_err-g.ensures (no_digit c.args.digits.now 6 (omega (arith, c.requires)) c.in_err-g.ensures)

pub returns-in_err-h : goal.returns-in_err-h
returns-in_err-h c = rw c.from_residual-in_err-h.ensures (no_digit c.args.digits.now 7 (omega (arith, c.requires)) c.in_err-h.ensures)

pub returns : goal.returns
returns c = (
  refl,
  block_small c.in_ok-a.a c.in_ok-b.b c.in_ok-c.c c.in_ok-d.d c.in_ok-e.e c.in_ok-f.f c.in_ok-g.g c.in_ok-h.h
      c.in_ok-a.ensures.0 c.in_ok-b.ensures.0 c.in_ok-c.ensures.0 c.in_ok-d.ensures.0 c.in_ok-e.ensures.0 c.in_ok-f.ensures.0 c.in_ok-g.ensures.0 c.in_ok-h.ensures.0,
  block_spells c.args.digits.now c.requires c.in_ok-a.a c.in_ok-b.b c.in_ok-c.c c.in_ok-d.d c.in_ok-e.e c.in_ok-f.f c.in_ok-g.g c.in_ok-h.h
      c.in_ok-a.ensures c.in_ok-b.ensures c.in_ok-c.ensures c.in_ok-d.ensures c.in_ok-e.ensures c.in_ok-f.ensures c.in_ok-g.ensures c.in_ok-h.ensures,
)
