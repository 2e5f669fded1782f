use Rattle.std.proofs.Common.{ap, length, arith}
use Rattle.definitions.specs.Windows.{numbered}
use Rattle.definitions.proofs.BitmapLaws.{length-window}
use Rattle.definitions.proofs.PlainSpelling.{spelled_as}
use Rattle.definitions.proofs.reference.bitmap.window.Goals as goal

pub with_number-requires-clause-short : goal.with_number-requires-clause-short
with_number-requires-clause-short c = omega (arith, ap length c.in_ok-octets.ensures, length-window c.args.types.now c.args.number)

pub returns : goal.returns
returns c = spelled_as c.with_number.result _ _ c.with_number.ensures (ap (numbered c.args.number) c.in_ok-octets.ensures)
