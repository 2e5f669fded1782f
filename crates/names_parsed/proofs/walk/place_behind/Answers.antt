use Rattle.std.proofs.Common.{arith}
use Rattle.names_wire.specs.Label.{octets_of}
use Rattle.names_parsed.specs.Standing.{name_from}
use Rattle.names_parsed.proofs.Steps.{one_further}
use Rattle.names_parsed.proofs.walk.place_behind.Goals as goal

pub loop-preserved : goal.loop-preserved
loop-preserved c =
    let m = c.args.message.now in record {
      stands = c.label_from-behind.ensures.stands;
      labels = one_further m c.loop.place c.label_from-behind.result.1 (octets_of c.label_from-behind.result.0) (name_from m c.args.start) c.loop.counter c.label_from-behind.ensures c.loop.invariant.labels (omega (arith, c.requires.labels));
      row = λ e r. c.label_from-behind.ensures.row e (c.loop.invariant.row e r);
    }
