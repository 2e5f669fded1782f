use Rattle.names_wire.specs.Label.{octets_of}
use Rattle.names_parsed.proofs.Parsing.{label_there}
use Rattle.names_parsed.proofs.walk.label_within.Goals as goal

pub returns : goal.returns
returns c =
    label_there c.args.message.now c.args.start c.place_behind.result c.label_from.result.1 c.args.index (octets_of c.label_from.result.0) c.requires.labels c.place_behind.ensures.labels c.label_from.ensures
