use Rattle.std.proofs.Common.{◌<◌, [], ◌∷◌, length, length-append, arith}
use Rattle.names_wire.specs.Label.{octets_of}
use Rattle.names_parsed.specs.Standing.{name_from, labels_from}
use Rattle.names_parsed.proofs.Reaching.{reaches_next}
use Rattle.names_parsed.proofs.parsed.ParsedNameLabels.label_onward.Goals as goal

pub returns : goal.returns
returns c =
    let n = c.args.self.now in
    let m = n.message.now in
    let within : c.args.index < length (labels_from m n.start) = omega (arith, n.counted, length-append (name_from m n.start) ([] ∷ [])) in
    reaches_next m n.start c.args.place c.label_from.result.1 c.args.index (octets_of c.label_from.result.0) c.requires within c.label_from.ensures
