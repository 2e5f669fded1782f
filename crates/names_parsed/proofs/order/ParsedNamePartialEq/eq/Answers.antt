use Rattle.std.proofs.Common.{◌∙◌}
use Rattle.names_labels.proofs.Rooted.{same-rooted}
use Rattle.names_parsed.specs.Parsed.{parsed_name}
use Rattle.names_parsed.proofs.order.ParsedNamePartialEq.eq.Goals as goal

pub returns : goal.returns
returns c = c.labels_eq.ensures ∙ same-rooted (parsed_name c.args.self.now) (parsed_name c.args.other.now)
