use Rattle.names_labels.proofs.Rooted.{rooted_short}
use Rattle.names_parsed.specs.Standing.{name_from}
use Rattle.names_parsed.proofs.Parsing.{is_name}
use Rattle.names_parsed.proofs.parsed.ParsedNameLabels.label_count.Goals as goal

pub returns-clause-short : goal.returns-clause-short
returns-clause-short c =
    let n = c.args.self.now in
    rooted_short (name_from n.message.now n.start) (is_name n.message.now n.start n.there)

pub returns-clause-name : goal.returns-clause-name
returns-clause-name c = let n = c.args.self.now in is_name n.message.now n.start n.there
