use Rattle.std.proofs.Common.{arith}
use Rattle.std.proofs.lemmas.List.{take_all}
use Rattle.names_labels.specs.Suffixes.{suffixes}
use Rattle.names_parsed.specs.Parsed.{parsed_name}
use Rattle.names_parsed.proofs.SuffixSteps.{length-suffixes}
use Rattle.names_parsed.proofs.suffixes.ParsedSuffixIter.new.Goals as goal

pub returns : goal.returns
returns c =
    let n = parsed_name c.args.name in
    take_all c.args.labels (suffixes n) (omega (arith, c.requires, length-suffixes n))
