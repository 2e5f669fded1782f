use Rattle.std.proofs.Common.{◌≡◌, ◌++◌}
use Rattle.definitions.specs.Name.{Name}
use Rattle.names_labels.specs.Dotted.{dotted}
use Rattle.names_parsed.specs.Parsed.{parsed_name}
use Rattle.names_parsed.proofs.text.ParsedNameDisplay.fmt.Given as goal

abbrev pub invariant-loop-label : goal.invariant-loop-label
invariant-loop-label g l =
    (done : Name) × record {
      labels : done ++ l.labels ≡ parsed_name l.self;
      text : l.text ≡ dotted done;
    }
