use Rattle.std.proofs.Common.{◌≡◌, ◌+◌, ◌++◌, ◌∷◌, [], length}
use Rattle.definitions.specs.Name.{Name}
use Rattle.names_labels.specs.Dotted.{dotted}
use Rattle.names_traits.proofs.display.DisplayWithDotDisplay.fmt.Given as goal

abbrev pub invariant-loop : goal.invariant-loop
invariant-loop g l =
    (done : Name) × record {
      labels : done ++ l.labels ≡ l.self ++ [] ∷ [];
      counted : length done + 1 ≡ l.counter;
      text : l.text ≡ dotted done;
    }
