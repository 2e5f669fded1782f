use Rattle.std.proofs.Common.{◌≡◌, ◌≤◌, ◌++◌, take, length}
use Rattle.std.specs.Str.{IsAscii}
use Rattle.names_wire.specs.Name.{Name}
use Rattle.names_labels.specs.Flat.{labels_in, IsRun}
use Rattle.names_labels.specs.Dotted.{dotted}
use Rattle.names_labels.proofs.text.write_run.Given as goal

abbrev pub invariant-loop-label : goal.invariant-loop-label
invariant-loop-label l =
    (done : Name) × record {
      rest : IsRun l.rest;
      labels : done ++ labels_in l.rest ≡ labels_in l.run;
      text : take l.end l.characters ≡ dotted done;
      end : l.end ≡ length (dotted done);
      within : l.end ≤ length l.characters;
      ascii : IsAscii (dotted done);
    }

abbrev pub decreases-loop-label : goal.decreases-loop-label
decreases-loop-label l = length (labels_in l.rest)
