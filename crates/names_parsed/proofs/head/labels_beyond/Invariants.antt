use Rattle.std.proofs.Common.{◌≡◌, ◌+◌, ◌*◌, ◌<◌, ◌≤◌, length}
use Rattle.definitions.specs.Name.{Name}
use Rattle.definitions.specs.Reading.{behind_labels}
use Rattle.definitions.proofs.ReadingLaws.{labels_of}
use Rattle.names_parsed.specs.Heads.{rest_at}
use Rattle.names_parsed.proofs.head.labels_beyond.Given as goal

abbrev pub invariant-loop-len : goal.invariant-loop-len
invariant-loop-len l =
    (done : Name) × record {
      so_far : labels_of (rest_at 254 (l.left + 1) l.message l.start) ≡ behind_labels done (labels_of (rest_at l.pointers (l.room + 1) l.message l.place));
      counted : l.labels ≡ l.before + length done;
      sized : 2 * l.labels + l.room ≤ 256;
      short : l.room ≤ 254;
      inside : l.place < length l.message;
    }

abbrev pub decreases-loop-len : goal.decreases-loop-len
decreases-loop-len l = l.pointers + l.room
