use Rattle.std.proofs.Common.{◌≡◌, ◌+◌, ◌*◌, ◌<◌, ◌≤◌, length}
use Rattle.definitions.specs.Name.{Name, wire_len}
use Rattle.definitions.specs.Limits.{pointer_limit}
use Rattle.definitions.specs.Reading.{name_at}
use Rattle.names_parsed.specs.Heads.{rest_at}
use Rattle.names_parsed.proofs.HeadSteps.{onto}
use Rattle.names_parsed.proofs.head.walk.Given as goal

abbrev pub invariant-loop-len : goal.invariant-loop-len
invariant-loop-len l =
    (done : Name) × record {
      so_far : name_at pointer_limit l.message l.start ≡ onto done (rest_at 255 (l.room + 1) l.message l.place);
      counted : l.labels ≡ length done + 1;
      sized : 2 * l.labels + l.room ≤ 256;
      inside : l.place < length l.message;
      spent : wire_len done + l.room ≡ 255;
      here : l.place + l.room ≡ l.start + 254;
    }

abbrev pub decreases-loop-len : goal.decreases-loop-len
decreases-loop-len l = l.room
