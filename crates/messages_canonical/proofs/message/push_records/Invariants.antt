use Rattle.std.proofs.Common.{◌≡◌, ◌≤◌, ◌++◌, length, take}
use Rattle.std.specs.List.{flat_map}
use Rattle.definitions.specs.Limits.{pointer_limit}
use Rattle.messages_canonical.specs.Canonical.{most_octets}
use Rattle.messages_canonical.proofs.Pieces.{octets_by}
use Rattle.messages_canonical.proofs.Seen.{StandOn}
use Rattle.messages_canonical.proofs.message.push_records.Given as goal

-- the records so far are written, a message has room for them, and the others stand from here on
abbrev pub invariant-loop-record : goal.invariant-loop-record
invariant-loop-record l =
    (l.octets.items ≡ l.initial.octets.items ++ flat_map (octets_by pointer_limit l.bytes) (take l.record-index l.records))
    × (length l.octets.items ≤ most_octets)
    × StandOn l.bytes l.records l.record-index l.at
