use Rattle.std.proofs.Common.{◌≡◌, drop}
use Rattle.definitions.specs.Limits.{pointer_limit}
use Rattle.messages_canonical.specs.Canonical.{in_front, parts_at}
use Rattle.messages_canonical.proofs.data.put_formed.Given as goal

-- what was put so far stands in front of the parts that are left
abbrev pub invariant-loop-part : goal.invariant-loop-part
invariant-loop-part l =
    parts_at pointer_limit l.message l.limit l.part-items l.start
    ≡ in_front l.rdata.items (parts_at pointer_limit l.message l.limit (drop l.part-index l.part-items) l.at)
