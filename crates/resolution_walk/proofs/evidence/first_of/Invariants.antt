use Rattle.std.proofs.Common.{◌≡◌, drop}
use Rattle.std.specs.List.{find}
use Rattle.evidence_laws.specs.Given.{is_answer}
use Rattle.resolution_walk.proofs.evidence.first_of.Given as goal

-- the first of what is left is the first of all
abbrev pub invariant-loop-message : goal.invariant-loop-message
invariant-loop-message l = find (is_answer l.zone l.name l.rtype) (drop l.message-index l.messages) ≡ find (is_answer l.zone l.name l.rtype) l.messages
