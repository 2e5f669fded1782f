use Rattle.std.proofs.Common.{◌≡◌, take}
use Rattle.std.specs.Str.{str_to_ascii_lowercase}
use Rattle.messages_canonical.proofs.standing.is_lowered.Given as goal

-- no octet so far is changed by lowering it
abbrev pub invariant-loop-octet : goal.invariant-loop-octet
invariant-loop-octet l = str_to_ascii_lowercase (take l.octet-index l.octets) ≡ take l.octet-index l.octets
