use Rattle.std.proofs.Common.{◌-◌, length}
use Rattle.names_parsed.proofs.Parsing.{Along}
use Rattle.names_parsed.proofs.parsed.ParsedName.is_compressed.Given as goal

abbrev pub invariant-loop-label : goal.invariant-loop-label
invariant-loop-label l = Along l.self.message.now l.self.start l.place

abbrev pub decreases-loop-label : goal.decreases-loop-label
decreases-loop-label l = length l.self.message.now - l.place
