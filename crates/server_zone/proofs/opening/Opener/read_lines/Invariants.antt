use Rattle.std.proofs.Common.{length}
use Rattle.server_zone.specs.Journals.{HasRead}
use Rattle.server_zone.proofs.opening.Opener.read_lines.Given as goal

abbrev pub invariant-loop-line : goal.invariant-loop-line
invariant-loop-line g l = HasRead (g.S.Scheme.digest_of l.self.scheme.now) (g.H.Nsec3Hasher.hash_of l.self.hasher.now) l.self.scheme.now l.self.hasher.now l.journal l.rest l.phase l.number l.settled

abbrev pub decreases-loop-line : goal.decreases-loop-line
decreases-loop-line g l = length l.rest
