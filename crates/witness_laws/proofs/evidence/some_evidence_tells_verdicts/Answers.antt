use Rattle.witness_laws.proofs.Told.{alias_follows, open_follows}
use Rattle.witness_laws.proofs.evidence.some_evidence_tells_verdicts.Goals as goal

pub returns : goal.returns
returns c = record { secure = alias_follows; insecure = open_follows }
