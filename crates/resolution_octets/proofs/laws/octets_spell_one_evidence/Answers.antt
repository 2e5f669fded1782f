use Rattle.resolution_octets.proofs.SpelledEvidence.{one_evidence}
use Rattle.resolution_octets.proofs.laws.octets_spell_one_evidence.Goals as goal

pub returns : goal.returns
returns c = one_evidence
