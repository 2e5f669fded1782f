use Rattle.messages_canonical.proofs.WrittenBack.{canonical_back}
use Rattle.messages_canonical.proofs.laws.canonical_reads_back.Goals as goal

pub returns : goal.returns
returns c = canonical_back
