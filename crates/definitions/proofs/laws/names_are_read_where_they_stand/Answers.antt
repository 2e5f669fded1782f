use Rattle.definitions.proofs.ReadingLaws.{reads_exactly}
use Rattle.definitions.proofs.laws.names_are_read_where_they_stand.Goals as goal

pub returns : goal.returns
returns c = reads_exactly
