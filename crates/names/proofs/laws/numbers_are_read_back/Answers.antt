use Rattle.std.proofs.lemmas.Nat.{from_be_bytes-to_be_bytes_2, from_be_bytes-to_be_bytes_4, from_be_bytes-to_be_bytes_8}
use Rattle.names.proofs.laws.numbers_are_read_back.Goals as goal

pub returns-clause-sixteen : goal.returns-clause-sixteen
returns-clause-sixteen c = from_be_bytes-to_be_bytes_2

pub returns-clause-thirty_two : goal.returns-clause-thirty_two
returns-clause-thirty_two c = from_be_bytes-to_be_bytes_4

pub returns-clause-sixty_four : goal.returns-clause-sixty_four
returns-clause-sixty_four c = from_be_bytes-to_be_bytes_8
