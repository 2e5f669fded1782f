use Rattle.served_lives.proofs.Made.{accepted_lines_taken}
use Rattle.served_lives.proofs.laws.accepted_lines_are_taken.Goals as goal

pub returns : goal.returns
returns c = accepted_lines_taken
