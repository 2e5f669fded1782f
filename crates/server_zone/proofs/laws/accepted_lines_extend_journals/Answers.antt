use Rattle.server_zone.proofs.JournalLemmas.{accepted_lines_extend, journals_give_states}
use Rattle.server_zone.proofs.ReopeningLemmas.{journals_open_again}
use Rattle.server_zone.proofs.laws.accepted_lines_extend_journals.Goals as goal

pub returns : goal.returns
returns c = record { extend = accepted_lines_extend; state = journals_give_states; again = journals_open_again }
