use Rattle.names_labels.proofs.ReadBack.{absolute_again, dotted_again, relative_again}
use Rattle.names_labels.proofs.laws.printed_name_is_read_back.Goals as goal

pub returns : goal.returns
returns c = record { absolute = absolute_again; dotted = dotted_again; relative = relative_again }
