use Rattle.message_laws.proofs.JudgedAlike.{answers_alike, keys_alike, seen_prove, uncovered_alike}
use Rattle.message_laws.proofs.alike.messages_are_judged_alike.Goals as goal

pub returns : goal.returns
returns c = record { answers = answers_alike; keys = keys_alike; uncovered = uncovered_alike; proven = seen_prove }
