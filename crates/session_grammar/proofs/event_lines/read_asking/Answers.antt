use Rattle.session_grammar.proofs.FieldLemmas.{no_word3}
use Rattle.session_grammar.proofs.event_lines.read_asking.Goals as goal

pub returns-in_default-clause-read : goal.returns-in_default-clause-read
returns-in_default-clause-read c = no_word3 c.args.word.now c.args.first.now c.args.second.now c.in_default.not-ask c.in_default.not-report1 c.in_default.not-report2
