use Rattle.std.proofs.Common.{Option, ap, subst, sym, ◌∙◌}
use Rattle.session_grammar.specs.Readings.{Reads, texts}
use Rattle.session_grammar.specs.Sessions.{fields_of}
use Rattle.server_zone.specs.StateLines.{StateLine, fields_line, line_view}
use Rattle.server_zone.proofs.ReadLemmas.{no_state_text, a_state_text}
use Rattle.server_zone.proofs.line.read_line.Goals as goal

pub returns-in-Err-clause-read : goal.returns-in-Err-clause-read
returns-in-Err-clause-read c = no_state_text c.args.line.now (sym c.if-is_passed_over.ensures) c.in-Err.ensures.cases.0

pub returns-in_ok-fields-in-Ok-clause-read : goal.returns-in_ok-fields-in-Ok-clause-read
returns-in_ok-fields-in-Ok-clause-read c =
    let line = c.args.line.now in
    let fields = ap texts c.deref.ensures.value ∙ c.in_ok-fields-in-Ok.ensures ∙ ap fields_of c.in-Ok.ensures.cases.0 in
    let P : Option StateLine → Type 0 = λ o. Reads line_view c.read_fields.result o in
    subst P (ap fields_line fields ∙ sym (a_state_text line (sym c.if-is_passed_over.ensures) c.in-Ok.ensures.cases.1)) c.read_fields.ensures.read
