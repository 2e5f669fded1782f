use Rattle.std.proofs.Common.{Option, ap, subst, sym, ◌∙◌}
use Rattle.session_grammar.specs.Readings.{Reads, texts, session_view}
use Rattle.session_grammar.specs.Sessions.{Lines, fields_of, with_fields}
use Rattle.session_grammar.proofs.SessionLemmas.{no_text, a_text}
use Rattle.session_grammar.proofs.reading.Reading.read_line.Goals as goal

pub returns-in-Err : goal.returns-in-Err
returns-in-Err c =
    let old = session_view c.args.self.now in
    no_text old c.args.line.now (sym c.if-is_passed_over.ensures) c.in-Err.ensures.cases.0

pub returns-in_ok-fields-in-Ok : goal.returns-in_ok-fields-in-Ok
returns-in_ok-fields-in-Ok c =
    let old = session_view c.args.self.now in
    let new = c.read_fields.new.self in
    let line = c.args.line.now in
    let fields = ap texts c.deref.ensures.value ∙ c.in_ok-fields-in-Ok.ensures ∙ ap fields_of c.in-Ok.ensures.cases.0 in
    let P : Option Lines → Type 0 = λ o. Reads (λ _. session_view new) c.read_fields.result o in
    subst P (ap (with_fields old) fields ∙ sym (a_text old line (sym c.if-is_passed_over.ensures) c.in-Ok.ensures.cases.1)) c.read_fields.ensures
