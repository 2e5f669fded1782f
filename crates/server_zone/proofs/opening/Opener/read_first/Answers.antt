use Rattle.std.proofs.Common.{ap, sym, ◌∙◌, [], map, Some}
use Rattle.session_grammar.specs.Grammar.{◌>>=◌}
use Rattle.session_grammar.specs.Readings.{texts, zone_view}
use Rattle.session_grammar.specs.Sessions.{fields_of}
use Rattle.messages.specs.HandedRr.{handed_of}
use Rattle.server_zone.specs.Journals.{Beginning}
use Rattle.server_zone.proofs.ReadLemmas.{no_first_text, a_first_text, zone_fields_line}
use Rattle.server_zone.proofs.opening.Opener.read_first.Goals as goal

pub returns-in-Err-clause-err : goal.returns-in-Err-clause-err
returns-in-Err-clause-err g c = no_first_text c.args.line.now (sym c.if-is_passed_over.ensures) c.in-Err.ensures.cases.0

pub returns-in_ok-zone-in-Ok-clause-ok : goal.returns-in_ok-zone-in-Ok-clause-ok
returns-in_ok-zone-in-Ok-clause-ok g c =
    let line = c.args.line.now in
    let fields = ap texts c.deref.ensures.value ∙ c.in_ok-fields-in-Ok.ensures ∙ ap fields_of c.in-Ok.ensures.cases.0 in
    a_first_text line (sym c.if-is_passed_over.ensures) c.in-Ok.ensures.cases.1
    ∙ sym (ap zone_fields_line fields)
    ∙ ap (λ o. o >>= λ z. Some (Beginning z [])) c.in_ok-zone-in-Ok.ensures
    ∙ ap (λ rs. Some (Beginning (zone_view c.in_ok-zone-in-Ok.zone) rs)) (sym (ap (map handed_of) c.new.ensures.items))
