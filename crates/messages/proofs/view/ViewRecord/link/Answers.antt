use Rattle.std.proofs.Common.{◌∙◌, ap, subst, sym}
use Rattle.definitions.specs.Name.{IsName}
use Rattle.names_rdata.specs.Reading.{data_at}
use Rattle.names_parsed.specs.Parsed.{parsed_name}
use Rattle.denial_data.specs.Nsec.{nsec_part}
use Rattle.messages.specs.Record.{spelled}
use Rattle.messages.proofs.DataRead.{link_found, link_unread}
use Rattle.messages.proofs.view.ViewRecord.link.Goals as goal

pub returns-in-Ok : goal.returns-in-Ok
returns-in-Ok c =
    let reader = c.in_ok-parser.ensures.inside in
    let name = subst (λ n. IsName (parsed_name n)) c.next_name.ensures c.label_count-next.ensures.name in
    sym (link_found c.args.message.now (spelled c.args.self.now) c.in-Ok.link reader.1 name (ap (data_at nsec_part) (sym reader.0) ∙ c.in-Ok.ensures.0))

pub returns-in-Err : goal.returns-in-Err
returns-in-Err c =
    let reader = c.in_ok-parser.ensures.inside in
    sym (link_unread c.args.message.now (spelled c.args.self.now) _ reader.1 (ap (data_at nsec_part) (sym reader.0) ∙ c.in-Err.ensures.0))
