use Rattle.std.proofs.Common.{◌∙◌, ap, subst, sym}
use Rattle.definitions.specs.Name.{IsName}
use Rattle.names_rdata.specs.Reading.{data_at, name_part}
use Rattle.names_parsed.specs.Parsed.{parsed_name}
use Rattle.messages.specs.Record.{spelled}
use Rattle.messages.proofs.DataRead.{ns_found, ns_unread}
use Rattle.messages.proofs.view.ViewRecord.name_server.Goals as goal

pub returns-in-Ok : goal.returns-in-Ok
returns-in-Ok c =
    let reader = c.in_ok-parser.ensures.inside in
    let name = subst (λ n. IsName (parsed_name n)) c.nsdname.ensures c.label_count-server.ensures.name in
    sym (ns_found c.args.message.now (spelled c.args.self.now) c.in-Ok.ns reader.1 name (ap (data_at name_part) (sym reader.0) ∙ c.in-Ok.ensures.0))

pub returns-in-Err : goal.returns-in-Err
returns-in-Err c =
    let reader = c.in_ok-parser.ensures.inside in
    sym (ns_unread c.args.message.now (spelled c.args.self.now) _ reader.1 (ap (data_at name_part) (sym reader.0) ∙ c.in-Err.ensures.0))
