use Rattle.std.proofs.Common.{◌∙◌, ap, subst, sym}
use Rattle.definitions.specs.Name.{IsName}
use Rattle.names_rdata.specs.Reading.{data_at}
use Rattle.names_parsed.specs.Parsed.{parsed_name}
use Rattle.plain.specs.Soa.{soa_part}
use Rattle.messages.specs.Record.{spelled}
use Rattle.messages.proofs.DataRead.{soa_found, soa_unread}
use Rattle.messages.proofs.view.ViewRecord.start_of_authority.Goals as goal

pub returns-in-Ok : goal.returns-in-Ok
returns-in-Ok c =
    let reader = c.in_ok-parser.ensures.inside in
    let first = subst (λ n. IsName (parsed_name n)) c.mname.ensures c.label_count-first.ensures.name in
    let second = subst (λ n. IsName (parsed_name n)) c.rname.ensures c.label_count-second.ensures.name in
    sym (soa_found c.args.message.now (spelled c.args.self.now) c.in-Ok.soa reader.1 first second (ap (data_at soa_part) (sym reader.0) ∙ c.in-Ok.ensures.0))

pub returns-in-Err : goal.returns-in-Err
returns-in-Err c =
    let reader = c.in_ok-parser.ensures.inside in
    sym (soa_unread c.args.message.now (spelled c.args.self.now) _ reader.1 (ap (data_at soa_part) (sym reader.0) ∙ c.in-Err.ensures.0))
