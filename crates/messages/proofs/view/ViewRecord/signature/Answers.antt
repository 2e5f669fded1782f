use Rattle.std.proofs.Common.{◌∙◌, ap, sym}
use Rattle.names_rdata.specs.Reading.{data_at}
use Rattle.denial_data.specs.Signatures.{rrsig_part}
use Rattle.messages.specs.Record.{spelled}
use Rattle.messages.proofs.DataRead.{signature_found, signature_unread}
use Rattle.messages.proofs.view.ViewRecord.signature.Goals as goal

pub returns-in-Ok : goal.returns-in-Ok
returns-in-Ok c =
    let reader = c.in_ok-parser.ensures.inside in
    sym (signature_found c.args.message.now (spelled c.args.self.now) c.in-Ok.signature reader.1 c.keeps.ensures.numbers c.keeps.ensures.signer (ap (data_at rrsig_part) (sym reader.0) ∙ c.in-Ok.ensures.0))

pub returns-in-Err : goal.returns-in-Err
returns-in-Err c =
    let reader = c.in_ok-parser.ensures.inside in
    sym (signature_unread c.args.message.now (spelled c.args.self.now) _ reader.1 (ap (data_at rrsig_part) (sym reader.0) ∙ c.in-Err.ensures.0))
