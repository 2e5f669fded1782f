use Rattle.std.proofs.Common.{◌∙◌, ap, arith, sym}
use Rattle.names_rdata.specs.Reading.{data_at}
use Rattle.denial_fields.specs.Ended.{ended_part}
use Rattle.answer_terms.proofs.KeyData.{key_found, no_key}
use Rattle.answer_terms.proofs.dnskey.key_of_data.Goals as goal

pub returns-in-Ok : goal.returns-in-Ok
returns-in-Ok c =
    key_found c.args.rdata.now c.in-Ok.key c.requires (omega (arith, c.flags-flags.ensures)) (ap (data_at ended_part) (sym c.from_ref.ensures) ∙ c.in-Ok.ensures.0)

pub returns-in-Err : goal.returns-in-Err
returns-in-Err c = no_key c.args.rdata.now _ c.requires (ap (data_at ended_part) (sym c.from_ref.ensures) ∙ c.in-Err.ensures.0)
