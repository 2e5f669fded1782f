use Rattle.std.proofs.Common.{◌≡◌, ◌<◌, ◌∙◌, true, arith, ap, subst, sym}
use Rattle.definitions.specs.Bitmap.{is_bitmap}
use Rattle.names_rdata.specs.Reading.{data_at}
use Rattle.denial_data.specs.Hashed.{nsec3_part}
use Rattle.messages.proofs.Nsec3Read.{nsec3_found, nsec3_unread}
use Rattle.messages.proofs.rdata.read_hashed_link.Goals as goal

pub returns-in-Ok : goal.returns-in-Ok
returns-in-Ok c =
    let small : c.in-Ok.link.params.iterations < 65536 = omega (arith, c.iterations-iterations.ensures) in
    let valid : is_bitmap c.in-Ok.link.types ≡ true = subst (λ b. is_bitmap b ≡ true) (c.as_slice-types.ensures.value ∙ c.types.ensures) c.as_slice-types.ensures.bitmap in
    sym (nsec3_found c.args.octets.now c.in-Ok.link c.requires small valid (ap (data_at nsec3_part) (sym c.from_ref-parser.ensures) ∙ c.in-Ok.ensures.0))

pub returns-in-Err : goal.returns-in-Err
returns-in-Err c = sym (nsec3_unread c.args.octets.now _ c.requires (ap (data_at nsec3_part) (sym c.from_ref-parser.ensures) ∙ c.in-Err.ensures.0))
