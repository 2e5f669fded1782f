use Rattle.std.proofs.lemmas.Bool.{false≢true}
use Rattle.std.proofs.lemmas.Result.{err_from_is_err_and}
use Rattle.denial_nsec_data.proofs.Faults.{no_bitmap}
use Rattle.denial_nsec_data.proofs.reading.parse_bitmap.Goals as goal

pub returns-in_err-types : goal.returns-in_err-types
returns-in_err-types c =
    let p = err_from_is_err_and c.from_residual-in_err-types.result c.from_residual-in_err-types.ensures.1 in
    let old = c.args.parser.now in
    let mid = c.parse_rest.new.parser in
    let a = c.in_ok-octets.ensures.read in
    rw p.1 (
      no_bitmap old.octets old.place old.end mid.place c.in_ok-octets.octets.now c.in_err-types.field-0.0 p.0 a.0 (λ h. false≢true (c.in_err-types.ensures.accepts.1 h)) c.in_err-types.ensures.refused p.2,
      a.1,
    )
