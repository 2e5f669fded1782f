use Rattle.std.proofs.Common.{◌<◌, refl, sym, ap, ◌∙◌, Err, arith}
use Rattle.std.proofs.lemmas.Bool.{false≢true}
use Rattle.std.proofs.lemmas.Result.{err_from_is_err_and}
use Rattle.names_parsed.proofs.Parsing.{below_not}
use Rattle.names_rdata.proofs.PartCalls.{unknown_long, has_text}
use Rattle.names_rdata.proofs.unknown.UnknownRecordData+ref+slice+u8.parse_any_rdata.Goals as goal

pub returns-in_err-check_len-clause-read : goal.returns-in_err-check_len-clause-read
returns-in_err-check_len-clause-read c =
    let p = err_from_is_err_and c.from_residual.result c.from_residual.ensures.1 in
    let old = c.args.parser.now in
    let long : 65535 < c.remaining.result = below_not (λ h. false≢true (c.in_err-check_len.ensures.1 h)) in
    let m = c.as_slice-message.ensures in
    rw p.1 (unknown_long old m.place m.end (omega (arith, long, c.remaining.ensures)) ∙ ap Err (sym (has_text p.0 _ p.2)), refl)
