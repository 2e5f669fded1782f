use Rattle.std.proofs.Common.{◌≡◌, ◌+◌, ◌<◌, ◌∙◌, inl, inr, length, refl, sym, ap, Ok, Err, arith}
use Rattle.std.proofs.lemmas.Result.{err_from_is_err_and}
use Rattle.std.proofs.lemmas.Bool.{false≢true}
use Rattle.definitions.specs.Limits.{pointer_limit}
use Rattle.definitions.specs.Reading.{name_at}
use Rattle.names_parsed.specs.Heads.{fault_of}
use Rattle.names_parsed.proofs.Inversion.{standing}
use Rattle.names_parsed.proofs.Parsing.{read_name, no_name, reads_name, past_end, below_not}
use Rattle.names_parsed.proofs.parsed.ParsedName.parse.Goals as goal

pub returns-in_err-walked-clause-refused : goal.returns-in_err-walked-clause-refused
returns-in_err-walked-clause-refused c =
    let p = err_from_is_err_and c.from_residual.result c.from_residual.ensures.1 in
    let e = c.in_err-walked.field-0.0 in
    let r = c.args.parser.now in
    let read : name_at pointer_limit r.octets r.place ≡ Err (fault_of e) = (λ i. name_at pointer_limit (sym c.as_slice-message.ensures.octets i) (sym c.pos-start.ensures i)) ∙ c.in_err-walked.ensures in
    rw p.1 (λ n b s h. no_name r.octets r.place (fault_of e) read n b s)

pub returns-in_err-walked-clause-fault : goal.returns-in_err-walked-clause-fault
returns-in_err-walked-clause-fault c =
    let p = err_from_is_err_and c.from_residual.result c.from_residual.ensures.1 in
    let e = c.in_err-walked.field-0.0 in
    let r = c.args.parser.now in
    let read : name_at pointer_limit r.octets r.place ≡ Err (fault_of e) = (λ i. name_at pointer_limit (sym c.as_slice-message.ensures.octets i) (sym c.pos-start.ensures i)) ∙ c.in_err-walked.ensures in
    rw (p.1, p.2) (inl read)

pub returns-in_err-seek-clause-refused : goal.returns-in_err-seek-clause-refused
returns-in_err-seek-clause-refused c =
    let p = err_from_is_err_and c.from_residual-in_err-seek.result c.from_residual-in_err-seek.ensures.1 in
    let w = c.in_ok-walked.ensures in
    let r = c.args.parser.now in
    let b = c.in_ok-walked.walked.behind in
    let read : name_at pointer_limit r.octets r.place ≡ Ok (w.0, b) = (λ i. name_at pointer_limit (sym c.as_slice-message.ensures.octets i) (sym c.pos-start.ensures i)) ∙ w.1 in
    let past : r.end < b = below_not (λ h. false≢true (c.in_err-seek.ensures.inside.1 h)) in
    rw p.1 (λ n e s h. past_end r.octets r.place w.0 n b e r.end read past s h)

pub returns-in_err-seek-clause-fault : goal.returns-in_err-seek-clause-fault
returns-in_err-seek-clause-fault c =
    let p = err_from_is_err_and c.from_residual-in_err-seek.result c.from_residual-in_err-seek.ensures.1 in
    let w = c.in_ok-walked.ensures in
    let r = c.args.parser.now in
    let b = c.in_ok-walked.walked.behind in
    let read : name_at pointer_limit r.octets r.place ≡ Ok (w.0, b) = (λ i. name_at pointer_limit (sym c.as_slice-message.ensures.octets i) (sym c.pos-start.ensures i)) ∙ w.1 in
    let past : r.end < b = below_not (λ h. false≢true (c.in_err-seek.ensures.inside.1 h)) in
    rw (p.1, p.2) (inr (w.0, b, read, past, c.in_err-seek.ensures.fault))

pub invariant_of-result : goal.invariant_of-result
invariant_of-result c =
    let w = c.in_ok-walked.ensures in
    let m = c.as_slice-message.result.now in
    let s = standing m c.pos-start.result w.0 c.in_ok-walked.walked.behind (read_name m c.pos-start.result w.0 c.in_ok-walked.walked.behind w.1) in
    record {
      there = s.0;
      counted = omega (arith, w.2, ap length s.1);
      in_row = λ some. w.3 some ∙ ap (λ n. Ok (n, c.pos-start.result + c.in_ok-walked.walked.row)) (sym s.1);
    }

pub returns-clause-ok : goal.returns-clause-ok
returns-clause-ok c =
    let w = c.in_ok-walked.ensures in
    let m = c.as_slice-message.result.now in
    reads_name c.args.parser.now c.seek.new.self m c.pos-start.result c.in_ok-walked.walked.behind w.0 _ c.as_slice-message.ensures.octets c.pos-start.ensures w.1 (c.in_ok-seek.ensures.inside.0 refl) c.in_ok-seek.ensures.ok refl refl
