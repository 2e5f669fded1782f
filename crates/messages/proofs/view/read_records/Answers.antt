use Rattle.std.proofs.Common.{◌≡◌, ◌+◌, ◌-◌, ap, ◌∙◌, arith}
use Rattle.std.proofs.lemmas.Result.{err_from_is_err_and}
use Rattle.messages.specs.Message.{records_at}
use Rattle.messages.proofs.MessageRecords.{fault_in, ok_of, err_of, more_records, bad_record, one_less}
use Rattle.messages.proofs.view.read_records.Goals as goal
use Rattle.definitions.specs.Limits.{pointer_limit}

pub returns-in_err-end : goal.returns-in_err-end
returns-in_err-end c =
    let m = c.args.bytes.now in
    let n = c.args.count in
    let p = err_from_is_err_and c.from_residual.result c.from_residual.ensures.1 in
    rw (p.1, p.2) (err_of (records_at n pointer_limit m c.args.first) _ (c.loop.invariant ∙ ap (λ k. fault_in (records_at k pointer_limit m c.loop.at)) (one_less n c.loop.counter (omega arith)) ∙ bad_record (n - (c.loop.counter + 1)) m c.loop.at _ c.in_err-end.ensures))

pub loop-preserved : goal.loop-preserved
loop-preserved c =
    let m = c.args.bytes.now in
    let n = c.args.count in
    c.loop.invariant ∙ ap (λ k. fault_in (records_at k pointer_limit m c.loop.at)) (one_less n c.loop.counter (omega arith)) ∙ more_records (n - (c.loop.counter + 1)) m c.loop.at _ c.in_ok-end.ensures

pub returns : goal.returns
returns c =
    let m = c.args.bytes.now in
    let n = c.args.count in
    let e : n - c.loop.counter ≡ 0 = omega arith in
    ok_of (records_at n pointer_limit m c.args.first) (c.loop.invariant ∙ ap (λ k. fault_in (records_at k pointer_limit m c.loop.at)) e)
