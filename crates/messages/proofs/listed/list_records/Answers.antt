use Rattle.std.proofs.Common.{◌≡◌, ◌+◌, ◌-◌, map, ap, subst, ◌∙◌, arith}
use Rattle.std.specs.Prelude.{OnOk}
use Rattle.std.proofs.lemmas.Result.{err_from_is_err_and}
use Rattle.messages.specs.Message.{records_at}
use Rattle.messages.specs.Record.{spelled}
use Rattle.messages.specs.View.{placed}
use Rattle.messages.proofs.MessageRecords.{fault_in, in_front, err_of, more_records, bad_record, front_listed, one_less}
use Rattle.messages.proofs.listed.list_records.Goals as goal
use Rattle.definitions.specs.Limits.{pointer_limit}

pub returns-in_err-record-clause-read : goal.returns-in_err-record-clause-read
returns-in_err-record-clause-read c =
    let m = c.args.bytes.now in
    let n = c.args.count in
    let p = err_from_is_err_and c.from_residual.result c.from_residual.ensures.1 in
    rw (p.1, p.2) (err_of (records_at n pointer_limit m c.args.first) _ (c.loop.invariant.fault ∙ ap (λ k. fault_in (records_at k pointer_limit m c.loop.at)) (one_less n c.loop.counter (omega arith)) ∙ bad_record (n - (c.loop.counter + 1)) m c.loop.at _ c.in_err-record.ensures))

pub loop-preserved : goal.loop-preserved
loop-preserved c =
    let m = c.args.bytes.now in
    let n = c.args.count in
    let old = map spelled c.loop.records.items in
    let all = in_front (map spelled c.args.records.now.items) (records_at n pointer_limit m c.args.first) in
    let less = one_less n c.loop.counter (omega arith) in
    let so_far = subst (λ k. OnOk c.loop.listed (in_front old (records_at k pointer_limit m c.loop.at) ≡ all)) less c.loop.invariant.listed in
    record {
      fault = c.loop.invariant.fault ∙ ap (λ k. fault_in (records_at k pointer_limit m c.loop.at)) less ∙ more_records (n - (c.loop.counter + 1)) m c.loop.at _ c.in_ok-record.ensures;
      listed = front_listed c.loop.listed c.list_record-listed.result (n - (c.loop.counter + 1)) m c.loop.at (placed (spelled c.in_ok-record.record) c.in_ok-record.end) old (map spelled c.list_record-listed.new.records.items) all c.in_ok-record.ensures so_far c.list_record-listed.ensures.before c.list_record-listed.ensures.listed;
    }
