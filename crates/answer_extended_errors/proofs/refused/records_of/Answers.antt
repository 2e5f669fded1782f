use Rattle.std.proofs.Common.{◌≡◌, ◌++◌, List, map, ap, ◌∙◌, arith}
use Rattle.definitions.specs.Limits.{pointer_limit}
use Rattle.messages.specs.Record.{spelled}
use Rattle.messages.specs.declared.view.ViewRecord.{ViewRecord}
use Rattle.messages.proofs.CountedRecords.{few_records, same_count}
use Rattle.messages.proofs.MessageParts.{octets_all}
use Rattle.answer_extended_errors.proofs.refused.records_of.Goals as goal

pub returns-clause-few : goal.returns-clause-few
returns-clause-few c =
    let m = c.args.bytes.now in
    let view = c.in-Ok._view in
    let listed = rw c.in_ok-in_memory.was at c.in-Ok.ensures.listed in
    let all : map spelled c.read_message_into.new.records.items ≡ view.records = listed ∙ ap (λ (vs : List ViewRecord). map spelled vs ++ view.records) c.new-records.ensures.items in
    omega (
      arith,
      few_records pointer_limit m view (octets_all m (λ i. let s = c.type_inv.bytes i in omega arith)) c.in-Ok.ensures.exact,
      same_count c.read_message_into.new.records.items view.records all,
    )
