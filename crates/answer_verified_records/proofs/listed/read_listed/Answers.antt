use Rattle.std.proofs.Common.{◌≡◌, ◌++◌, List, map, ap, ◌∙◌, arith}
use Rattle.definitions.specs.Limits.{pointer_limit}
use Rattle.messages.specs.Record.{spelled}
use Rattle.messages.specs.declared.view.ViewRecord.{ViewRecord}
use Rattle.messages.proofs.CountedRecords.{few_records}
use Rattle.messages.proofs.MessageParts.{octets_all}
use Rattle.answer_verified_records.proofs.listed.read_listed.Goals as goal

pub returns-clause-listed : goal.returns-clause-listed
returns-clause-listed c =
    let m = c.args.bytes.now in
    let view = c.in-Ok.view in
    let listed = rw c.in_ok-in_memory.was at c.in-Ok.ensures.listed in
    let all : map spelled c.read_message_into.new.records.items ≡ view.records = listed ∙ ap (λ (vs : List ViewRecord). map spelled vs ++ view.records) c.new-records.ensures.items in
    record {
      are = all;
      few = few_records pointer_limit m view (octets_all m (λ i. let s = c.type_inv.bytes i in omega arith)) c.in-Ok.ensures.exact;
    }
