use Rattle.std.proofs.Common.{Fits, w8, ℕ, ◌≤◌, List, length, get_or, arith}
use Rattle.std.specs.Prelude.{IfOk, Result, Ok, Err}
use Rattle.definitions.specs.Limits.{pointer_limit}
use Rattle.messages.specs.Message.{Message, message}
use Rattle.messages.specs.View.{Gives}
use Rattle.messages.specs.declared.error.MessageError.{MessageError}
use Rattle.messages.proofs.CountedRecords.{few_records}
use Rattle.messages.proofs.MessageParts.{octets_all}
use Rattle.answer_judge.proofs.judging.read_counted.Goals as goal

few : {K : Type 0} (m : List ℕ) (result : Result (Message × K) MessageError) → ((i : ℕ) → Fits w8 (get_or m i 0)) → Gives (λ r. r.0) result (message pointer_limit m) → IfOk result (λ r. length r.0.records ≤ 196605)
few m (Ok v) small gives = few_records pointer_limit m v.0 (octets_all m (λ i. let s = small i in omega arith)) gives
few m (Err e) small gives = tt

pub returns-clause-few : goal.returns-clause-few
returns-clause-few c = few c.args.bytes.now c.read_message_into.result c.type_inv.bytes c.read_message_into.ensures.exact
