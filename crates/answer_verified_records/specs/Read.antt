-- Both messages of what is handed to a judge, as they were read.
use Rattle.std.specs.Prelude.{◌≡◌, ◌≤◌, false, Ok, length, map}
use Rattle.definitions.specs.Limits.{pointer_limit}
use Rattle.messages.specs.Message.{message}
use Rattle.messages.specs.Record.{spelled}
use Rattle.answer_judge.specs.Judging.{JudgeInput}
use Rattle.answer_judge.specs.Judged.{keys_of}
use Rattle.answer_judge_facts.specs.Marked.{is_chain_type}
use Rattle.answer_verified_records.specs.declared.listed.Listed.{Listed}
use Rattle.answer_verified_records.specs.declared.listed.Messages.{Messages}

-- a list has the records of a message, no more than three counts of 16 bits
pub record IsListed (l : Listed) : Type 0 where
  pub are : map spelled l.records.items ≡ l.view.records
  pub few : length l.view.records ≤ 196605

-- the messages that the octets spell, and the keys of the first; the question is for no record of a chain
pub record IsReadOf (h : JudgeInput) (read : Messages) : Type 0 where
  pub keys : message pointer_limit h.dnskey_bytes ≡ Ok read.keys.view
  pub answer : message pointer_limit h.answer_bytes ≡ Ok read.answer.view
  pub keys_listed : IsListed read.keys
  pub answer_listed : IsListed read.answer
  pub tagged : read.tagged.items ≡ keys_of h read.keys.view
  pub other : is_chain_type h.asked.rtype ≡ false
