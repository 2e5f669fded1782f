-- How much work it is to judge messages, in units of a label of an owner.
use Rattle.std.specs.Prelude.{ℕ, ◌+◌, ◌*◌, ◌/◌, length, List, [], ◌∷◌, Ok, Err, if◌then◌else◌}
use Rattle.definitions.specs.Limits.{pointer_limit}
use Rattle.messages.specs.Message.{Spelled, message}
use Rattle.answer_judge.specs.Judging.{JudgeInput}
use Rattle.answer_judge_facts.specs.Marked.{is_chain_type}
use Rattle.resolution_step.specs.Counted.{saturated}

-- eight and the labels of its owner; 32 times as much of an NSEC or NSEC3 record, since these are sorted
abbrev pub record_work : Spelled → ℕ
record_work r = if is_chain_type r.rtype then 32 * (8 + length r.owner) else 8 + length r.owner

abbrev pub records_work : List Spelled → ℕ
records_work [] = 0
records_work (r ∷ rs) = record_work r + records_work rs

-- that of its records, of all sections, if it is read; and one for each 32 octets
abbrev pub message_work : List ℕ → ℕ
message_work m = length m / 32 + elim (message pointer_limit m) [ Err e ↦ 0 | Ok read ↦ records_work read.records ]

-- of both messages of a case
abbrev pub work_of : JudgeInput → ℕ
work_of h = saturated (message_work h.dnskey_bytes + message_work h.answer_bytes)
