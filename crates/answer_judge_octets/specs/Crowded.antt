-- Messages that would cost too much work to be judged.
use Rattle.std.specs.Prelude.{ℕ, suc, ◌+◌, Bool, ◌&&◌, ◌||◌, ◌==◌, not, List, [], ◌∷◌, Ok, Err, filter, length, nat_lt}
use Rattle.definitions.specs.Limits.{pointer_limit}
use Rattle.messages.specs.Message.{Spelled, message}
use Rattle.answer_judge.specs.Judging.{JudgeInput}

-- the records of a message, of all sections in order; none where it isn't read
abbrev pub records_of : List ℕ → List Spelled
records_of m = elim (message pointer_limit m) [ Err e ↦ [] | Ok read ↦ read.records ]

abbrev pub is_rrsig : Spelled → Bool
is_rrsig r = r.rtype == 46

abbrev pub has_more_rrsigs : ℕ → List Spelled → Bool
has_more_rrsigs most records = nat_lt most (length (filter is_rrsig records))

-- how many labels the owners of records have in all, the root counted in each
abbrev pub owner_labels : List Spelled → ℕ
owner_labels [] = 0
owner_labels (r ∷ rs) = suc (length r.owner) + owner_labels rs

abbrev pub has_more_labels : ℕ → List Spelled → Bool
has_more_labels most records = nat_lt most (owner_labels records)

-- A message of over 4,096 octets that has more than 64 RRSIG records, or owners of more than 32,768 labels.
abbrev pub is_crowded : List ℕ → Bool
is_crowded m = nat_lt 4096 (length m) && (has_more_rrsigs 64 (records_of m) || has_more_labels 32768 (records_of m))

-- One of the messages that are judged is so; beside no DS record none is judged.
abbrev pub are_crowded : JudgeInput → Bool
are_crowded h = not (length h.ds == 0) && (is_crowded h.dnskey_bytes || is_crowded h.answer_bytes)
