-- Whether a walk that would go on has been as much work as a caller allows.
use Rattle.std.specs.Prelude.{ℕ, ◌+◌, ◌*◌, ◌==◌, ◌&&◌, Bool, true, false, length, nat_lt, sum_by, if◌then◌else◌}
use Rattle.answer_findings.specs.Table.{Checked}
use Rattle.evidence_laws.specs.Counted.{saturated}
use Rattle.evidence_laws.specs.Given.{Given}
use Rattle.resolution_walk.specs.declared.ending.Ending.{Ending}
use Rattle.resolution_walk.specs.declared.ending.Ending.TheVariants as ends
use Rattle.resolution_walk.specs.declared.ending.Walk.{Walk}

-- A signature stands for one call at most; one that fails counts sixteen, since an honest answer has none.
abbrev pub entry_calls : Checked → ℕ
entry_calls c = if c.passes then 1 else 16

-- For how many calls evidence stands: each brings a message or a signature more, at least.
abbrev pub calls_of : Given → ℕ
calls_of e = saturated (length e.messages + sum_by entry_calls e.table)

-- 6,000,000 where no number is said
abbrev pub most_work : ℕ → ℕ
most_work number = if number == 0 then 6000000 else number

abbrev pub is_too_much : ℕ → ℕ → ℕ → Bool
is_too_much most calls work = nat_lt (most_work most) (calls * work)

-- messages or signatures are wanted, so another call follows
abbrev pub goes_on : Ending → Bool
goes_on (ends.Asks asks) = true
goes_on (ends.Wants ws) = true
goes_on _ = false

-- A walk would go on, and so many calls, each as much work as this one, are more than is allowed.
abbrev pub goes_too_far : ℕ → Given → Walk → Bool
goes_too_far most e w = goes_on w.ending && is_too_much most (calls_of e) w.counts.work
