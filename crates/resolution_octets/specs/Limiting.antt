-- The limits of evidence in octets.
use Rattle.std.specs.Prelude.{ℕ, ◌==◌, min, if◌then◌else◌}
use Rattle.resolution_walk.specs.declared.walk.Limits.{Limits}
use Rattle.resolution_octets.specs.declared.octets.OctetEvidence.{OctetEvidence}
use Rattle.resolution_octets.specs.declared.walk_reply.ReplyLimits.{ReplyLimits}

-- a number, or another in the place of 0
abbrev pub limit_of : ℕ → ℕ → ℕ
limit_of number other = if number == 0 then other else number

-- 32 delegations for a name, 16 aliases and 128 messages where no number is said; of aliases 255 at most
abbrev pub limits_of : OctetEvidence → Limits
limits_of case = record {
  cuts = limit_of case.max_cuts 32;
  aliases = min (limit_of case.max_aliases 16) 255;
  messages = limit_of case.max_messages 128;
}

-- how much work is allowed; evidence of the size without this limit says no number
abbrev pub work_in : OctetEvidence → ℕ
work_in case = if case.size == 128 then 0 else case.max_work

-- beside a table of so many entries
abbrev pub reply_limits_of : OctetEvidence → ℕ → ReplyLimits
reply_limits_of case checked = record { signatures = case.max_signatures; checked = checked; work = work_in case }
