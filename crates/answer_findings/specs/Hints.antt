-- Records of an answer that suggest other questions to judge it for.
use Rattle.std.specs.Prelude.{ℕ, Bool, ◌&&◌, ◌==◌, List, [], Option, Ok, Err}
use Rattle.std.specs.List.{find, list_any}
use Rattle.std.specs.Option.{option_map}
use Rattle.definitions.specs.Name.{Name, same, at_or_above, strictly_above}
use Rattle.messages.specs.Message.{Spelled, message}
use Rattle.answer_judge.specs.Judging.{JudgeInput}
use Rattle.answer_findings.specs.declared.hints.Hint.{Hint}
use Rattle.answer_findings.specs.declared.hints.Hint.TheVariants as hint

-- the records of the answer, of all sections in order; none where it isn't read
abbrev pub answer_records : ℕ → JudgeInput → List Spelled
answer_records k h = elim (message k h.answer_bytes) [ Err e ↦ [] | Ok read ↦ read.records ]

-- A record of class IN that suggests a question: CNAME at the name; DNAME strictly above it, at or below the apex; NS at or above
-- it, strictly below the apex.
abbrev pub stands_at : JudgeInput → Hint → Spelled → Bool
stands_at h hint.Cname r = (r.rtype == 5) && same r.owner h.asked.name
stands_at h hint.Dname r = (r.rtype == 39) && at_or_above h.apex r.owner && strictly_above r.owner h.asked.name
stands_at h hint.Cut r = (r.rtype == 2) && strictly_above h.apex r.owner && at_or_above r.owner h.asked.name

abbrev pub hints_at : JudgeInput → Hint → Spelled → Bool
hints_at h which r = (r.class == 1) && stands_at h which r

-- the owner of the first such record
abbrev pub owner_hint : ℕ → JudgeInput → Hint → Option Name
owner_hint k h which = option_map (λ r. r.owner) (find (hints_at h which) (answer_records k h))

abbrev pub has_cname_hint : ℕ → JudgeInput → Bool
has_cname_hint k h = list_any (hints_at h hint.Cname) (answer_records k h)
