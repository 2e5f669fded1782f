-- Which records of an answer a verdict vouches for, by their numbers in the message.
use Rattle.std.specs.Prelude.{◌≡◌, ℕ, Bool, true, false, List, [], ◌∷◌, ◌++◌, length, Some, None, if◌then◌else◌}
use Rattle.std.specs.Int.{w32, to_be_bytes}
use Rattle.std.specs.List.{flat_map}
use Rattle.std.specs.Ordering.{nat_cmp}
use Rattle.definitions.specs.Limits.{pointer_limit}
use Rattle.definitions.specs.Name.{Name, same}
use Rattle.definitions.specs.Sorting.{sort_by}
use Rattle.definitions.specs.Zone.{Unsigned}
use Rattle.answer_findings.specs.Judgements.{aside, asking}
use Rattle.answer_findings.specs.Seen.{Seen, SeesVerdict, SeesDelegated, SeesNoDs, SeesAlias, SeesStarAlias, SeesOpen, SeesDname, SeesReferral}
use Rattle.answer_judge.specs.Judging.{JudgeInput}
use Rattle.answer_findings.specs.Table.{Checked, answers_with, passes_in}
use Rattle.answer_verified_records.specs.Records.{SaysVerdict, verified_records}

-- the same messages, judged for a type at a name
abbrev pub beside : JudgeInput → Name → ℕ → JudgeInput
beside h name t = aside h (asking h name t)

-- What is judged for what is found: the case itself for a verdict, and NS and DS at the cut of a delegation, or NS at a name without
-- DS, of which the apex is known to be no delegation; CNAME at the name of an alias or of one left open, the DNAME, or the DS records of a referral.
abbrev pub inputs_rested_on : JudgeInput → Seen → List JudgeInput
inputs_rested_on h (SeesVerdict v) = h ∷ []
inputs_rested_on h (SeesDelegated None) = h ∷ []
inputs_rested_on h (SeesDelegated (Some cut)) = h ∷ beside h cut 2 ∷ beside h cut 43 ∷ []
inputs_rested_on h (SeesNoDs d) = if same h.asked.name h.apex then h ∷ [] else h ∷ beside h h.asked.name 2 ∷ []
inputs_rested_on h (SeesAlias target) = beside h h.asked.name 5 ∷ []
inputs_rested_on h (SeesStarAlias target) = beside h h.asked.name 5 ∷ []
inputs_rested_on h SeesOpen = beside h h.asked.name 5 ∷ []
inputs_rested_on h (SeesDname owner leads) = beside h owner 39 ∷ []
inputs_rested_on h (SeesReferral cut ds) = beside h cut 43 ∷ []

-- the numbers of the records that are verified where those signatures pass that pass in a table
abbrev pub verified_by : List Checked → JudgeInput → List ℕ
verified_by table h = verified_records (answers_with (passes_in table)) pointer_limit h

-- a judge says a verdict where those pass
abbrev pub SaysBy : List Checked → JudgeInput → Type 0
SaysBy table h = SaysVerdict (answers_with (passes_in table)) pointer_limit h

-- what is found where the case itself has a verdict, and not beside a refusal
abbrev pub is_own : Seen → Bool
is_own (SeesVerdict v) = true
is_own (SeesDelegated cut) = true
is_own (SeesNoDs d) = true
is_own _ = false

abbrev pub SaysOwn : List Checked → JudgeInput → Seen → Type 0
SaysOwn table h s = is_own s ≡ true → SaysBy table h

-- numbers in ascending order, each once
abbrev pub in_order : List ℕ → List ℕ
in_order ns = sort_by nat_cmp ns

-- the numbers of the records that what is found vouches for: those that are verified for one of the judgements that it rests on
abbrev pub places_found : List Checked → JudgeInput → Seen → List ℕ
places_found table h s = in_order (flat_map (verified_by table) (inputs_rested_on h s))

-- how many places there are, and the places, in four octets each
abbrev pub octets_of_places : List ℕ → List ℕ
octets_of_places places = to_be_bytes w32 (length places) ++ flat_map (to_be_bytes w32) places

-- what stands in front of the octets of what is found: nothing where the zone is not signed, and no record is vouched for
abbrev pub octets_in_front : List Checked → JudgeInput → Seen → List ℕ
octets_in_front table h (SeesVerdict Unsigned) = []
octets_in_front table h s = octets_of_places (places_found table h s)
