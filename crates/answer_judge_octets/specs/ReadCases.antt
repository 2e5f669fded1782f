-- A case in octets that was read.
use Rattle.answer_judge.specs.Judging.{JudgeInput, handed_for}
use Rattle.std.specs.Prelude.{◌≡◌, ◌*◌}
use Rattle.std.specs.Cow.{cow_slice_items}
use Rattle.messages.specs.Questions.{asked_of}
use Rattle.answer_judge_octets.specs.declared.octets.OctetCase.{OctetCase}
use Rattle.answer_judge_octets.specs.declared.octets.ReadCase.{ReadCase}
use Rattle.answer_judge_octets.specs.Replying.{Spells, unsupported}

-- what the judge is handed
abbrev pub judge_input_of : OctetCase → ReadCase → JudgeInput
judge_input_of case r =
    handed_for r.apex r.ds.items (cow_slice_items r.dnskey) (cow_slice_items r.answer) (asked_of r.question) (case.moment * 1000000000) case.limit r.one_moment r.other_question

-- what the case spells, the error that is said where no DS record of it is judged by, and whether it wants places
pub record ReadsAs (case : OctetCase) (r : ReadCase) : Type 0 where
  pub spelled : Spells case (judge_input_of case r) r.table.items
  pub error_is : r.error ≡ unsupported spelled.ds_set
  pub places_are : r.places ≡ spelled.places
