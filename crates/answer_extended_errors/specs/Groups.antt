-- RRsets that were gathered, as contracts see them.
use Rattle.std.specs.Prelude.{ℕ, Bool, ◌==◌, List, length, Option, Some, None, is_some, if◌then◌else◌}
use Rattle.std.specs.List.{list_any}
use Rattle.definitions.specs.Limits.{pointer_limit}
use Rattle.messages.specs.Message.{Spelled}
use Rattle.answer_judge_facts.specs.Marked.{is_of, marked}
use Rattle.answer_judge_facts.specs.Verified.{Trusting}
use Rattle.answer_judge_facts.specs.declared.groups.SignedRrset.{SignedRrset}
use Rattle.answer_extended_errors.specs.Extended.{RrsetTest, signatures_of, untimely}
use Rattle.answer_extended_errors.specs.declared.error.ExtendedError.{ExtendedError}
use Rattle.answer_extended_errors.specs.declared.error.ExtendedError.TheVariants as e

-- one of the groups is of an owner and a type
abbrev pub is_among : List SignedRrset → RrsetTest
is_among gs owner t = list_any (is_of owner t) gs

-- the records verify it
abbrev pub is_marked : Trusting → List ℕ → List Spelled → SignedRrset → Bool
is_marked w m rs g = is_some (marked w m rs g).verified

-- why groups that nothing verified yet prove no verdict
abbrev pub groups_error : Trusting → List ℕ → List SignedRrset → List Spelled → ExtendedError
groups_error w m gs rs =
    if length gs == 0 then e.NsecMissing
    else elim (untimely w.now (signatures_of pointer_limit m w.apex (is_among gs) rs)) [
      | Some error ↦ error
      | None ↦ if list_any (is_marked w m rs) gs then e.IncompleteDenial else e.DnssecBogus
    ]
