-- The names between a zone and a question's name: the zone is asked for DS at them one by one, the topmost first.
use Rattle.std.specs.Prelude.{◌≡◌, Bool, true, false, ◌&&◌, ◌==◌, List, drop, Option, None, Some}
use Rattle.definitions.specs.Dnskey.{Ds}
use Rattle.definitions.specs.Name.{Name, same, at_or_above, strictly_above}
use Rattle.messages.specs.Message.{Asked}
use Rattle.answer_judge_facts.specs.declared.validity.Validity.{Validity}
use Rattle.answer_judge.specs.declared.verdict.Refusal.{Refusal}
use Rattle.answer_judge.specs.declared.verdict.Refusal.TheVariants as r
use Rattle.evidence_laws.specs.Counted.{plus}
use Rattle.evidence_laws.specs.Counts.{Counts}
use Rattle.evidence_laws.specs.Given.{Given}
use Rattle.evidence_laws.specs.Told.{StepSeen, TellsNoCut, TellsNoneBelow, TellsNothing}
use Rattle.evidence_laws.specs.Walking.{IsNameStep, IsOwnStep, ds_at}

-- ---- what tells nothing

-- it is nothing of the way, and this is why it is refused, if it is
abbrev pub IsNothing : StepSeen → Option Refusal → Type 0
IsNothing (TellsNothing x) refusal = refusal ≡ x
IsNothing TellsNoCut refusal = refusal ≡ None
IsNothing TellsNoneBelow refusal = refusal ≡ None
IsNothing _ refusal = ⊥

-- memory ran out: that is nothing that a zone tells
abbrev pub is_of_memory : Option Refusal → Bool
is_of_memory (Some r.Memory) = true
is_of_memory _ = false

abbrev pub lacked_memory : StepSeen → Bool
lacked_memory (TellsNothing refusal) = is_of_memory refusal
lacked_memory _ = false

-- a zone's answer to the question tells nothing of the way, and why it is refused, if it is: in memory enough
pub record IsAnswerUntold (e : Given) (asked : Asked) (zone : Name) (ds : List Ds) (refusal : Option Refusal) (counts : Counts) : Type 0 where
  pub said : StepSeen
  pub nothing : IsNothing said refusal
  pub in_memory : lacked_memory said ≡ false
  pub validity : Option Validity
  pub step : IsOwnStep e zone ds asked said validity counts

-- the zone's keys are refused, by which each of its messages is judged
abbrev pub is_of_keys : Refusal → Bool
is_of_keys r.BadDnskeyMessage = true
is_of_keys r.EqualTags = true
is_of_keys r.NoTrustedKey = true
is_of_keys _ = false

abbrev pub are_keys_refused : Option Refusal → Bool
are_keys_refused None = false
are_keys_refused (Some refusal) = is_of_keys refusal

-- it tells nothing though the zone's keys are not refused: so other answers of the zone may tell something
pub record IsUnanswered (e : Given) (asked : Asked) (zone : Name) (ds : List Ds) : Type 0 where
  pub refusal : Option Refusal
  pub counts : Counts
  pub untold : IsAnswerUntold e asked zone ds refusal counts
  pub keys : are_keys_refused refusal ≡ false

-- ---- DS at the names between

-- a name between: below the zone, and the question's name or above it
abbrev pub LiesBetween : Name → Asked → Name → Type 0
LiesBetween zone asked n = (strictly_above zone n ≡ true) × (at_or_above n asked.name ≡ true)

-- DS at the name is the question itself
abbrev pub is_itself : Asked → Name → Bool
is_itself asked n = same n asked.name && (asked.rtype == 43)

-- a zone's answer for DS tells this of a delegation, in memory enough, with the counts before its judgement and after
pub record IsToldFor (e : Given) (zone : Name) (ds : List Ds) (sought : Asked) (said : StepSeen) (before after : Counts) : Type 0 where
  pub validity : Option Validity
  pub counts : Counts
  pub step : IsNameStep e zone ds sought said validity counts
  pub in_memory : lacked_memory said ≡ false
  pub sum : after ≡ plus before counts

-- No delegation is at the names between, from the topmost one down to this one: at each the zone's answer for DS tells so, unless
-- that is the question itself.
pub data AreUncut (e : Given) (asked : Asked) (zone : Name) (ds : List Ds) (before : Counts) : Name → Counts → Type 0 where
  AtZone : {n : Name} {after : Counts} → strictly_above zone n ≡ false → after ≡ before → AreUncut e asked zone ds before n after
  Itself : {n : Name} {after : Counts} → is_itself asked n ≡ true → AreUncut e asked zone ds before (drop 1 n) after → AreUncut e asked zone ds before n after
  Next : {n : Name} {between after : Counts} → LiesBetween zone asked n → is_itself asked n ≡ false → AreUncut e asked zone ds before (drop 1 n) between
      → IsToldFor e zone ds (ds_at asked n) TellsNoCut between after → AreUncut e asked zone ds before n after

-- the same down to one that has none below it either
pub record AreUncutBelow (e : Given) (asked : Asked) (zone : Name) (ds : List Ds) (before after : Counts) : Type 0 where
  pub name : Name
  pub lies : LiesBetween zone asked name
  pub other : is_itself asked name ≡ false
  pub between : Counts
  pub above : AreUncut e asked zone ds before (drop 1 name) between
  pub told : IsToldFor e zone ds (ds_at asked name) TellsNoneBelow between after

-- No delegation is at any name between: the zone's answers for DS tell so, from the topmost name down to the question's, or to one
-- that has none below it.
pub data AreAllUncut (e : Given) (asked : Asked) (zone : Name) (ds : List Ds) (before after : Counts) : Type 0 where
  DownToName : AreUncut e asked zone ds before asked.name after → AreAllUncut e asked zone ds before after
  DownToMissing : AreUncutBelow e asked zone ds before after → AreAllUncut e asked zone ds before after

-- ---- which are asked for

-- The zone is asked for DS at a name between, or that is the question itself: the answer to the question tells nothing of the way
-- though the zone's keys are not refused, and no delegation is at the names above.
pub record IsReached (e : Given) (asked : Asked) (zone : Name) (ds : List Ds) (n : Name) : Type 0 where
  pub lies : LiesBetween zone asked n
  pub untold : IsUnanswered e asked zone ds
  pub before : Counts
  pub after : Counts
  pub above : AreUncut e asked zone ds before (drop 1 n) after

-- a question for DS at such a name, which is another question
pub record IsBetween (e : Given) (asked : Asked) (zone : Name) (ds : List Ds) (sought : Asked) : Type 0 where
  pub name : Name
  pub is : sought ≡ ds_at asked name
  pub other : is_itself asked name ≡ false
  pub reached : IsReached e asked zone ds name
