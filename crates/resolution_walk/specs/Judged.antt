-- Which judgements a walk makes of a zone's messages, how often was verified and hashed for them, and what is heard by them.
use Rattle.std.specs.Prelude.{◌≡◌, ◌⊎◌, ℕ, Bool, true, false, List, drop, Option, Result, Ok, Err}
use Rattle.definitions.specs.Dnskey.{Ds}
use Rattle.definitions.specs.Name.{Name}
use Rattle.messages.specs.Message.{Asked}
use Rattle.answer_judge_facts.specs.declared.validity.Validity.{Validity}
use Rattle.answer_judge.specs.declared.verdict.Refusal.{Refusal}
use Rattle.evidence_laws.specs.Counted.{plus}
use Rattle.evidence_laws.specs.Counts.{Counts}
use Rattle.evidence_laws.specs.Given.{Given}
use Rattle.evidence_laws.specs.Told.{StepSeen, TellsNoCut, TellsNoneBelow, TellsNothing, AsksFor, at_cut}
use Rattle.evidence_laws.specs.Walking.{IsNameStep, IsOwnStep, ds_at}
use Rattle.resolution_walk.specs.Between.{AreAllUncut, AreUncut, AreUncutBelow, IsAnswerUntold, IsBetween, IsNothing, IsToldFor, LiesBetween, is_itself, lacked_memory}
pub use Rattle.resolution_walk.specs.Between.{are_keys_refused, is_of_keys}
use Rattle.resolution_walk.specs.Query.{Query}
use Rattle.resolution_walk.specs.Wanted.{is_lacking}
use Rattle.resolution_walk.specs.declared.ending.Ending.{Ending}
use Rattle.resolution_walk.specs.declared.ending.Ending.TheVariants as ends
use Rattle.resolution_walk.specs.declared.ending.Hop.{Hop}
use Rattle.resolution_walk.specs.declared.ending.Hop.TheVariants as hops
use Rattle.resolution_walk.specs.declared.ending.JudgedHop.{JudgedHop}
use Rattle.resolution_walk.specs.declared.ending.Uncut.{Uncut}
use Rattle.resolution_walk.specs.declared.ending.Uncut.TheVariants as uncut

-- whether it is nothing of the way; and whether it is that no delegation is there
abbrev pub is_nothing : StepSeen → Bool
is_nothing (TellsNothing r) = true
is_nothing TellsNoCut = true
is_nothing TellsNoneBelow = true
is_nothing _ = false

abbrev pub is_uncut : StepSeen → Bool
is_uncut TellsNoCut = true
is_uncut TellsNoneBelow = true
is_uncut _ = false

-- whether signatures are asked for
abbrev pub is_asking : StepSeen → Bool
is_asking (AsksFor asks) = true
is_asking _ = false

abbrev pub asks_more : Ending → Bool
asks_more (ends.Asks asks) = true
asks_more _ = false

-- ---- counts, those before and those after

-- Of the answers for DS at the names between, the topmost first: those that tell of no delegation, down to the question's name or to
-- one that has none below it; or down to a name whose answer is not there; or behind them one that tells something else. It asks for
-- signatures if these do.
pub data AreJudgedBetween (e : Given) (asked : Asked) (zone : Name) (ds : List Ds) (asks : Bool) (before after : Counts) : Type 0 where
  Throughout : AreAllUncut e asked zone ds before after → AreJudgedBetween e asked zone ds asks before after
  UpTo : (n : Name) → LiesBetween zone asked n → is_itself asked n ≡ false → AreUncut e asked zone ds before (drop 1 n) after → is_lacking e zone (ds_at asked n) ≡ true
      → AreJudgedBetween e asked zone ds asks before after
  AndNext : (n : Name) (said : StepSeen) {between : Counts} → LiesBetween zone asked n → is_itself asked n ≡ false → AreUncut e asked zone ds before (drop 1 n) between
      → IsToldFor e zone ds (ds_at asked n) said between after → is_uncut said ≡ false → is_asking said ≡ asks → AreJudgedBetween e asked zone ds asks before after

-- Of a zone's answer to a question, if its messages are there, which tells something of the way; or that tells nothing, since the
-- zone's keys are refused, or else with the answers at the names between behind it. The last of these asks for signatures if they do.
pub data AreJudged (e : Given) (asked : Asked) (zone : Name) (ds : List Ds) (asks : Bool) (before after : Counts) : Type 0 where
  NotJudged : is_lacking e zone asked ≡ true → after ≡ before → AreJudged e asked zone ds asks before after
  ByAnswer : (said : StepSeen) (validity : Option Validity) (counts : Counts) → is_nothing said ≡ false → is_asking said ≡ asks → IsOwnStep e zone ds asked said validity counts
      → after ≡ plus before counts → AreJudged e asked zone ds asks before after
  OfKeys : (refusal : Option Refusal) (counts : Counts) → IsAnswerUntold e asked zone ds refusal counts → are_keys_refused refusal ≡ true → after ≡ plus before counts
      → AreJudged e asked zone ds asks before after
  Between : (refusal : Option Refusal) (counts : Counts) → IsAnswerUntold e asked zone ds refusal counts → are_keys_refused refusal ≡ false
      → AreJudgedBetween e asked zone ds asks (plus before counts) after → AreJudged e asked zone ds asks before after

-- ---- what is heard

-- What a zone tells on the way, in memory enough: by its answer to the question, or of a delegation by its answer for DS at a name
-- between; and how long that lasts.
pub data IsHeard (e : Given) (asked : Asked) (zone : Name) (ds : List Ds) (sought : Asked) (said : StepSeen) (validity : Option Validity) : Type 0 where
  OfAnswer : (counts : Counts) → sought ≡ asked → lacked_memory said ≡ false → IsOwnStep e zone ds asked said validity counts → IsHeard e asked zone ds sought said validity
  OfName : (counts : Counts) → IsBetween e asked zone ds sought → lacked_memory said ≡ false → IsNameStep e zone ds sought said validity counts → said ≡ at_cut said
      → IsHeard e asked zone ds sought said validity

-- what a zone tells by one of these answers
pub record IsHeardThere (e : Given) (asked : Asked) (zone : Name) (ds : List Ds) (said : StepSeen) (validity : Option Validity) : Type 0 where
  pub sought : Asked
  pub heard : IsHeard e asked zone ds sought said validity

-- The answer to the question is the last one: no answer of the zone tells anything, or no delegation is at any name between.
abbrev pub IsLast : Given → Asked → Name → List Ds → Option Refusal → Type 0
IsLast e asked zone ds refusal = (are_keys_refused refusal ≡ true) ⊎ ((before : Counts) × (after : Counts) × AreAllUncut e asked zone ds before after)

-- An end where an answer of a zone tells nothing: of this zone, judged by these DS records; to a question for this name and type; and
-- why it is refused, if it is. That is the question itself only behind the names between.
pub record IsUntold (e : Given) (asked : Asked) (zone : Name) (ds : List Ds) (of : Name) (by : List Ds) (name : Name) (t : ℕ) (refusal : Option Refusal) : Type 0 where
  pub zone_is : of ≡ zone
  pub ds_are : by ≡ ds
  pub sought : Asked
  pub name_is : name ≡ sought.name
  pub type_is : t ≡ sought.rtype
  pub said : StepSeen
  pub validity : Option Validity
  pub heard : IsHeard e asked zone ds sought said validity
  pub nothing : IsNothing said refusal
  pub last : sought ≡ asked → IsLast e asked zone ds refusal

-- ---- as they are kept

abbrev pub counts_of : Uncut → Counts
counts_of (uncut.SoFar counts) = counts
counts_of (uncut.Throughout counts) = counts

-- counts behind a turn, or where there is none
abbrev pub counts_in : Result JudgedHop Uncut → Counts
counts_in (Ok t) = t.counts
counts_in (Err u) = counts_of u

-- whether signatures are asked for there
abbrev pub asks_in : Hop → Bool
asks_in (hops.Down c below) = false
asks_in (hops.Ends ending) = asks_more ending

abbrev pub asks_of : Result JudgedHop Uncut → Bool
asks_of (Ok t) = asks_in t.hop
asks_of (Err u) = false

-- those of a turn by an answer for DS at a name between
abbrev pub IsCountedBetween : Given → Query → Counts → JudgedHop → Type 0
IsCountedBetween e q before t = AreJudgedBetween e q.asked q.zone q.ds (asks_in t.hop) before t.counts

-- those behind an answer that tells nothing: none is judged where the zone's keys are refused
abbrev pub IsCountedBehind : Given → Query → Option Refusal → Counts → Result JudgedHop Uncut → Type 0
IsCountedBehind e q refusal before r =
    ((are_keys_refused refusal ≡ true) × (counts_in r ≡ before))
    ⊎ ((are_keys_refused refusal ≡ false) × AreJudgedBetween e q.asked q.zone q.ds (asks_of r) before (counts_in r))

-- no delegation is at the names between down to this one, or at any
abbrev pub IsUncut : Given → Query → Counts → Name → Uncut → Type 0
IsUncut e q before n (uncut.SoFar after) = AreUncut e q.asked q.zone q.ds before n after
IsUncut e q before n (uncut.Throughout after) = AreUncutBelow e q.asked q.zone q.ds before after

-- what is told of a delegation by an answer that is judged, with the counts before and after
pub record IsCutJudged (e : Given) (q : Query) (sought : Asked) (asks : Bool) (before after : Counts) : Type 0 where
  pub said : StepSeen
  pub told : IsToldFor e q.zone q.ds sought said before after
  pub cut : is_uncut said ≡ false
  pub asks_are : is_asking said ≡ asks

-- of a zone's answer for DS, if it is there; and what it tells, where there is no turn
abbrev pub IsJudgedFor : Given → Query → Asked → Counts → Result JudgedHop Uncut → Type 0
IsJudgedFor e q sought before (Ok t) = ((is_lacking e q.zone sought ≡ true) × (t.counts ≡ before)) ⊎ IsCutJudged e q sought (asks_in t.hop) before t.counts
IsJudgedFor e q sought before (Err (uncut.SoFar after)) = IsToldFor e q.zone q.ds sought TellsNoCut before after
IsJudgedFor e q sought before (Err (uncut.Throughout after)) = IsToldFor e q.zone q.ds sought TellsNoneBelow before after

-- at a name, unless DS there is the question itself
abbrev pub IsJudgedAt : Given → Query → Name → Counts → Result JudgedHop Uncut → Type 0
IsJudgedAt e q n before r = ((is_itself q.asked n ≡ true) × (r ≡ Err (uncut.SoFar before))) ⊎ ((is_itself q.asked n ≡ false) × IsJudgedFor e q (ds_at q.asked n) before r)

-- what is told, if it is something of the way
abbrev pub IsToldWay : StepSeen → StepSeen → Type 0
IsToldWay said s = (s ≡ said) × (is_nothing s ≡ false)

-- what is told, if it is of a delegation
abbrev pub IsToldCut : StepSeen → StepSeen → Type 0
IsToldCut said s = (s ≡ said) × (is_uncut s ≡ false)

-- that no delegation is there, with these counts
abbrev pub IsUncutTold : StepSeen → Counts → Uncut → Type 0
IsUncutTold said counts (uncut.SoFar n) = (n ≡ counts) × (said ≡ TellsNoCut)
IsUncutTold said counts (uncut.Throughout n) = (n ≡ counts) × (said ≡ TellsNoneBelow)
