-- What evidence proves of a question, by the judgements that say something of each step; and that it proves so as long as that lasts.
use Rattle.std.specs.Prelude.{◌≡◌, ℕ, true, false, ◌&&◌, ◌==◌, List, [], ◌∷◌, Option, Some}
use Rattle.std.specs.List.{AllByRecursion}
use Rattle.definitions.specs.Dnskey.{Ds}
use Rattle.definitions.specs.Name.{Name, same, at_or_above, strictly_above}
use Rattle.denial_laws.specs.Leading.{To}
use Rattle.messages.specs.Message.{AreOctets, Asked}
use Rattle.answer_judge.specs.Judging.{JudgeInput}
use Rattle.answer_judge_facts.specs.declared.validity.Validity.{Validity}
use Rattle.tree_laws.specs.Laws.{AreAlike}
use Rattle.tree_laws.specs.Tree.{Said, Leads, leads_on}
use Rattle.resolution_step.specs.Proved.{IsCutProved, IsProved}
pub use Rattle.resolution_step.specs.Proved.{IsWithinValidity}
use Rattle.resolution_step.specs.Told.{StepSeen, at_cut}
use Rattle.evidence_laws.specs.Given.{Given, IsOf}
use Rattle.evidence_laws.specs.Truth.{IsOfTree, SignedZone}
use Rattle.evidence_laws.specs.Walking.{Onward, GoesDown, EndsIn, Follows, ds_at, is_asked_of, onward, renamed}

-- the same evidence at another moment, in nanoseconds
abbrev pub at_time : ℕ → Given → Given
at_time at e = record e { at = at }

-- its messages are octets
abbrev pub HasOctets : Given → Type 0
HasOctets e = AllByRecursion (λ m. AreOctets m.octets) e.messages

-- ---- what is proved

-- What a message of a zone proves of the question that it answers, or of a delegation at the name whose DS it answers.
pub record IsOwnProved (e : Given) (zone : Name) (ds : List Ds) (asked : Asked) (said : StepSeen) : Type 0 where
  pub judged : JudgeInput
  pub of : IsOf e zone ds asked judged
  pub proved : IsProved e.algorithms e.table judged said

pub record IsNameProved (e : Given) (zone : Name) (ds : List Ds) (asked : Asked) (said : StepSeen) : Type 0 where
  pub judged : JudgeInput
  pub of : IsOf e zone ds asked judged
  pub proved : IsCutProved e.algorithms e.table judged said

-- that evidence leads on so from a zone with a DS set
pub data IsOnwardProved (e : Given) (asked : Asked) (zone : Name) (ds : List Ds) (o : Onward) : Type 0 where
  ByQuestionProved : (said : StepSeen) → IsOwnProved e zone ds asked said → o ≡ onward zone said → IsOnwardProved e asked zone ds o
  ByNameProved : (n : Name) (said : StepSeen) → strictly_above zone n ≡ true → at_or_above n asked.name ≡ true → (same n asked.name && (asked.rtype == 43)) ≡ false
      → IsNameProved e zone ds (ds_at asked n) said → o ≡ onward zone (at_cut said) → IsOnwardProved e asked zone ds o

-- where it ends, from a zone with a DS set on
pub data ProvesDown (e : Given) (asked : Asked) (said : Said) : Name → List Ds → Type 0 where
  EndsProved : {zone : Name} {ds : List Ds} → IsOnwardProved e asked zone ds (EndsIn said) → ProvesDown e asked said zone ds
  GoesProved : {zone c : Name} {ds below : List Ds} → IsOnwardProved e asked zone ds (GoesDown c below) → ProvesDown e asked said c below → ProvesDown e asked said zone ds

-- what it says at the end of aliases, and the names that they lead to, each sought from the anchor on
pub data ProvesThrough (e : Given) (said : Said) : Asked → List Name → Type 0 where
  AtOnceProved : {asked : Asked} → is_asked_of e.anchor asked ≡ true → ProvesDown e asked said e.anchor e.ds → leads_on said ≡ false → ProvesThrough e said asked []
  LedProved : {asked : Asked} {n : Name} {ns : List Name} → is_asked_of e.anchor asked ≡ true → ProvesDown e asked (Leads (To n)) e.anchor e.ds
      → ProvesThrough e said (renamed asked n) ns → ProvesThrough e said asked (n ∷ ns)

-- ---- laws

-- What evidence tells at a moment it proves at each moment from there up to the last second that it lasts, by the same steps and
-- through the same names.
abbrev pub EvidenceStaysProved : Type 0
EvidenceStaysProved =
    (e : Given) (asked : Asked) (said : Said) (ns : List Name) (l : Validity) (later : ℕ)
    → HasOctets e → Follows e said asked ns (Some l) → IsWithinValidity e.at later l → ProvesThrough (at_time later e) said asked ns

-- Two pieces of evidence of one tree, at whatever moments, tell no two things: they tell the same through the same names, or are both
-- insecure.
abbrev pub EvidenceAgrees : Type 0
EvidenceAgrees =
    (e f : Given) (zones : List SignedZone) (anchor : SignedZone) (asked : Asked) (said other : Said) (ns ms : List Name) (l m : Option Validity)
    → IsOfTree e asked.class zones anchor → IsOfTree f asked.class zones anchor → f.algorithms ≡ e.algorithms
    → Follows e said asked ns l → Follows f other asked ms m → (ns ≡ ms) × AreAlike said other
