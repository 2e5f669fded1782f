-- What evidence tells of a question, from a zone with a DS set on down, and through aliases (RFC 4035, 5).
use Rattle.std.specs.Prelude.{◌≡◌, Bool, true, false, not, ◌&&◌, ◌==◌, List, [], ◌∷◌, Option}
use Rattle.definitions.specs.Dnskey.{Ds}
use Rattle.definitions.specs.Name.{Name, same, at_or_above, strictly_above}
use Rattle.denial_laws.specs.Leading.{To}
use Rattle.messages.specs.Message.{Asked}
use Rattle.answer_judge.specs.Judging.{JudgeInput}
use Rattle.answer_judge_facts.specs.declared.validity.Validity.{Validity}
use Rattle.tree_laws.specs.Tree.{Said, Secure, Unsigned, LeftOpen, Leads, leads_on}
use Rattle.resolution_step.specs.Lasts.{least_of}
use Rattle.resolution_step.specs.declared.judged_step.Counts.{Counts}
use Rattle.resolution_step.specs.Told.{StepSeen, TellsVerdict, TellsLead, TellsDown, TellsUnsigned, TellsOpen, IsCutTold, IsTold, at_cut}
use Rattle.evidence_laws.specs.Given.{Given, IsOf}

-- where a way leads: down to a zone with its DS set; to an end; or nowhere yet
pub data Onward : Type 0 where
  GoesDown : Name → List Ds → Onward
  EndsIn : Said → Onward
  Stops : Onward

-- where what a message of a zone tells leads
abbrev pub onward : Name → StepSeen → Onward
onward zone (TellsVerdict v) = EndsIn (Secure zone v)
onward zone (TellsLead lead) = EndsIn (Leads lead)
onward zone (TellsDown c ds) = GoesDown c ds
onward zone (TellsUnsigned c datas) = EndsIn (Unsigned c)
onward zone TellsOpen = EndsIn (LeftOpen zone)
onward zone _ = Stops

-- DS at a name
abbrev pub ds_at : Asked → Name → Asked
ds_at asked n = record { name = n; rtype = 43; class = asked.class }

-- What a message of a zone tells of the question that it answers, or of a delegation at the name whose DS it answers; how long that
-- lasts, and how often was verified and hashed for it.
pub record IsOwnStep (e : Given) (zone : Name) (ds : List Ds) (asked : Asked) (said : StepSeen) (validity : Option Validity) (counts : Counts) : Type 0 where
  pub judged : JudgeInput
  pub of : IsOf e zone ds asked judged
  pub told_is : IsTold e.algorithms e.table judged said validity counts

pub record IsNameStep (e : Given) (zone : Name) (ds : List Ds) (asked : Asked) (said : StepSeen) (validity : Option Validity) (counts : Counts) : Type 0 where
  pub judged : JudgeInput
  pub of : IsOf e zone ds asked judged
  pub told_is : IsCutTold e.algorithms e.table judged said validity counts

-- Where evidence leads from a zone with a DS set: by the message that answers the question; or by one that answers DS at a name
-- between the zone and the question's name, as where one server has parent and child and sends no referral. It lasts as long as what
-- that one message tells.
pub data IsOnward (e : Given) (asked : Asked) (zone : Name) (ds : List Ds) (o : Onward) (validity : Option Validity) : Type 0 where
  ByQuestion : (said : StepSeen) (counts : Counts) → IsOwnStep e zone ds asked said validity counts → o ≡ onward zone said → IsOnward e asked zone ds o validity
  ByName : (n : Name) (said : StepSeen) (counts : Counts) → strictly_above zone n ≡ true → at_or_above n asked.name ≡ true → (same n asked.name && (asked.rtype == 43)) ≡ false
      → IsNameStep e zone ds (ds_at asked n) said validity counts → o ≡ onward zone (at_cut said) → IsOnward e asked zone ds o validity

-- What evidence tells of a question, from a zone with a DS set on: where it ends; or what it tells from the zone on that it leads
-- down to. It lasts as long as each step of the way.
pub data Tells (e : Given) (asked : Asked) (said : Said) : Name → List Ds → Option Validity → Type 0 where
  Ends : {zone : Name} {ds : List Ds} {validity : Option Validity} → IsOnward e asked zone ds (EndsIn said) validity → Tells e asked said zone ds validity
  Goes : {zone c : Name} {ds below : List Ds} {validity first rest : Option Validity} → IsOnward e asked zone ds (GoesDown c below) first → Tells e asked said c below rest
      → validity ≡ least_of first rest → Tells e asked said zone ds validity

-- a question for a name at or below the anchor; DS at the anchor is the zone's above it
abbrev pub is_asked_of : Name → Asked → Bool
is_asked_of anchor asked = at_or_above anchor asked.name && not (same anchor asked.name && (asked.rtype == 43))

abbrev pub renamed : Asked → Name → Asked
renamed asked n = record asked { name = n }

-- What evidence tells at the end of aliases, and the names that they lead to: each is sought from the anchor on. It lasts as long as
-- the ways of all of them.
pub data Follows (e : Given) (said : Said) : Asked → List Name → Option Validity → Type 0 where
  AtOnce : {asked : Asked} {validity : Option Validity} → is_asked_of e.anchor asked ≡ true → Tells e asked said e.anchor e.ds validity → leads_on said ≡ false → Follows e said asked [] validity
  Led : {asked : Asked} {n : Name} {ns : List Name} {validity first rest : Option Validity} → is_asked_of e.anchor asked ≡ true → Tells e asked (Leads (To n)) e.anchor e.ds first
      → Follows e said (renamed asked n) ns rest → validity ≡ least_of first rest → Follows e said asked (n ∷ ns) validity
