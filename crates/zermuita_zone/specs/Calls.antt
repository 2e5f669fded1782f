-- What calls from C do to the zone that C holds: what the calls over an open zone do, and what is left as it was.
use Rattle.std.specs.Prelude.{◌≡◌, ◌⊎◌, ℕ, List, true, Option, Some, None}
use Rattle.server_answers.specs.Zones.{IsZone}
use Rattle.server_zone.specs.States.{state_of, ungathered}
use Rattle.server_zone_octets.specs.Codes.{number_of}
use Rattle.server_zone_octets.specs.Dues.{SaysDue}
use Rattle.server_zone_octets.specs.Facts.{SaysFacts}
use Rattle.server_zone_octets.specs.Lines.{AppliesLine, OpensAs, RefusesOpening}
use Rattle.server_zone_octets.specs.Masters.{SaysMaster}
use Rattle.server_zone_octets.specs.Requests.{AnswersRequest}
use Rattle.server_zone_octets.specs.Sets.{SaysSet}
use Rattle.server_zone_octets.specs.Telling.{is_known}
use Rattle.server_zone_octets.specs.declared.code.ZoneCode.{ZoneCode}
use Rattle.server_zone_octets.specs.declared.code.ZoneCode.TheVariants as c
use Rattle.server_zone_octets.specs.declared.due.OctetDue.{OctetDue}
use Rattle.server_zone_octets.specs.declared.facts.OctetFacts.{OctetFacts}
use Rattle.server_zone_octets.specs.declared.master.OctetMaster.{OctetMaster}
use Rattle.server_zone_octets.specs.declared.report.ZoneReport.{ZoneReport}
use Rattle.server_zone_octets.specs.declared.request.OctetRequest.{OctetRequest}
use Rattle.zermuita_zone.specs.Terms.{digest, hash, world_in}
use Rattle.zermuita_zone.specs.declared.handle.ZoneHandle.{ZoneHandle}
use Rattle.zermuita_zone.specs.declared.opened.OpenZone.{OpenZone}

-- the zone that C holds, if it is open
abbrev pub zone_in : ZoneHandle → Option OpenZone
zone_in h = h.held.value

-- the zone, what is said and the octets are as they were
pub record IsUnchanged {R : Type 0} (old new : Option OpenZone) (said said' : R) (before after : List ℕ) : Type 0 where
  pub zone_is : new ≡ old
  pub said_is : said' ≡ said
  pub octets_are : after ≡ before

-- a call on a zone that is closed
abbrev pub IsNotOpen : {R : Type 0} → Option OpenZone → R → R → List ℕ → List ℕ → ℕ → Type 0
IsNotOpen new said said' before after reply = IsUnchanged None new said said' before after × (reply ≡ number_of c.NotOpen)

-- ---- master files

-- the lines of a master file are told
pub record TellsLines (master : OctetMaster) (report report' : ZoneReport) (before after : List ℕ) (reply : ℕ) : Type 0 where
  pub code : ZoneCode
  pub says : SaysMaster master report report' before after code
  pub reply_is : reply ≡ number_of code

-- ---- opening

-- the zone of a journal, what the report says of it, and no octets
pub record GivesZone (journal : List ℕ) (report report' : ZoneReport) (before after : List ℕ) (z : OpenZone) : Type 0 where
  pub known : is_known report ≡ true
  pub opens : OpensAs digest hash (record {}) (record {}) journal report' z.zone
  pub accepted : IsZone (world_in z)
  pub octets_are : after ≡ before

-- a zone is opened
pub record Opens (journal : List ℕ) (new : Option OpenZone) (report report' : ZoneReport) (before after : List ℕ) (reply : ℕ) : Type 0 where
  pub z : OpenZone
  pub gives : GivesZone journal report report' before after z
  pub is_open : new ≡ Some z
  pub reply_is : reply ≡ number_of c.Done

-- it is not: the journal is refused, or memory runs out for the zone that it gives
abbrev pub IsOpenRefused : List ℕ → ZoneReport → ZoneReport → List ℕ → List ℕ → ℕ → Type 0
IsOpenRefused journal report report' before after reply =
    ((code : ZoneCode) × RefusesOpening digest hash journal report report' before after code × (reply ≡ number_of code))
    ⊎ ((z : OpenZone) × GivesZone journal report report' before after z × (reply ≡ number_of c.OutOfMemory))

abbrev pub OpensFrom : List ℕ → Option OpenZone → Option OpenZone → ZoneReport → ZoneReport → List ℕ → List ℕ → ℕ → Type 0
OpensFrom journal (Some z) new report report' before after reply = IsUnchanged (Some z) new report report' before after × (reply ≡ number_of c.IsOpen)
OpensFrom journal None new report report' before after reply =
    Opens journal new report report' before after reply ⊎ ((new ≡ None) × IsOpenRefused journal report report' before after reply)

-- ---- calls on an open zone

-- a line is applied, or refused
pub record Applies (line : List ℕ) (z : OpenZone) (new : Option OpenZone) (report report' : ZoneReport) (before after : List ℕ) (reply : ℕ) : Type 0 where
  pub z' : OpenZone
  pub code : ZoneCode
  pub applies : AppliesLine digest hash line z.zone z'.zone report report' before after code
  pub stays_open : new ≡ Some z'
  pub reply_is : reply ≡ number_of code

abbrev pub AppliesTo : List ℕ → Option OpenZone → Option OpenZone → ZoneReport → ZoneReport → List ℕ → List ℕ → ℕ → Type 0
AppliesTo line None new report report' before after reply = IsNotOpen new report report' before after reply
AppliesTo line (Some z) new report report' before after reply = Applies line z new report report' before after reply

-- the records that wait for their replacement are dropped
pub record Forgets (z : OpenZone) (new : Option OpenZone) (reply : ℕ) : Type 0 where
  pub z' : OpenZone
  pub state : state_of z'.zone ≡ ungathered (state_of z.zone)
  pub rest : z'.zone.publisher ≡ z.zone.publisher
  pub addresses : z'.zone.addresses ≡ z.zone.addresses
  pub stays_open : new ≡ Some z'
  pub reply_is : reply ≡ number_of c.Done

abbrev pub ForgetsIn : Option OpenZone → Option OpenZone → ℕ → Type 0
ForgetsIn None new reply = (new ≡ None) × (reply ≡ number_of c.NotOpen)
ForgetsIn (Some z) new reply = Forgets z new reply

-- what is due of a roll is said, and the zone is as it was
pub record TellsDue (z : OpenZone) (roll : ℕ) (new : Option OpenZone) (due due' : OctetDue) (before after : List ℕ) (reply : ℕ) : Type 0 where
  pub code : ZoneCode
  pub says : SaysDue z.zone.publisher.keys.keys roll due due' before after code
  pub stays : new ≡ Some z
  pub reply_is : reply ≡ number_of code

abbrev pub TellsDueOf : ℕ → Option OpenZone → Option OpenZone → OctetDue → OctetDue → List ℕ → List ℕ → ℕ → Type 0
TellsDueOf roll None new due due' before after reply = IsNotOpen new due due' before after reply
TellsDueOf roll (Some z) new due due' before after reply = TellsDue z roll new due due' before after reply

-- what its lines say of a zone is said, and the zone is as it was
pub record TellsFacts (z : OpenZone) (new : Option OpenZone) (facts facts' : OctetFacts) (before after : List ℕ) (reply : ℕ) : Type 0 where
  pub code : ZoneCode
  pub says : SaysFacts (state_of z.zone) facts facts' before after code
  pub stays : new ≡ Some z
  pub reply_is : reply ≡ number_of code

abbrev pub TellsFactsOf : Option OpenZone → Option OpenZone → OctetFacts → OctetFacts → List ℕ → List ℕ → ℕ → Type 0
TellsFactsOf None new facts facts' before after reply = IsNotOpen new facts facts' before after reply
TellsFactsOf (Some z) new facts facts' before after reply = TellsFacts z new facts facts' before after reply

-- a set is told, and the zone is as it was
pub record TellsSet (z : OpenZone) (rtype : ℕ) (new : Option OpenZone) (report report' : ZoneReport) (before after : List ℕ) (reply : ℕ) : Type 0 where
  pub code : ZoneCode
  pub says : SaysSet z.zone.publisher.keys rtype report report' before after code
  pub stays : new ≡ Some z
  pub reply_is : reply ≡ number_of code

abbrev pub TellsSetOf : ℕ → Option OpenZone → Option OpenZone → ZoneReport → ZoneReport → List ℕ → List ℕ → ℕ → Type 0
TellsSetOf rtype None new report report' before after reply = IsNotOpen new report report' before after reply
TellsSetOf rtype (Some z) new report report' before after reply = TellsSet z rtype new report report' before after reply

-- a request is answered, and the zone is as it was but for the last moment of an answer
pub record Answers (z : OpenZone) (request : OctetRequest) (new : Option OpenZone) (report report' : ZoneReport) (before after : List ℕ) (reply : ℕ) : Type 0 where
  pub latest : Option ℕ
  pub code : ZoneCode
  pub answers : AnswersRequest (world_in z) z.zone.publisher.keys z.zone.addresses z.zone.life z.zone.closed request z.zone.publisher.latest latest report report' before after code
  pub stays_open : new ≡ Some (record { zone = record z.zone { publisher = record z.zone.publisher { latest = latest } } })
  pub reply_is : reply ≡ number_of code

abbrev pub AnswersFrom : OctetRequest → Option OpenZone → Option OpenZone → ZoneReport → ZoneReport → List ℕ → List ℕ → ℕ → Type 0
AnswersFrom request None new report report' before after reply = IsNotOpen new report report' before after reply
AnswersFrom request (Some z) new report report' before after reply = Answers z request new report report' before after reply
