-- Where a walk stops, which messages it wants there or which answer tells nothing, and how often was verified and hashed on the way.
use Rattle.std.specs.Prelude.{◌≡◌, ℕ, suc, true, false, List, [], ◌∷◌, ◌++◌, length, nat_lt, if◌then◌else◌, Option, Some, None, Result, Ok, Err}
use Rattle.definitions.specs.Dnskey.{Ds}
use Rattle.definitions.specs.Name.{Name}
use Rattle.denial_laws.specs.Leading.{To}
use Rattle.messages.specs.Message.{Asked}
use Rattle.answer_judge_rules.specs.Rules.{verdict_of}
use Rattle.answer_judge_facts.specs.declared.validity.Validity.{Validity}
use Rattle.answer_judge.specs.declared.verdict.Refusal.{Refusal}
use Rattle.tree_laws.specs.Tree.{Leads}
use Rattle.evidence_laws.specs.Counted.{no_counts}
use Rattle.evidence_laws.specs.Counts.{Counts}
use Rattle.evidence_laws.specs.Given.{Given}
use Rattle.evidence_laws.specs.Redirection.{lead_seen}
use Rattle.evidence_laws.specs.Told.{StepSeen, TellsVerdict, TellsLead, TellsDown, TellsUnsigned, TellsOpen, AsksFor}
use Rattle.evidence_laws.specs.Lasts.{least_of}
use Rattle.evidence_laws.specs.Walking.{is_asked_of, renamed}
use Rattle.resolution_walk.specs.Ended.{leads_to, said_of, validity_said}
use Rattle.resolution_walk.specs.Between.{IsNothing}
use Rattle.resolution_walk.specs.Judged.{AreJudged, IsHeardThere, IsUntold, asks_in, asks_more}
use Rattle.resolution_walk.specs.Query.{Query}
use Rattle.resolution_walk.specs.Wanted.{AreWantedOf, lacking}
use Rattle.resolution_walk.specs.declared.ending.End.{End}
use Rattle.resolution_walk.specs.declared.ending.Ending.{Ending}
use Rattle.resolution_walk.specs.declared.ending.Ending.TheVariants as ends
use Rattle.resolution_walk.specs.declared.ending.JudgedHop.{JudgedHop}
use Rattle.resolution_walk.specs.declared.ending.Target.{Target}
use Rattle.resolution_walk.specs.declared.ending.Hop.{Hop}
use Rattle.resolution_walk.specs.declared.ending.Hop.TheVariants as hops
use Rattle.resolution_walk.specs.declared.ending.Walk.{Walk}
use Rattle.resolution_walk.specs.declared.walk.Limits.{Limits}
use Rattle.resolution_walk.specs.declared.walk.Trail.{Trail}

-- An ending in a zone, and how long that lasts: what is heard there, and an answer that tells nothing is its own; the signatures that
-- are asked for lack of an answer of it; and the messages that are wanted are exactly those that lack of it. A limit ends nothing in a
-- zone.
abbrev pub EndsAt : Given → Asked → Name → List Ds → Ending → Option Validity → Type 0
EndsAt e asked zone ds (ends.Secure of v) validity = (of ≡ zone) × IsHeardThere e asked zone ds (TellsVerdict (verdict_of v)) validity
EndsAt e asked zone ds (ends.Leads lead) validity = IsHeardThere e asked zone ds (TellsLead (lead_seen lead)) validity
EndsAt e asked zone ds (ends.Unsigned c datas) validity = IsHeardThere e asked zone ds (TellsUnsigned c datas) validity
EndsAt e asked zone ds (ends.LeftOpen of) validity = (of ≡ zone) × IsHeardThere e asked zone ds TellsOpen validity
EndsAt e asked zone ds (ends.Untold of by name t refusal) validity = IsUntold e asked zone ds of by.items name t refusal
EndsAt e asked zone ds (ends.Asks asks) validity = IsHeardThere e asked zone ds (AsksFor asks.items) validity
EndsAt e asked zone ds (ends.Wants ws) validity = AreWantedOf e asked zone ds ws.items
EndsAt e asked zone ds _ validity = ⊥

-- A way stops in a zone that evidence leads down to, with so many delegations left to go down; or where it leads down and none is
-- left. Each zone's messages are judged on the way, and it lasts as long as what is heard in each.
pub data Stops (e : Given) (asked : Asked) (ending : Ending) : ℕ → Name → List Ds → Counts → Counts → Option Validity → Type 0 where
  Here : {cuts : ℕ} {zone : Name} {ds : List Ds} {before after : Counts} {validity : Option Validity} → AreJudged e asked zone ds (asks_more ending) before after → EndsAt e asked zone ds ending validity
      → Stops e asked ending cuts zone ds before after validity
  Below : {cuts : ℕ} {zone c : Name} {ds below : List Ds} {before between after : Counts} {first rest validity : Option Validity} → AreJudged e asked zone ds false before between
      → IsHeardThere e asked zone ds (TellsDown c below) first → Stops e asked ending cuts c below between after rest → validity ≡ least_of first rest
      → Stops e asked ending (suc cuts) zone ds before after validity
  TooDeep : {zone c : Name} {ds below : List Ds} {before after : Counts} {first validity : Option Validity} → AreJudged e asked zone ds false before after
      → IsHeardThere e asked zone ds (TellsDown c below) first → ending ≡ ends.TooManyCuts → Stops e asked ending 0 zone ds before after validity

-- an alias of a question of the anchor, how long that lasts, and how often was verified and hashed for it
pub record IsLed (e : Given) (asked : Asked) (cuts : ℕ) (before : Counts) (t : Target) : Type 0 where
  pub asked_of_it : is_asked_of e.anchor asked ≡ true
  pub ending : Ending
  pub says : said_of ending ≡ Some (Leads (To t.name))
  pub stops : Stops e asked ending cuts e.anchor e.ds before t.counts t.validity

-- The same for a name that aliases lead to, each sought from the anchor on, with so many aliases left to follow; or where an alias
-- leads on and none is left. It lasts as long as the ways of all these names.
pub data StopsBehind (e : Given) (cuts : ℕ) (ending : Ending) : ℕ → Asked → List Name → Counts → Counts → Option Validity → Type 0 where
  AtOnce : {aliases : ℕ} {asked : Asked} {before after : Counts} {validity : Option Validity} → is_asked_of e.anchor asked ≡ true
      → Stops e asked ending cuts e.anchor e.ds before after validity → leads_to (said_of ending) ≡ None → StopsBehind e cuts ending aliases asked [] before after validity
  Elsewhere : {aliases : ℕ} {asked : Asked} {before after : Counts} {validity : Option Validity} → is_asked_of e.anchor asked ≡ false → ending ≡ ends.Outside → after ≡ before
      → StopsBehind e cuts ending aliases asked [] before after validity
  TooMany : {asked : Asked} {before after : Counts} {validity : Option Validity} (t : Target) → IsLed e asked cuts before t → ending ≡ ends.TooManyAliases → after ≡ t.counts
      → StopsBehind e cuts ending 0 asked [] before after validity
  Led : {aliases : ℕ} {asked : Asked} {ns : List Name} {before after : Counts} {rest validity : Option Validity} (t : Target) → IsLed e asked cuts before t
      → StopsBehind e cuts ending aliases (renamed asked t.name) ns t.counts after rest → validity ≡ least_of t.validity rest
      → StopsBehind e cuts ending (suc aliases) asked (t.name ∷ ns) before after validity

-- ---- of one zone

-- a turn leads down, or ends, as is heard there
abbrev pub HopStops : Given → Query → Hop → Option Validity → Type 0
HopStops e q (hops.Down c below) validity = IsHeardThere e q.asked q.zone q.ds (TellsDown c below.items) validity
HopStops e q (hops.Ends ending) validity = EndsAt e q.asked q.zone q.ds ending validity

-- a turn where the answer of a zone to a question tells nothing, and why it is refused, if it is
abbrev pub IsHopUntold : Query → Option Refusal → Hop → Type 0
IsHopUntold q refusal (hops.Ends (ends.Untold of by name t r)) = (of ≡ q.zone) × (by.items ≡ q.ds) × (name ≡ q.asked.name) × (t ≡ q.asked.rtype) × (r ≡ refusal)
IsHopUntold q refusal _ = ⊥

-- the turn by what a zone's answer to a question tells: that, and no other
abbrev pub IsHopTo : Query → StepSeen → Hop → Type 0
IsHopTo q said (hops.Down c below) = said ≡ TellsDown c below.items
IsHopTo q said (hops.Ends (ends.Secure of v)) = (of ≡ q.zone) × (said ≡ TellsVerdict (verdict_of v))
IsHopTo q said (hops.Ends (ends.Leads lead)) = said ≡ TellsLead (lead_seen lead)
IsHopTo q said (hops.Ends (ends.Unsigned c datas)) = said ≡ TellsUnsigned c datas
IsHopTo q said (hops.Ends (ends.LeftOpen of)) = (of ≡ q.zone) × (said ≡ TellsOpen)
IsHopTo q said (hops.Ends (ends.Untold of by name t r)) = (of ≡ q.zone) × (by.items ≡ q.ds) × (name ≡ q.asked.name) × (t ≡ q.asked.rtype) × IsNothing said r
IsHopTo q said (hops.Ends (ends.Asks asks)) = said ≡ AsksFor asks.items
IsHopTo q said _ = ⊥

-- a turn that wants what lacks of a zone for a question
abbrev pub WantsLacking : Given → Name → Asked → Hop → Type 0
WantsLacking e zone asked (hops.Ends (ends.Wants ws)) = ws.items ≡ lacking e zone asked
WantsLacking e zone asked _ = ⊥

abbrev pub IsStop : Given → Query → JudgedHop → Type 0
IsStop e q t = HopStops e q t.hop t.validity

abbrev pub IsCounted : Given → Query → Counts → JudgedHop → Type 0
IsCounted e q before t = AreJudged e q.asked q.zone q.ds (asks_in t.hop) before t.counts

-- ---- of one name

abbrev pub StopsIn : Given → Query → ℕ → Counts → End → Type 0
StopsIn e q cuts before end = Stops e q.asked end.ending cuts q.zone q.ds before end.counts end.validity

-- the same from a zone below on, to which a delegation leads: with so many left, that one with them
pub data StopsBelow (e : Given) (asked : Asked) (ending : Ending) : ℕ → Name → List Ds → Counts → Counts → Option Validity → Type 0 where
  NoneLeft : {zone : Name} {ds : List Ds} {before after : Counts} {validity : Option Validity} → ending ≡ ends.TooManyCuts → after ≡ before
      → StopsBelow e asked ending 0 zone ds before after validity
  OneLess : {cuts : ℕ} {zone : Name} {ds : List Ds} {before after : Counts} {validity : Option Validity} → Stops e asked ending cuts zone ds before after validity
      → StopsBelow e asked ending (suc cuts) zone ds before after validity

abbrev pub StopsBelowIn : Given → Query → ℕ → Counts → End → Type 0
StopsBelowIn e q cuts before end = StopsBelow e q.asked end.ending cuts q.zone q.ds before end.counts end.validity

-- an end that is an alias of this name, or the same end, which is none
pub record IsAliasOf (end : End) (t : Target) : Type 0 where
  pub says : said_of end.ending ≡ Some (Leads (To t.name))
  pub lasts : t.validity ≡ end.validity
  pub counts_are : t.counts ≡ end.counts

-- the counts there
abbrev pub counts_at : Result Target End → Counts
counts_at (Ok t) = t.counts
counts_at (Err end) = end.counts

abbrev pub IsNoAlias : End → End → Type 0
IsNoAlias end x = (x ≡ end) × (leads_to (said_of x.ending) ≡ None)

-- an ending of a walk with no aliases, however many are left
abbrev pub EndsHere : Given → Asked → ℕ → Counts → End → Type 0
EndsHere e asked cuts before end = (aliases : ℕ) → StopsBehind e cuts end.ending aliases asked [] before end.counts end.validity

-- ---- of a walk

-- A walk stops behind the names that aliases led through so far: for each name within so many delegations, and within so many aliases
-- more.
pub record IsStopped (e : Given) (asked : Asked) (cuts aliases : ℕ) (names through : List Name) (before : Counts) (ending : Ending) (after : Counts) (validity : Option Validity) : Type 0 where
  pub more : List Name
  pub through_are : through ≡ names ++ more
  pub stops : StopsBehind e cuts ending aliases asked more before after validity

abbrev pub WalkStops : Given → Asked → Limits → Trail → Walk → Type 0
WalkStops e asked limits trail w = IsStopped e asked limits.cuts limits.aliases trail.through.items w.through.items trail.counts w.ending w.counts w.validity

-- an ending within a limit of messages: beside so many none is wanted
abbrev pub ending_within : ℕ → Given → Ending → Ending
ending_within most e (ends.Wants ws) = if nat_lt (length e.messages) most then ends.Wants ws else ends.TooManyMessages
ending_within most e ending = ending

-- Where a walk stops within limits. What it says lasts as long as the way to there; what says nothing lasts no time.
pub record StopsWithin (e : Given) (asked : Asked) (limits : Limits) (w : Walk) : Type 0 where
  pub ending : Ending
  pub validity : Option Validity
  pub stops : IsStopped e asked limits.cuts limits.aliases [] w.through.items no_counts ending w.counts validity
  pub is : w.ending ≡ ending_within limits.messages e ending
  pub lasts : w.validity ≡ validity_said (said_of w.ending) validity
