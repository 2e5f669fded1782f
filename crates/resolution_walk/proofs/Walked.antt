-- Where a walk stops its evidence leads, and as long as that lasts.
use Rattle.std.proofs.Common.{◌≡◌, ℕ, length, Bool, true, false, List, [], ◌∷◌, Option, Some, None, refl, sym, ap, subst, ◌∙◌}
use Rattle.std.specs.Prelude.{nat_lt, if◌then◌else◌, IfNone, IfSome}
use Rattle.std.specs.Option.{is_some}
use Rattle.std.proofs.lemmas.Bool.{false≢true}
use Rattle.std.proofs.lemmas.Option.{none-some}
use Rattle.definitions.specs.Dnskey.{Ds}
use Rattle.definitions.specs.Name.{Name}
use Rattle.denial_laws.specs.Leading.{To, TooLong}
use Rattle.messages.specs.Message.{Asked}
use Rattle.answer_judge_rules.specs.Rules.{verdict_of}
use Rattle.answer_judge_facts.specs.declared.validity.Validity.{Validity}
use Rattle.tree_laws.specs.Tree.{Said, Secure, Unsigned, LeftOpen, Leads, leads_on}
use Rattle.evidence_laws.specs.Counted.{no_counts}
use Rattle.evidence_laws.specs.Counts.{Counts}
use Rattle.evidence_laws.specs.Given.{Given}
use Rattle.evidence_laws.specs.Lasts.{least_of}
use Rattle.evidence_laws.specs.Redirection.{lead_seen}
use Rattle.evidence_laws.specs.Told.{StepSeen, TellsVerdict, TellsLead, TellsDown, TellsUnsigned, TellsOpen}
use Rattle.evidence_laws.specs.Walking.{ByName, ByQuestion, IsNameStep, IsOnward, Tells, Ends, Goes, Follows, is_asked_of, onward, renamed}
use Rattle.evidence_laws.specs.Walking as evidence
use Rattle.resolution_walk.specs.Ended.{IsWalked, LastsIfSaid, leads_to, said_of, validity_said}
use Rattle.resolution_walk.specs.Judged.{IsHeard, OfAnswer, OfName, IsHeardThere}
use Rattle.resolution_walk.specs.Stopping.{EndsAt, IsLed, Stops, Here, Below, TooDeep, StopsBehind, AtOnce, Elsewhere, TooMany, Led, StopsWithin, ending_within}
use Rattle.resolution_walk.specs.declared.ending.Ending.{Ending}
use Rattle.resolution_walk.specs.declared.ending.Ending.TheVariants as ends
use Rattle.resolution_walk.specs.declared.ending.Target.{Target}
use Rattle.resolution_walk.specs.declared.ending.Walk.{Walk}
use Rattle.resolution_walk.specs.declared.walk.Limits.{Limits}

-- ---- in a zone

module _ (e : Given) (asked : Asked) (zone : Name) (ds : List Ds) where
  -- evidence leads on as is heard in a zone
  pub heard_onward : (said : StepSeen) (l : Option Validity) → IsHeardThere e asked zone ds said l → IsOnward e asked zone ds (onward zone said) l
  heard_onward said l there = go there.sought there.heard
    where
      go : (sought : Asked) → IsHeard e asked zone ds sought said l → IsOnward e asked zone ds (onward zone said) l
      go sought (OfAnswer n same memory step) = ByQuestion said n step refl
      go sought (OfName n between memory step cut) =
          ByName between.name said n between.reached.lies.0 between.reached.lies.1 between.other (subst (λ (q : Asked). IsNameStep e zone ds q said l n) between.is step) (ap (onward zone) cut)

  ends_tell : (ending : Ending) (l : Option Validity) → EndsAt e asked zone ds ending l → IfSome (said_of ending) (λ s. Tells e asked s zone ds l)
  ends_tell (ends.Secure of v) l k = subst (λ (n : Name). Tells e asked (Secure n (verdict_of v)) zone ds l) (sym k.0) (Ends (heard_onward (TellsVerdict (verdict_of v)) l k.1))
  ends_tell (ends.Leads lead) l k = Ends (heard_onward (TellsLead (lead_seen lead)) l k)
  ends_tell (ends.Unsigned c datas) l k = Ends (heard_onward (TellsUnsigned c datas) l k)
  ends_tell (ends.LeftOpen of) l k = subst (λ (n : Name). Tells e asked (LeftOpen n) zone ds l) (sym k.0) (Ends (heard_onward TellsOpen l k.1))
  ends_tell _ l k = tt

  goes_tell : (c : Name) (below : List Ds) (first rest l : Option Validity) (o : Option Said) → IsHeardThere e asked zone ds (TellsDown c below) first → IfSome o (λ s. Tells e asked s c below rest) → l ≡ least_of first rest
      → IfSome o (λ s. Tells e asked s zone ds l)
  goes_tell c below first rest l None way more lasts = tt
  goes_tell c below first rest l (Some s) way more lasts = Goes (heard_onward (TellsDown c below) first way) more lasts

-- ---- down

stops_tell : (e : Given) (asked : Asked) (ending : Ending) (cuts : ℕ) (zone : Name) (ds : List Ds) (before after : Counts) (l : Option Validity) → Stops e asked ending cuts zone ds before after l
    → IfSome (said_of ending) (λ s. Tells e asked s zone ds l)
stops_tell e asked ending cuts zone ds before after l (Here judged stops) = ends_tell e asked zone ds ending l stops
stops_tell e asked ending cuts zone ds before after l (Below {cuts = less} {c = c} {below = below} {between = between} {first = first} {rest = rest} judged way more lasts) =
    goes_tell e asked zone ds c below first rest l (said_of ending) way (stops_tell e asked ending less c below between after rest more) lasts
stops_tell e asked ending cuts zone ds before after l (TooDeep judged way same) = subst (λ (g : Ending). IfSome (said_of g) (λ s. Tells e asked s zone ds l)) (sym same) tt

-- ---- through aliases

pub led_tells : (e : Given) (asked : Asked) (cuts : ℕ) (before : Counts) (t : Target) → IsLed e asked cuts before t → Tells e asked (Leads (To t.name)) e.anchor e.ds t.validity
led_tells e asked cuts before t k =
    subst (λ (o : Option Said). IfSome o (λ s. Tells e asked s e.anchor e.ds t.validity)) k.says (stops_tell e asked k.ending cuts e.anchor e.ds before t.counts t.validity k.stops)

no_lead : (s : Said) → leads_to (Some s) ≡ None → leads_on s ≡ false
no_lead (Secure n v) h = refl
no_lead (Unsigned c) h = refl
no_lead (LeftOpen n) h = refl
no_lead (Leads (To n)) h = absurd (none-some n (sym h))
no_lead (Leads TooLong) h = refl

at_once : (e : Given) (asked : Asked) (o : Option Said) (l : Option Validity) → is_asked_of e.anchor asked ≡ true → IfSome o (λ s. Tells e asked s e.anchor e.ds l) → leads_to o ≡ None → IfSome o (λ s. Follows e s asked [] l)
at_once e asked None l w tells none = tt
at_once e asked (Some s) l w tells none = evidence.AtOnce w tells (no_lead s none)

led_on : (e : Given) (asked : Asked) (cuts : ℕ) (before : Counts) (t : Target) (ns : List Name) (rest l : Option Validity) (o : Option Said) → IsLed e asked cuts before t
    → IfSome o (λ s. Follows e s (renamed asked t.name) ns rest) → l ≡ least_of t.validity rest → IfSome o (λ s. Follows e s asked (t.name ∷ ns) l)
led_on e asked cuts before t ns rest l None k follows lasts = tt
led_on e asked cuts before t ns rest l (Some s) k follows lasts = evidence.Led k.asked_of_it (led_tells e asked cuts before t k) follows lasts

behind_follows : (e : Given) (cuts : ℕ) (ending : Ending) (aliases : ℕ) (asked : Asked) (ns : List Name) (before after : Counts) (l : Option Validity) → StopsBehind e cuts ending aliases asked ns before after l
    → IfSome (said_of ending) (λ s. Follows e s asked ns l)
behind_follows e cuts ending aliases asked ns before after l (AtOnce w stops none) = at_once e asked (said_of ending) l w (stops_tell e asked ending cuts e.anchor e.ds before after l stops) none
behind_follows e cuts ending aliases asked ns before after l (Elsewhere w same is) = subst (λ (g : Ending). IfSome (said_of g) (λ s. Follows e s asked [] l)) (sym same) tt
behind_follows e cuts ending aliases asked ns before after l (TooMany t led same is) = subst (λ (g : Ending). IfSome (said_of g) (λ s. Follows e s asked [] l)) (sym same) tt
behind_follows e cuts ending aliases asked ns before after l (Led {aliases = less} {ns = more} {rest = rest} t led stops lasts) =
    led_on e asked cuts before t more rest l (said_of ending) led (behind_follows e cuts ending less (renamed asked t.name) more t.counts after rest stops) lasts

-- ---- a walk

-- the limit of messages ends nothing that is said
said_within : (most : ℕ) (e : Given) (ending : Ending) → said_of (ending_within most e ending) ≡ said_of ending
said_within most e (ends.Wants ws) = go (nat_lt (length e.messages) most)
  where
    go : (b : Bool) → said_of (if b then ends.Wants ws else ends.TooManyMessages) ≡ None
    go true = refl
    go false = refl
said_within most e _ = refl

module _ (e : Given) (asked : Asked) (limits : Limits) (w : Walk) (k : StopsWithin e asked limits w) where
  said_so : said_of w.ending ≡ said_of k.ending
  said_so = ap said_of k.is ∙ said_within limits.messages e k.ending

  lasting : (ns : List Name) (o : Option Said) → IfSome o (λ s. Follows e s asked ns k.validity) → IfSome o (λ s. Follows e s asked ns (validity_said o k.validity))
  lasting ns None f = tt
  lasting ns (Some s) f = f

  pub walked : IsWalked e asked w
  walked =
      let behind = behind_follows e limits.cuts k.ending limits.aliases asked k.stops.more no_counts w.counts k.validity k.stops.stops in
      let by_said : IfSome (said_of w.ending) (λ s. Follows e s asked k.stops.more k.validity) = subst (λ (o : Option Said). IfSome o (λ s. Follows e s asked k.stops.more k.validity)) (sym said_so) behind in
      let by_names : IfSome (said_of w.ending) (λ s. Follows e s asked w.through.items k.validity) =
      subst (λ (ns : List Name). IfSome (said_of w.ending) (λ s. Follows e s asked ns k.validity)) (sym k.stops.through_are) by_said in
      subst (λ (l : Option Validity). IfSome (said_of w.ending) (λ s. Follows e s asked w.through.items l)) (sym k.lasts) (lasting w.through.items (said_of w.ending) by_names)

  pub lasts_if_said : LastsIfSaid w
  lasts_if_said = subst (λ (l : Option Validity). IfNone (said_of w.ending) (l ≡ None)) (sym k.lasts) (go (said_of w.ending))
    where
      go : (o : Option Said) → IfNone o (validity_said o k.validity ≡ None)
      go None = refl
      go (Some s) = tt

-- what is said keeps its validity, and nothing else has one
pub kept_said : (o : Option Said) (l : Option Validity) → is_some o ≡ true → l ≡ validity_said o l
kept_said (Some s) l is = refl
kept_said None l is = absurd (false≢true is)

pub kept_unsaid : (o : Option Said) (l : Option Validity) → is_some o ≡ false → None ≡ validity_said o l
kept_unsaid None l is = refl
kept_unsaid (Some s) l is = absurd (false≢true (sym is))
