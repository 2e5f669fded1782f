-- What a run writes.
use Rattle.std.specs.Prelude.{◌≡◌, ◌⊎◌, ℕ, List, [], ◌∷◌, ◌++◌, map, codes, decimal, nat_eq, if◌then◌else◌, Option, Some, None, IfSome, Ok, Err}
use Rattle.std.specs.List.{flat_map}
use Rattle.std.specs.Str.{bytes_eq}
use Rattle.std.specs.Io.KnownBytes.{Appends}
use Rattle.sha2.specs.Sha256.{sha256}
use Rattle.definitions.specs.Dnskey.{Dnskey, dnskey_data}
use Rattle.messages.specs.HandedRr.{HandedRr}
use Rattle.denial_nsec3_sha1.specs.Iterated.{answered}
use Rattle.answer_terms.specs.Accepting.{sorted_records}
use Rattle.answer_zone_records.specs.Faults.{IsFault}
use Rattle.answer.specs.Simulations.{IsSimulation}
use Rattle.answer.specs.World.{World, world}
use Rattle.answer_events.specs.declared.event.Event.{Event}
use Rattle.answer.specs.Outcome.{Outcome}
use Rattle.answer_zone_records.specs.declared.fault.ZoneFault.{ZoneFault}
use Rattle.session_grammar.specs.Grammar.{ZoneLine, EventLine}
use Rattle.session_grammar.specs.Readings.{event_view}
use Rattle.session_grammar.specs.Sessions.{Session, session_of}
use Rattle.printed_outcomes.specs.Names.{zone_fault_name}
use Rattle.printed_outcomes.specs.Printed.{outcome_text}
use Rattle.denialbench.specs.declared.status.Status.{Status}
use Rattle.denialbench.specs.declared.status.Status.TheVariants.{Done, BadLine, Fault}

-- what is written about such a line
abbrev pub refused_line : ℕ → List ℕ
refused_line n = codes "line " ++ decimal n ++ (codes ": cannot be read" ++ 10 ∷ [])

-- a stand-in for a signature: SHA-256 of the key's data and the octets
abbrev pub stand_in : Dnskey → List ℕ → List ℕ
stand_in k octets = sha256 (dnskey_data k ++ octets)

-- a zone as the bench serves it: it signs with stand-ins, digests by type 2 alone, and hashes names by SHA-1
abbrev pub bench : ZoneLine → List HandedRr → World
bench zone records = world (record { apex = zone.apex; mode = zone.mode; limit = zone.limit; records = sorted_records records }) zone.life
    (λ k octets. Some (stand_in k octets)) (λ k octets s. bytes_eq (stand_in k octets) s) (λ t octets. if nat_eq t 2 then Some (sha256 octets) else None) answered

-- the zone is accepted, and the outcomes of a simulation of the events are printed, each in a line
pub record PrintsOutcomes (zone : ZoneLine) (records : List HandedRr) (events : List EventLine) (text : List ℕ) : Type 0 where
  pub acted : List Event
  pub acts_are : map event_view acted ≡ events
  pub outcomes : List Outcome
  pub simulation : IsSimulation (bench zone records) records acted outcomes
  pub printed : text ≡ flat_map (λ o. outcome_text o ++ 10 ∷ []) outcomes

-- the zone is refused, which is all that is printed
pub record PrintsFault (zone : ZoneLine) (records : List HandedRr) (text : List ℕ) : Type 0 where
  pub fault : ZoneFault
  pub is_fault : IsFault answered zone.apex zone.mode zone.limit records fault
  pub printed : text ≡ codes "refused " ++ zone_fault_name fault ++ 10 ∷ []

abbrev pub PrintsSession : ZoneLine → List HandedRr → List EventLine → List ℕ → Type 0
PrintsSession zone records events text = PrintsOutcomes zone records events text ⊎ PrintsFault zone records text

-- Where each line can be read, what comes of the session is written; otherwise the number of the first that can't.
abbrev pub Responds : List ℕ → Status → List ℕ → Type 0
Responds input Done text = (s : Session) × (session_of input ≡ Ok s) × PrintsSession s.zone s.records s.events text
Responds input BadLine text = (n : ℕ) × (session_of input ≡ Err n) × (text ≡ refused_line n)
Responds input Fault text = ⊥

-- An input is answered, the whole of what the reader had where that is known: a text for it is written.
pub record Answers (known : Option (List ℕ)) (status : Status) (before after : Option (List ℕ)) : Type 0 where
  pub input : List ℕ
  pub whole : IfSome known (λ xs. input ≡ xs)
  pub text : List ℕ
  pub responds : Responds input status text
  pub written : Appends before after text

-- some line can't be read
abbrev pub IsUnreadable : List ℕ → Type 0
IsUnreadable input = (n : ℕ) × (session_of input ≡ Err n)
