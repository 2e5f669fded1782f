-- What the publisher's key calls return, beside the definitions.
use Rattle.std.specs.Prelude.{◌≡◌, ℕ, Bool, true, false, List, [], Option, Some, None, Result, Ok, Err}
use Rattle.std.specs.Global.{Vec}
use Rattle.definitions.specs.Dnskey.{Dnskey}
use Rattle.answer_publisher_keys.specs.declared.fault.KeyFault.{KeyFault}
use Rattle.answer_publisher_keys.specs.declared.fault.KeyFault.TheVariants as fault
use Rattle.keyset_rolls.specs.declared.rolls.Action.{Action}
use Rattle.keyset_keys.specs.declared.errors.Error.{Error}
use Rattle.keyset_keys.specs.declared.errors.Error.TheVariants as error
use Rattle.keyset.specs.KeyState.{Refusal}
use Rattle.keyset.specs.KeyAnswers.{refusal_of}
use Rattle.answer_publisher_keys.specs.Bindings as bindings
use Rattle.answer_publisher_keys.specs.Bindings.{ZoneKeys, Fault, Outcome, Call, Add, Set, Delete, apply, lifted, on_state}

abbrev pub refused : Option Refusal → Option Fault
refused None = None
refused (Some e) = Some (bindings.Refused e)

-- the fault that the code says; none where memory ran out
abbrev pub fault_of : KeyFault → Option Fault
fault_of fault.ReferenceBound = Some bindings.ReferenceBound
fault_of fault.DigestFailed = Some bindings.DigestFailed
fault_of (fault.Key e) = refused (refusal_of e)
fault_of fault.Memory = None

-- the fault that an error of the key set becomes
abbrev pub fault_from : Error → KeyFault
fault_from error.Memory = fault.Memory
fault_from e = fault.Key e

-- want of memory has its own name
abbrev pub IsNamed : KeyFault → Type 0
IsNamed (fault.Key error.Memory) = ⊥
IsNamed _ = Unit {0}

-- an accepted call
abbrev pub IsAccepted : Outcome → Type 0
IsAccepted (Ok a) = Unit {0}
IsAccepted (Err f) = ⊥

-- a call that doesn't speak of a reference that is bound to another key
abbrev pub IsFree : Outcome → Type 0
IsFree (Err bindings.ReferenceBound) = ⊥
IsFree _ = Unit {0}

-- What is certain where memory ran out. It comes last: the call would have been accepted. Only an add grows before that
-- is known: its key is digested behind the look at its reference and ahead of what the key set says. What sets or deletes
-- a key takes no memory.
abbrev pub RanOut : Call → Outcome → Type 0
RanOut (Add kind q private algorithm octets available) outcome = IsFree outcome
RanOut (Set q setting) outcome = ⊥
RanOut (Delete q) outcome = ⊥
RanOut _ outcome = IsAccepted outcome

-- What an add is refused for before its call: its reference is bound to another key, or, where it isn't, memory ran out.
abbrev pub RefusesAhead : Bool → KeyFault → Type 0
RefusesAhead away fault.ReferenceBound = away ≡ true
RefusesAhead away fault.Memory = away ≡ false
RefusesAhead away _ = ⊥

-- the fault says why the outcome is a refusal, or that memory ran out, where this is certain then
abbrev pub Fails : (Outcome → Type 0) → Option Fault → Outcome → Type 0
Fails ran_out None outcome = ran_out outcome
Fails ran_out (Some f) outcome = outcome ≡ Err f

-- What a call returned, seen by view, and what it left, are what the definition gives, unless memory ran out. Then,
-- and where the call is refused, nothing changed.
abbrev pub Gives : {X : Type 0} → (Outcome → Type 0) → (X → List Action) → ZoneKeys → ZoneKeys → Result X KeyFault → Outcome → Type 0
Gives ran_out view old new (Ok x) outcome = outcome ≡ Ok (new, view x)
Gives ran_out view old new (Err e) outcome = (new ≡ old) × IsNamed e × Fails ran_out (fault_of e) outcome

-- the same of a call on a key set and what is bound, by a digest of keys, at a moment
abbrev pub GivesKeys : {X : Type 0} → (X → List Action) → (Dnskey → Option (List ℕ)) → Call → ℕ → ZoneKeys → ZoneKeys → Result X KeyFault → Type 0
GivesKeys view digest c at old new result = Gives (RanOut c) view old new result (apply digest c at old)

-- of calls that answer actions, and of those that answer nothing
abbrev pub Acts : (Dnskey → Option (List ℕ)) → Call → ℕ → ZoneKeys → ZoneKeys → Result (Vec Action) KeyFault → Type 0
Acts digest c at old new result = GivesKeys (λ (v : Vec Action). v.items) digest c at old new result

abbrev pub Changes : (Dnskey → Option (List ℕ)) → Call → ℕ → ZoneKeys → ZoneKeys → Result (Unit {0}) KeyFault → Type 0
Changes digest c at old new result = GivesKeys (λ _. []) digest c at old new result

-- of a call on the key set alone that takes no memory, and of any other; neither changes what is bound
abbrev pub SetsKeys : Call → ℕ → ZoneKeys → ZoneKeys → Result (Unit {0}) KeyFault → Type 0
SetsKeys c at old new result = Gives (λ _. ⊥) (λ _. []) old new result (lifted old.bound (on_state c at old.keys))

abbrev pub ActsOnKeys : Call → ℕ → ZoneKeys → ZoneKeys → Result (Vec Action) KeyFault → Type 0
ActsOnKeys c at old new result = Gives IsAccepted (λ (v : Vec Action). v.items) old new result (lifted old.bound (on_state c at old.keys))
