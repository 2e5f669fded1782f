-- Why a list of records is refused.
use Rattle.std.specs.Prelude.{◌≡◌, ◌⊎◌, ℕ, Bool, List, length, Option, Some, None, IsTrue, if◌then◌else◌}
use Rattle.std.specs.List.{list_any}
use Rattle.definitions.specs.Name.{Name}
use Rattle.definitions.specs.Zone.{Zone}
use Rattle.definitions.specs.ZoneChain.{Mode, Nsec, Nsec3, optout_of}
use Rattle.messages.specs.HandedRr.{HandedRr, is_meta}
use Rattle.answer_terms.specs.Accepting.{delegates_star, has_unlike_ttls, is_added_by_signing, is_alias, is_of_other_class, is_outside, over_limit, soas, sorted_records, zone_of}
use Rattle.answer_terms.specs.Chainable.{FailsHashing, HashesCollide, HashesTooLong}
use Rattle.answer_terms.specs.Hashing.{Hasher}
use Rattle.answer_zone_records.specs.declared.fault.ZoneFault.{ZoneFault}
use Rattle.answer_zone_records.specs.declared.fault.ZoneFault.TheVariants as fault
use Rattle.denial_chain_owners.specs.declared.error.SigningError.{SigningError}
use Rattle.denial_chain_owners.specs.declared.error.SigningError.TheVariants as chain

-- the first fault of the list itself
abbrev pub first_fault : Name → Mode → ℕ → List HandedRr → Option ZoneFault
first_fault apex mode limit rs =
    if list_any is_of_other_class rs then Some fault.WrongClass
    else if list_any (is_outside apex) rs then Some fault.OutsideApex
    else if list_any is_added_by_signing rs then Some fault.SignedType
    else if list_any is_alias rs then Some fault.Alias
    else if list_any is_meta rs then Some fault.MetaType
    else if list_any delegates_star rs then Some fault.StarNs
    else if over_limit mode limit then Some fault.IterationsOverLimit
    else None

-- a fault of a chain of hashes
abbrev pub IsHashFault : Hasher → ℕ → List ℕ → Bool → Zone → SigningError → Type 0
IsHashFault hash iterations salt optout z chain.HashFailed = FailsHashing hash iterations salt optout z
IsHashFault hash iterations salt optout z chain.HashTooLong = HashesTooLong hash iterations salt optout z
IsHashFault hash iterations salt optout z chain.HashCollision = HashesCollide hash iterations salt optout z
IsHashFault hash iterations salt optout z _ = ⊥

abbrev pub IsModeFault : Hasher → Mode → Zone → SigningError → Type 0
IsModeFault hash Nsec z e = ⊥
IsModeFault hash (Nsec3 iterations salt optout) z e = IsHashFault hash iterations salt optout z e

-- a fault of the chain whose condition holds
abbrev pub IsChainFault : Hasher → Name → Mode → List HandedRr → SigningError → Type 0
IsChainFault hash apex mode rs chain.NoSingleSoa = length (soas apex (sorted_records rs)) ≡ 1 → ⊥
IsChainFault hash apex mode rs chain.MultipleTtlValues = IsTrue (has_unlike_ttls (zone_of apex rs) (optout_of mode) (sorted_records rs))
IsChainFault hash apex mode rs e = IsModeFault hash mode (zone_of apex rs) e

-- a fault that may be answered: the first of the list itself, else any of the chain
abbrev pub IsFault : Hasher → Name → Mode → ℕ → List HandedRr → ZoneFault → Type 0
IsFault hash apex mode limit rs (fault.Chain e) = (first_fault apex mode limit rs ≡ None) × IsChainFault hash apex mode rs e
IsFault hash apex mode limit rs f = first_fault apex mode limit rs ≡ Some f

-- why a list may be refused: a fault, or want of memory, which only a list without a fault of its own can meet
abbrev pub RefusesZone : Hasher → Name → Mode → ℕ → List HandedRr → ZoneFault → Type 0
RefusesZone hash apex mode limit rs f = ((f ≡ fault.Memory) × (first_fault apex mode limit rs ≡ None)) ⊎ IsFault hash apex mode limit rs f

-- why a chain was refused, as a fault of the zone: want of memory is none of the chain
abbrev pub zone_fault : SigningError → ZoneFault
zone_fault chain.Memory = fault.Memory
zone_fault e = fault.Chain e
