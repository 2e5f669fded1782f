-- Why records have no chain.
use Rattle.std.specs.Prelude.{◌≡◌, Bool, true, List, None}
use Rattle.definitions.specs.Name.{Name}
use Rattle.plain.specs.ZoneData.{zone_type, zone_canonical}
use Rattle.plain.specs.declared.record.Record.{Record}
use Rattle.plain.specs.declared.zone_data.ZoneRecordData.{ZoneRecordData}
use Rattle.denial_chain_owners.specs.Soa.{soa_ttls}
use Rattle.denial_chain_owners.specs.Ttls.{has_unequal_ttls}
use Rattle.denial_chain_owners.specs.declared.error.SigningError.{SigningError}
use Rattle.denial_chain_owners.specs.declared.error.SigningError.TheVariants.{NoSingleSoa, MultipleTtlValues, HashFailed, HashTooLong, HashCollision, Memory}

-- the cause of a refusal holds; lack of memory has no cause here
abbrev pub IsOwnersFault : {O N : Type 0} → (N → Name) → Name → Bool → List (Record N (ZoneRecordData O N)) → SigningError → Type 0
IsOwnersFault name apex excluding rs NoSingleSoa = soa_ttls name apex rs ≡ None
IsOwnersFault name apex excluding rs MultipleTtlValues = has_unequal_ttls name zone_type (zone_canonical name) apex excluding rs ≡ true
IsOwnersFault name apex excluding rs HashFailed = ⊥
IsOwnersFault name apex excluding rs HashTooLong = ⊥
IsOwnersFault name apex excluding rs HashCollision = ⊥
IsOwnersFault name apex excluding rs Memory = Unit {0}
