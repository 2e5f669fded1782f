use Rattle.std.proofs.Common.{◌≡◌, ◌∷◌, drop}
use Rattle.plain.specs.Records.{record_canonical_cmp}
use Rattle.denial_chain_owners.specs.Conditions.{climbs}
use Rattle.denial_chain_owners.proofs.conditions.ascend.Given as goal

abbrev pub invariant-loop-rr : goal.invariant-loop-rr
invariant-loop-rr g l =
    climbs (record_canonical_cmp g.N.Labels.name g.D.RecordData.type_of g.D.CanonicalOrd.canonical) (l.last ∷ drop l.rr-index l.rest)
    ≡ climbs (record_canonical_cmp g.N.Labels.name g.D.RecordData.type_of g.D.CanonicalOrd.canonical) l.records
