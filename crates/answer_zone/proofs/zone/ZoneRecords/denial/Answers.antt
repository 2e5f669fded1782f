use Rattle.std.proofs.Common.{List, [], ◌∷◌, map}
use Rattle.definitions.specs.Name.{Name, low}
use Rattle.answer_terms.specs.Served.{proofs_of, soa}
use Rattle.answer_zone.specs.HashedZone.{served_by}
use Rattle.answer_zone_records.proofs.ZoneLinks.{added}
use Rattle.answer_zone.proofs.zone.ZoneRecords.denial.Goals as goal

pub returns-clause-answer : goal.returns-clause-answer
returns-clause-answer g c =
    let s = served_by g.H.Nsec3Hasher.hash_of c.args.self.now in
    let qs : List Name = map (λ n. low n.now) c.args.names.now in
    added c.in_ok-groups.groups.items c.push_proofs.new.groups.items (soa s ∷ []) (proofs_of s qs) c.in_ok-groups.ensures c.in_ok-push_proofs.ensures.adds
