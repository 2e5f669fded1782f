use Rattle.std.proofs.Common.{refl, ◌∙◌}
use Rattle.definitions.specs.Name.{low}
use Rattle.definitions.specs.Zone.{owners, verdict}
use Rattle.definitions.specs.ZoneChain.{optout_of}
use Rattle.definitions.proofs.Members.{contained}
use Rattle.denial_laws.specs.Truth.{concerned}
use Rattle.denial_laws.proofs.NameFacts.{above-low}
use Rattle.denial_laws.proofs.ZoneCuts.{has_owner}
use Rattle.answer_terms.specs.Accepting.{zone_with}
use Rattle.answer_zone.proofs.Concerned.{all_concerned}
use Rattle.answer_zone.proofs.Failures.{fails_within}
use Rattle.answer_zone.proofs.Verdicts.{has_soa}
use Rattle.answer_zone.proofs.zone.ZoneRecords.answer_to.Goals as goal

pub returns-then-leaves_open-clause-concerned : goal.returns-then-leaves_open-clause-concerned
returns-then-leaves_open-clause-concerned g c = λ inside.
    let x = c.args.self.now in
    let z = zone_with x.apex x.records in
    let there = contained (owners z) (low x.apex) (has_owner z (low x.apex) 6 (has_soa x.apex x.records c.keeps.ensures.published.soa)) in
    fails_within (g.H.Nsec3Hasher.hash_of x.hasher) x.mode _ (concerned (low x.apex) (low c.args.name.now)) c.open_answer.result
    (all_concerned z there x.mode c.args.name.now c.args.rtype (above-low x.apex c.args.name.now ∙ inside) (verdict z (optout_of x.mode) c.args.name.now c.args.rtype) refl)
    c.open_answer.ensures.1

pub returns-else-leaves_open-clause-concerned : goal.returns-else-leaves_open-clause-concerned
returns-else-leaves_open-clause-concerned g c = λ inside.
    let x = c.args.self.now in
    let z = zone_with x.apex x.records in
    let there = contained (owners z) (low x.apex) (has_owner z (low x.apex) 6 (has_soa x.apex x.records c.keeps.ensures.published.soa)) in
    fails_within (g.H.Nsec3Hasher.hash_of x.hasher) x.mode _ (concerned (low x.apex) (low c.args.name.now)) c.told_answer.result
    (all_concerned z there x.mode c.args.name.now c.args.rtype (above-low x.apex c.args.name.now ∙ inside) (verdict z (optout_of x.mode) c.args.name.now c.args.rtype) refl)
    c.told_answer.ensures.1
