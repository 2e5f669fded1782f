use Rattle.std.proofs.Common.{◌≡◌, ap, subst, ◌∙◌}
use Rattle.definitions.specs.Name.{low}
use Rattle.definitions.specs.Zone.{has}
use Rattle.answer_terms.specs.Accepting.{zone_with}
use Rattle.answer_terms.specs.GroupView.{Presents}
use Rattle.answer_terms.specs.Served.{rrset, soa}
use Rattle.answer_zone_records.specs.ZoneInOrder.{AreZoneRecords}
use Rattle.answer_terms.proofs.ZoneData.{if_ok_map}
use Rattle.answer_zone.specs.HashedZone.{served_by}
use Rattle.answer_zone.proofs.Verdicts.{has_soa}
use Rattle.answer_zone.proofs.zone.ZoneRecords.soa.Goals as goal

pub spelled_rrset-requires-clause-there : goal.spelled_rrset-requires-clause-there
spelled_rrset-requires-clause-there g c =
    let apex = c.args.self.now.apex in
    let rs = c.args.self.now.records in
    let published : AreZoneRecords apex rs = rw (← c.self.view_is) c.self.invariant.0 in
    ap (λ z. has (zone_with apex rs) (low z.apex) 6) c.self.view_is ∙ has_soa apex rs published.soa

pub returns : goal.returns
returns g c =
    let apex = c.args.self.now.apex in
    let rs = c.args.self.now.records in
    let name : c.self.inside.apex ≡ apex = ap (λ z. z.apex) c.self.view_is in
    let s = served_by g.H.Nsec3Hasher.hash_of c.args.self.now in
    if_ok_map
    (λ v. Presents v (rrset s (low c.self.inside.apex) 6))
    (λ v. Presents v (soa s))
    c.spelled_rrset.result
    (λ v h. subst (λ n. Presents v (rrset s (low n) 6)) name h)
    c.spelled_rrset.ensures
