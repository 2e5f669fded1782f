use Rattle.std.proofs.Common.{◌&&◌, true, sym, ap, ◌∙◌}
use Rattle.definitions.specs.Name.{at_or_above}
use Rattle.definitions.specs.Zone.{kept_owners}
use Rattle.definitions.proofs.ZoneNames.{above_itself}
use Rattle.denial_laws.proofs.NameFacts.{above-low}
use Rattle.answer_zone_records.specs.Near.{shows}
use Rattle.answer_terms.specs.Accepting.{zone_with}
use Rattle.answer_zone.proofs.Placing.{any_lowered}
use Rattle.answer_zone.proofs.zone.ZoneRecords.is_kept.Goals as goal

pub returns : goal.returns
returns g c =
    let z = c.args.self.now in
    let n = c.args.name.now in
    let os = kept_owners (zone_with z.apex z.records) true in
    c.is_shown.ensures ∙ ap (λ z. at_or_above z.apex n && shows c.near_kept.result n) c.self.view_is
    ∙ (λ i. sym (above-low z.apex n) i && sym (any_lowered n os ∙ c.near_kept.ensures n (above_itself n)) i)
