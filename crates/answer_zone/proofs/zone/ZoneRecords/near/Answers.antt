use Rattle.std.proofs.Common.{◌≡◌, map, sym, ap, subst, ◌∙◌}
use Rattle.std.specs.List.{list_any}
use Rattle.definitions.specs.Name.{at_or_above, same}
use Rattle.messages.specs.HandedRr.{HandedRr, handed_of}
use Rattle.messages.proofs.Lists.{list_any-map}
use Rattle.answer_zone_records.specs.Near.{AreRising}
use Rattle.answer_zone_records.proofs.KeptNames.{handed_rise}
use Rattle.answer_zone.proofs.zone.ZoneRecords.near.Goals as goal

pub neighbours_of-requires : goal.neighbours_of-requires
neighbours_of-requires g c = subst (AreRising (λ r. r.owner)) (sym c.as_slice.ensures.records) (handed_rise c.self.inside.records c.self.invariant.0.rising)

pub returns : goal.returns
returns g c =
    let items : map handed_of c.as_slice.result.now ≡ c.args.self.now.records = ap (map handed_of) c.as_slice.ensures.records ∙ ap (λ z. z.records) c.self.view_is in
    record {
      shows = λ a h. ap (list_any (λ (r : HandedRr). at_or_above a r.owner)) (sym items) ∙ list_any-map (λ (r : HandedRr). at_or_above a r.owner) handed_of c.as_slice.result.now ∙ c.neighbours_of.ensures.shows a h;
      owns = ap (list_any (λ (r : HandedRr). same r.owner c.args.name.now)) (sym items) ∙ list_any-map (λ (r : HandedRr). same r.owner c.args.name.now) handed_of c.as_slice.result.now ∙ c.neighbours_of.ensures.owns;
    }
