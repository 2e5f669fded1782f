use Rattle.std.proofs.Common.{◌≡◌, ◌&&◌, true, false, sym, ap, ◌∙◌}
use Rattle.definitions.specs.Name.{low, at_or_above}
use Rattle.definitions.specs.Zone.{exists}
use Rattle.answer_terms.specs.Accepting.{zone_with}
use Rattle.definitions.proofs.ZoneNames.{low-low}
use Rattle.answer_zone.proofs.Placing.{exists_here, none_strictly}
use Rattle.answer_zone.proofs.zone.ZoneRecords.expands.Goals as goal

pub returns-then-is_at_or_above : goal.returns-then-is_at_or_above
returns-then-is_at_or_above g c =
    let z = c.args.self.now in
    let name = ap (λ z. at_or_above z.apex c.args.name.now) c.self.view_is in
    let above : at_or_above z.apex c.args.name.now ≡ true = sym name ∙ sym c.is_at_or_above.ensures ∙ c.if-is_at_or_above.true in
    c.stands_with.ensures ∙ sym (exists_here z.apex z.records c.args.star.now (none_strictly (zone_with z.apex z.records) (low c.args.star.now) (low-low c.args.star.now) (c.requires.uncut above))) ∙ sym (ap (λ b. b && exists (zone_with z.apex z.records) (low c.args.star.now)) above)

pub returns-else-is_at_or_above : goal.returns-else-is_at_or_above
returns-else-is_at_or_above g c =
    let z = c.args.self.now in
    let name = ap (λ z. at_or_above z.apex c.args.name.now) c.self.view_is in
    let above : at_or_above z.apex c.args.name.now ≡ false = sym name ∙ sym c.is_at_or_above.ensures ∙ c.if-is_at_or_above.false in
    c.if-is_at_or_above.false ∙ sym (ap (λ b. b && exists (zone_with z.apex z.records) (low c.args.star.now)) above)
