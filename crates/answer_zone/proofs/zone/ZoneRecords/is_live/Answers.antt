use Rattle.std.proofs.Common.{◌≡◌, ◌&&◌, true, false, sym, ap, ◌∙◌}
use Rattle.std.specs.Prelude.{Some}
use Rattle.std.specs.Option.{is_none}
use Rattle.definitions.specs.Name.{at_or_above, low}
use Rattle.definitions.specs.Zone.{cut_above}
use Rattle.denial_laws.proofs.NameFacts.{above-low}
use Rattle.answer_terms.specs.Accepting.{zone_with}
use Rattle.answer_zone_records.specs.declared.owned.Cut.{Cut}
use Rattle.answer_zone.specs.Placed.{IsCutRecords}
use Rattle.answer_zone.proofs.Placing.{if_some_first, is_none_by}
use Rattle.answer_zone.proofs.zone.ZoneRecords.is_live.Goals as goal

pub returns-then-is_at_or_above : goal.returns-then-is_at_or_above
returns-then-is_at_or_above g c =
    let z = c.args.self.now in
    let q = c.args.name.now in
    let zone = zone_with z.apex z.records in
    let inside : at_or_above (low z.apex) (low q) ≡ true = above-low z.apex q ∙ sym (ap (λ v. at_or_above v.apex q) c.self.view_is) ∙ sym c.is_at_or_above.ensures ∙ c.if-is_at_or_above.true in
    is_none_by c.cut_above.result (cut_above zone (low q)) c.is_none.result c.is_none.ensures (if_some_first (λ (k : Cut). cut_above zone (low q) ≡ Some (low k.name.now)) (λ (k : Cut). IsCutRecords z.records k) c.cut_above.result c.cut_above.ensures.some) c.cut_above.ensures.none
    ∙ sym (ap (λ b. b && is_none (cut_above zone (low q))) inside)

pub returns-else-is_at_or_above : goal.returns-else-is_at_or_above
returns-else-is_at_or_above g c =
    let z = c.args.self.now in
    let q = c.args.name.now in
    let outside : at_or_above (low z.apex) (low q) ≡ false = above-low z.apex q ∙ sym (ap (λ v. at_or_above v.apex q) c.self.view_is) ∙ sym c.is_at_or_above.ensures ∙ c.if-is_at_or_above.false in
    c.if-is_at_or_above.false ∙ sym (ap (λ b. b && is_none (cut_above (zone_with z.apex z.records) (low q))) outside)
