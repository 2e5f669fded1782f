use Rattle.std.proofs.Common.{◌≡◌, ◌&&◌, not, true, false, sym, ap, ◌∙◌}
use Rattle.std.specs.Prelude.{Some}
use Rattle.std.specs.List.{list_any}
use Rattle.definitions.specs.Name.{at_or_above, low}
use Rattle.definitions.specs.Zone.{cut_above}
use Rattle.definitions.proofs.ZoneNames.{low-low}
use Rattle.answer_terms.specs.Accepting.{zone_with}
use Rattle.answer_zone_records.specs.declared.owned.Cut.{Cut}
use Rattle.answer_zone.specs.Cuts.{is_cut_off}
use Rattle.answer_zone.specs.Placed.{IsCutRecords}
use Rattle.answer_zone.proofs.Cuts.{exists_is}
use Rattle.answer_zone.proofs.Kept.{live_is}
use Rattle.answer_zone.proofs.Placing.{if_some_first, is_none_by}
use Rattle.answer_zone.proofs.zone.ZoneRecords.exists.Goals as goal

pub returns-then-stands : goal.returns-then-stands
returns-then-stands g c =
    let z = c.args.self.now in
    let q = c.args.name.now in
    let zone = zone_with z.apex z.records in
    let stood : (at_or_above z.apex q && list_any (λ r. at_or_above q r.owner) z.records) ≡ true = sym c.stands.ensures ∙ c.if-stands.true in
    is_none_by c.cut_above.result (cut_above zone (low q)) c.is_none.result c.is_none.ensures (if_some_first (λ (k : Cut). cut_above zone (low q) ≡ Some (low k.name.now)) (λ (k : Cut). IsCutRecords z.records k) c.cut_above.result c.cut_above.ensures.some) c.cut_above.ensures.none
    ∙ live_is zone (low q) (low-low q)
    ∙ sym (ap (λ b. b && not (is_cut_off zone (low q))) stood) ∙ sym (exists_is z.apex z.records q)

pub returns-else-stands : goal.returns-else-stands
returns-else-stands g c =
    let z = c.args.self.now in
    let q = c.args.name.now in
    let stood : (at_or_above z.apex q && list_any (λ r. at_or_above q r.owner) z.records) ≡ false = sym c.stands.ensures ∙ c.if-stands.false in
    c.if-stands.false ∙ sym (ap (λ b. b && not (is_cut_off (zone_with z.apex z.records) (low q))) stood) ∙ sym (exists_is z.apex z.records q)
