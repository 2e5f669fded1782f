use Rattle.std.proofs.Common.{◌≡◌, List, Some, sym, ap, subst, ◌∙◌}
use Rattle.std.specs.List.{list_any, slice_get}
use Rattle.std.specs.Option.{option_map}
use Rattle.messages.specs.HandedRr.{HandedRr}
use Rattle.answer_zone_records.specs.OwnedRecords.{is_of_type}
use Rattle.answer_zone.proofs.Placing.{cut_owned, has_owned, nothing_owned}
use Rattle.answer_zone.proofs.zone.ZoneRecords.cut_at.Goals as goal

pub returns-then-not-shows-clause-none : goal.returns-then-not-shows-clause-none
returns-then-not-shows-clause-none g c = λ _. nothing_owned c.args.self.now.apex c.args.self.now.records (g.O.Labels.name c.args.ancestor.now) 2 (sym c.requires ∙ sym c.shows.ensures ∙ c.if-not-shows.true)

pub returns-in-Ok-clause-some : goal.returns-in-Ok-clause-some
returns-in-Ok-clause-some g c =
    let rs = c.args.self.now.records in
    let q = g.O.Labels.name c.args.ancestor.now in
    let k = c.in-Ok.ensures.cut in
    let there = sym (has_owned c.args.self.now.apex rs q 2) ∙ ap (list_any (is_of_type 2)) (sym c.owned_from.ensures) ∙ k.1 in
    let r = cut_owned rs q c.in-Ok.cut (k.0 ∙ c.owned_from.ensures) (subst (λ (os : List HandedRr). Some c.in-Ok.cut.name.now ≡ option_map (λ (r : HandedRr). r.owner) (slice_get os 0)) c.owned_from.ensures k.2) in
    (there, r.0, r.1)

pub returns-in-Err-clause-none : goal.returns-in-Err-clause-none
returns-in-Err-clause-none g c = λ _.
    sym (has_owned c.args.self.now.apex c.args.self.now.records (g.O.Labels.name c.args.ancestor.now) 2) ∙ ap (list_any (is_of_type 2)) (sym c.owned_from.ensures) ∙ c.in-Err.ensures.back.1
