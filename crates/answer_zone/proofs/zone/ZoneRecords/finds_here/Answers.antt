use Rattle.std.proofs.Common.{◌≡◌, true, false, sym, ap, ◌∙◌}
use Rattle.std.specs.Prelude.{nat_lt}
use Rattle.std.specs.List.{list_any}
use Rattle.definitions.specs.Name.{low}
use Rattle.definitions.specs.Zone.{has}
use Rattle.definitions.proofs.ZoneNames.{low-low}
use Rattle.answer_zone_records.specs.OwnedRecords.{is_of_type}
use Rattle.answer_zone.specs.Questions.{zone_of}
use Rattle.answer_zone.specs.ZoneAnswers.{answered}
use Rattle.answer_zone.proofs.Placing.{exists_here, has_owned, none_strictly}
use Rattle.answer_zone.proofs.Verdicts.{has_type, lacks_type, owner_inside}
use Rattle.answer_zone.proofs.zone.ZoneRecords.finds_here.Goals as goal

pub returns-then-has : goal.returns-then-has
returns-then-has g c =
    let x = c.args.self.now in
    let q = c.args.name.now in
    let t = c.args.rtype in
    let z = zone_of x in
    let there : has z (low q) t ≡ true = sym (c.has.ensures ∙ ap (list_any (is_of_type t)) c.requires.owned ∙ has_owned x.apex x.records q t) ∙ c.if-has.true in
    sym (ap (λ v. nat_lt 0 (answered v)) (has_type z q t c.requires.own.0 (owner_inside x.apex x.records c.keeps.ensures.published.inside q t there) there))

pub returns-then-stands : goal.returns-then-stands
returns-then-stands g c =
    let x = c.args.self.now in
    let q = c.args.name.now in
    let t = c.args.rtype in
    let z = zone_of x in
    let stood = exists_here x.apex x.records q (none_strictly z (low q) (low-low q) c.requires.own.1) in
    let none : has z (low q) t ≡ false = sym (c.has.ensures ∙ ap (list_any (is_of_type t)) c.requires.owned ∙ has_owned x.apex x.records q t) ∙ c.if-has.false in
    sym (ap (λ v. nat_lt 0 (answered v)) (lacks_type z q t c.requires.own.0 (stood ∙ sym c.stands.ensures ∙ c.if-stands.true) none))

pub finds_wild-requires-clause-gone : goal.finds_wild-requires-clause-gone
finds_wild-requires-clause-gone g c =
    let x = c.args.self.now in
    let q = c.args.name.now in
    exists_here x.apex x.records q (none_strictly (zone_of x) (low q) (low-low q) c.requires.own.1) ∙ sym c.stands.ensures ∙ c.if-stands.false
