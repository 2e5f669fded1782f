use Rattle.std.proofs.Common.{◌≡◌, ◌&&◌, Bool, true, false, [], refl, sym, ap, ◌∙◌}
use Rattle.std.proofs.lemmas.Bool.{false≢true}
use Rattle.definitions.specs.Name.{at_or_above}
use Rattle.answer_zone_records.specs.OwnedRecords.{owned_by}
use Rattle.answer_zone.proofs.Placing.{owned_below}
use Rattle.answer_zone.proofs.zone.ZoneRecords.stands_with.Goals as goal

and_true : (b : Bool) → b ≡ (b && true)
and_true true = refl
and_true false = refl

pub returns-else-is_empty : goal.returns-else-is_empty
returns-else-is_empty g c =
    let z = c.args.self.now in
    let n = c.args.name.now in
    let some = λ (e : owned_by n z.records ≡ []). false≢true (sym c.if-is_empty.false ∙ c.is_empty.ensures.1 (c.requires ∙ e)) in
    c.is_at_or_above.ensures ∙ ap (λ z. at_or_above z.apex n) c.self.view_is ∙ and_true (at_or_above z.apex n) ∙ ap (λ b. at_or_above z.apex n && b) (sym (owned_below n z.records some))
