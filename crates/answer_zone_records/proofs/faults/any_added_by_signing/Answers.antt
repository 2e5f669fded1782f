use Rattle.std.proofs.Common.{◌∙◌, sym, rules, tests, ◌∷◌, []}
use Rattle.std.proofs.lemmas.Iterator.{YieldsList-from_slice}
use Rattle.std.proofs.lemmas.Iterator.Search.{any_from_yields_List}
use Rattle.messages.specs.HandedRr.{HandedRr, handed_of, among}
use Rattle.messages.proofs.Lists.{list_any-map}
use Rattle.answer_zone_records.proofs.faults.any_added_by_signing.Goals as goal

pub returns : goal.returns
returns c =
    let test = λ (r : HandedRr). among (46 ∷ 47 ∷ 48 ∷ 50 ∷ 51 ∷ []) r.rtype in
    any_from_yields_List (λ r. test (handed_of r)) _ _ _ c.any.ensures.ran (YieldsList-from_slice c.args.records.now cc) (λ x b q k. search (rules, tests))
    ∙ sym (list_any-map test handed_of c.args.records.now)
