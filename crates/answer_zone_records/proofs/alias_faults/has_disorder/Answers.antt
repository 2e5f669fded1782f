use Rattle.std.proofs.Common.{◌∙◌, sym, rules, tests, map}
use Rattle.std.proofs.lemmas.Iterator.{YieldsList-from_slice}
use Rattle.std.proofs.lemmas.Iterator.Search.{any_from_yields_List}
use Rattle.messages.specs.HandedRr.{HandedRr, handed_of}
use Rattle.messages.proofs.Lists.{list_any-map}
use Rattle.answer_zone_records.specs.AliasFaults.{is_disorderly}
use Rattle.answer_zone_records.proofs.alias_faults.has_disorder.Goals as goal

pub returns : goal.returns
returns c =
    let test = λ (r : HandedRr). is_disorderly c.args.apex.now (map handed_of c.args.records.now) r in
    any_from_yields_List (λ r. test (handed_of r)) _ _ _ c.any.ensures.ran (YieldsList-from_slice c.args.records.now cc) (λ x b q k. search (rules, tests))
    ∙ sym (list_any-map test handed_of c.args.records.now)
