use Rattle.std.proofs.Common.{◌∙◌, sym, rules, tests}
use Rattle.std.specs.Str.{bytes_eq}
use Rattle.std.proofs.lemmas.Iterator.{YieldsList-from_slice}
use Rattle.std.proofs.lemmas.Iterator.Search.{any_from_yields_List}
use Rattle.keyset.proofs.listing.is_listed.Goals as goal
use Rattle.keyset.proofs.Lists.{list_any-map}

pub returns : goal.returns
returns g c =
    let text = g.T.AsStr.text in
    let test = λ (r : g.row.T.Denot). bytes_eq (text r) c.args.reference.now in
    any_from_yields_List test _ _ _ c.any.ensures.ran (YieldsList-from_slice c.args.references.now cc) (λ x b q k. search (rules, tests))
    ∙ sym (list_any-map (λ p. bytes_eq p c.args.reference.now) text c.args.references.now)
