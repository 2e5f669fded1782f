use Rattle.std.proofs.Common.{◌∙◌, rules, tests, eqb}
use Rattle.std.proofs.lemmas.Iterator.Search.{any_from_yields_List}
use Rattle.std.proofs.lemmas.Iterator.Consumers.{YieldsList-from_rest}
use Rattle.keyset.proofs.KeyMaps.{any_value-by_reference}
use Rattle.keyset.proofs.maps.has_tag.Goals as goal

pub returns : goal.returns
returns c =
    any_from_yields_List (λ k. eqb k.tag c.args.key_tag) _ _ _ c.any.ensures.ran (YieldsList-from_rest _ c.values.ensures.rest) (λ x r q k. search (rules, tests))
    ∙ any_value-by_reference (λ k. eqb k.tag c.args.key_tag) c.args.keys.now.entries c.values.ensures.unique
