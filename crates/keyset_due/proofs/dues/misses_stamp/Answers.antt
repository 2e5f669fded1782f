use Rattle.std.proofs.Common.{◌∙◌, rules, tests}
use Rattle.std.proofs.lemmas.Iterator.Search.{any_from_yields_List}
use Rattle.std.proofs.lemmas.Iterator.Consumers.{YieldsList-from_rest}
use Rattle.keyset_rolls.specs.Rolls.{awaited, is_missing}
use Rattle.keyset.proofs.KeyMaps.{any_value-by_reference}
use Rattle.keyset_due.proofs.dues.misses_stamp.Goals as goal

pub returns : goal.returns
returns c =
    any_from_yields_List (λ k. is_missing (awaited c.args.turn c.args.rolltype k)) _ _ _ c.any.ensures.ran (YieldsList-from_rest _ c.values.ensures.rest) (λ x r q k. search (rules, tests))
    ∙ any_value-by_reference (λ k. is_missing (awaited c.args.turn c.args.rolltype k)) c.args.keys.now.entries c.values.ensures.unique
