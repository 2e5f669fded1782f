use Rattle.std.proofs.Common.{◌∙◌, rules, tests}
use Rattle.std.proofs.lemmas.Iterator.Search.{any_from_yields_List}
use Rattle.std.proofs.lemmas.Iterator.Consumers.{YieldsList-from_rest}
use Rattle.keyset_rolls.specs.Rolls.{conflicts}
use Rattle.keyset.proofs.KeyMaps.{any_kind-by_kind, kind_eq, kind_tied}
use Rattle.keyset.proofs.maps.is_blocked.Goals as goal

pub returns : goal.returns
returns c =
    any_from_yields_List (conflicts c.args.rolltype) _ _ _ c.any.ensures.ran (YieldsList-from_rest _ c.keys.ensures.rest) (λ x r q k. search (rules, tests))
    ∙ any_kind-by_kind kind_eq kind_tied (conflicts c.args.rolltype) c.args.rollstates.now.entries c.keys.ensures.unique
