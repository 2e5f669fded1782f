use Rattle.std.proofs.Common.{◌∙◌, ap, rules, tests}
use Rattle.std.specs.List.{list_all}
use Rattle.std.proofs.lemmas.Iterator.{YieldsList-from_slice}
use Rattle.std.proofs.lemmas.Iterator.Search.{all_from_yields_List}
use Rattle.keyset_rolls.specs.declared.table.Need.{Need}
use Rattle.keyset.specs.KeyState.{by_reference, has_needed, roles_after}
use Rattle.keyset.specs.Listing.{listed_by}
use Rattle.keyset.proofs.maps.serves_after_start.Goals as goal

pub returns : goal.returns
returns g c =
    let after = roles_after c.args.rolltype (listed_by c.args.old.now) (listed_by c.args.new.now) (by_reference c.args.keys.now.entries) in
    let test = λ (n : Need). has_needed c.args.rolltype n after in
    all_from_yields_List test _ _ _ c.all.ensures.ran (YieldsList-from_slice _ cc) (λ x b q k. search (rules, tests))
    ∙ ap (list_all test) c.needs.ensures
