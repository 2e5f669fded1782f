use Rattle.std.proofs.Common.{◌∙◌, sym, rules, tests, String, Global, ◌&&◌}
use Rattle.std.specs.Prelude.{string_bytes}
use Rattle.std.proofs.lemmas.Iterator.Search.{any_from_yields_List}
use Rattle.std.proofs.lemmas.Iterator.Consumers.{YieldsList-from_rest}
use Rattle.keyset_keys.specs.declared.keys.KeyType.{KeyType}
use Rattle.keyset.specs.KeyState.{Reference, Key, by_reference, listed}
use Rattle.keyset_rolls.specs.Rolls.{meets_need, started_roles, touches}
use Rattle.keyset.proofs.KeyMaps.{any-by_reference}
use Rattle.keyset.specs.Listing.{listed_by}
use Rattle.keyset.proofs.maps.has_needed_after_start.Goals as goal
use Rattle.keyset.proofs.Lists.{list_any-map}

pub returns : goal.returns
returns g c =
    let after = λ (q : Reference) (k : Key). started_roles c.args.rolltype (listed (listed_by c.args.old.now) q) (listed (listed_by c.args.new.now) q) k.roles in
    let serves = λ (t : KeyType). touches c.args.rolltype t && meets_need c.args.need t in
    any_from_yields_List (λ (e : String Global × Key). serves (after (string_bytes e.0) e.1)) _ _ _ c.any.ensures.ran (YieldsList-from_rest _ c.iter.ensures.rest) (λ x r q k. search (rules, tests))
    ∙ any-by_reference (λ q k. serves (after q k)) c.args.keys.now.entries c.iter.ensures.unique
    ∙ sym (list_any-map serves (λ (e : Reference × Key). after e.0 e.1) (by_reference c.args.keys.now.entries))
