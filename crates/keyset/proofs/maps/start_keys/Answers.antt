use Rattle.std.proofs.Common.{ap, ◌∙◌, rules, tests}
use Rattle.std.specs.Prelude.{string_bytes}
use Rattle.keyset.specs.KeyState.{Reference, Key, by_reference, listed}
use Rattle.keyset_rolls.specs.Rolls.{started_key}
use Rattle.keyset.proofs.KeyOrder.{map_pairs}
use Rattle.keyset.proofs.KeyMaps.{by_reference-map}
use Rattle.keyset.specs.Listing.{listed_by}
use Rattle.keyset.proofs.maps.start_keys.Goals as goal

pub returns : goal.returns
returns g c =
    let change = λ (q : Reference) (k : Key). started_key c.args.rolltype c.args.now.now (listed (listed_by c.args.old.now) q) (listed (listed_by c.args.new.now) q) k in
    ap by_reference (map_pairs _ (λ q k. change (string_bytes q) k) _ (λ k v b w f' t. search (rules, tests)) c.args.keys.now.entries c.retain.new.self.entries c.retain.ensures.filtered)
    ∙ by_reference-map change c.args.keys.now.entries
