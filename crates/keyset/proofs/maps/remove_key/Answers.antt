use Rattle.std.proofs.lemmas.Map.Text.{hash_map_updates_text}
use Rattle.keyset.proofs.KeyMaps.{by_reference-removed}
use Rattle.keyset.proofs.maps.remove_key.Goals as goal

pub returns : goal.returns
returns c =
    by_reference-removed c.args.keys.now.entries c.remove.new.self.entries c.args.reference.now
    (λ q. hash_map_updates_text c.args.reference.now c.args.keys.now c.remove.new.self _ c.remove.ensures.updates q)
