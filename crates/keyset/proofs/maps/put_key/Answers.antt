use Rattle.std.specs.Prelude.{string_bytes}
use Rattle.std.proofs.lemmas.Map.Text.{hash_map_updates_text}
use Rattle.keyset.proofs.KeyMaps.{by_reference-put}
use Rattle.keyset.proofs.maps.put_key.Goals as goal

pub returns-clause-ok : goal.returns-clause-ok
returns-clause-ok c =
    by_reference-put c.args.keys.now.entries c.insert.new.self.entries (string_bytes c.args.reference) c.args.key
    (λ q. hash_map_updates_text (string_bytes c.args.reference) c.args.keys.now c.insert.new.self _ c.in_ok-insert.ensures.updates q)
