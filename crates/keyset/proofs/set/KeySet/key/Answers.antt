use Rattle.std.proofs.Common.{sym, ap, ◌∙◌}
use Rattle.keyset.specs.KeyState.{key_of}
use Rattle.keyset.proofs.KeyMaps.{find-by_reference}
use Rattle.keyset.proofs.set.KeySet.key.Goals as goal

pub returns : goal.returns
returns c =
    c.get.ensures.value ∙ sym (find-by_reference c.args.reference.now c.self.inside.keys.entries)
    ∙ ap (λ s. key_of s c.args.reference.now) c.self.view_is
