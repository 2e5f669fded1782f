use Rattle.std.proofs.Common.{◌∙◌, ap}
use Rattle.keyset.specs.KeyState.{phase_of}
use Rattle.keyset.proofs.KeyMaps.{lookup-by_kind, kind_eq, kind_tied}
use Rattle.keyset.proofs.set.KeySet.phase.Goals as goal

pub returns : goal.returns
returns c =
    c.copied.ensures ∙ c.get.ensures.value
    ∙ lookup-by_kind kind_eq kind_tied c.args.rolltype c.self.inside.rollstates.entries
    ∙ ap (λ s. phase_of s c.args.rolltype) c.self.view_is
