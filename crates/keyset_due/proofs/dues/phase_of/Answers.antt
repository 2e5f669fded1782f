use Rattle.std.proofs.Common.{◌∙◌, ap}
use Rattle.std.specs.FinMap.Entries.{find}
use Rattle.keyset.specs.KeyState.{kind_cmp}
use Rattle.keyset.proofs.KeyMaps.{lookup-by_kind, kind_eq, kind_tied}
use Rattle.keyset_due.proofs.dues.phase_of.Goals as goal

pub returns : goal.returns
returns c =
    c.copied.ensures ∙ c.get.ensures.value
    ∙ lookup-by_kind kind_eq kind_tied c.args.rolltype c.rollstates.result.now.entries
    ∙ ap (λ rs. find kind_cmp c.args.rolltype rs) c.rollstates.ensures
