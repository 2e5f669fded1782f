use Rattle.names_traits.proofs.Chained.{under_root}
use Rattle.names_traits.proofs.chain.Chain+L+Name+ref+slice+u8.rooted.Goals as goal

pub invariant_of-result : goal.invariant_of-result
invariant_of-result g c =
    under_root (g.L.Labels.labels c.args.left) _ (g.L.Labels.name c.args.left) c.label_count-count.ensures.name (g.met.L.Relative.unrooted c.args.left) c.root_ref.ensures
