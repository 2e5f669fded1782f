use Rattle.std.proofs.Common.{◌++◌, sym, subst, arith}
use Rattle.definitions.specs.Name.{Name, IsName}
use Rattle.names_labels.proofs.Runs.{length-spelled}
use Rattle.names_traits.proofs.Chained.{joined}
use Rattle.names_traits.proofs.chain.ChainLabels.label_count.Goals as goal

pub overflow_add-result : goal.overflow_add-result
overflow_add-result g c =
    let a = g.L.Labels.labels c.self.inside.left in
    let b = g.R.Labels.labels c.self.inside.right in
    omega (arith, c.label_count.ensures.count, c.label_count.ensures.short, length-spelled a, c.label_count-2.ensures.count, c.label_count-2.ensures.short, length-spelled b)

pub returns-clause-name : goal.returns-clause-name
returns-clause-name g c =
    let l = c.self.inside.left in
    let r = c.self.inside.right in
    let P : Name → Type 0 = λ n. IsName n in
    let front : IsName (g.L.Labels.labels l) = subst P (sym (g.met.L.Relative.unrooted l)) c.label_count.ensures.name in
    subst (λ v. IsName (v.left ++ g.R.Labels.name v.right)) c.self.view_is (joined (g.L.Labels.labels l) (g.R.Labels.name r) front c.label_count-2.ensures.name c.self.invariant)
