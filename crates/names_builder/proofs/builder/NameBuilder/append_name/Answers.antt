use Rattle.std.proofs.Common.{ap, ◌∙◌, ◌++◌, length, None, arith}
use Rattle.names_labels.specs.Flat.{spelled}
use Rattle.names_builder.specs.Building.{building, closed, with_labels}
use Rattle.names_builder.proofs.Builds.{behind_at, builds, holds_building, longer_labels}
use Rattle.names_builder.proofs.builder.NameBuilder.append_name.Goals as goal

pub invariant_of-self-2 : goal.invariant_of-self-2
invariant_of-self-2 g c =
    let bs = g.B.OctetsBuilder.bytes c.self.inside.builder in
    let new = g.B.OctetsBuilder.bytes c.close.new.builder in
    let n = g.N.Labels.name c.args.name.now in
    let run = g.met.N.Relative.unrooted c.args.name.now in
    let w = c.close.ensures ∙ (λ t. closed ((c.in_ok-append_labels.ensures.ok ∙ ap (λ m. bs ++ spelled m) run) t) c.self.inside.head (c.open_len-open.ensures.value t)) in
    holds_building new None (with_labels c.args.self.now n)
    (behind_at bs new c.self.inside.head (building bs c.self.inside.head) c.args.self.now n c.len-len.result c.self.invariant c.self.view_is w
    c.append_labels.ensures.name.labels c.len-len.ensures.value (omega (arith, ap (λ m. length (spelled m)) run, c.compose_len.ensures, c.from.ensures)))

pub returns-clause-ok : goal.returns-clause-ok
returns-clause-ok g c =
    let bs = g.B.OctetsBuilder.bytes c.self.inside.builder in
    let new = g.B.OctetsBuilder.bytes c.close.new.builder in
    let n = g.N.Labels.name c.args.name.now in
    let run = g.met.N.Relative.unrooted c.args.name.now in
    let w = c.close.ensures ∙ (λ t. closed ((c.in_ok-append_labels.ensures.ok ∙ ap (λ m. bs ++ spelled m) run) t) c.self.inside.head (c.open_len-open.ensures.value t)) in
    builds new None (with_labels c.args.self.now n)
    (behind_at bs new c.self.inside.head (building bs c.self.inside.head) c.args.self.now n c.len-len.result c.self.invariant c.self.view_is w
    c.append_labels.ensures.name.labels c.len-len.ensures.value (omega (arith, ap (λ m. length (spelled m)) run, c.compose_len.ensures, c.from.ensures)))

pub returns-clause-long_name : goal.returns-clause-long_name
returns-clause-long_name g c =
    let n = g.N.Labels.name c.args.name.now in
    let run = g.met.N.Relative.unrooted c.args.name.now in
    (λ e. cc, λ p. absurd (omega (arith, p, longer_labels c.args.self.now n, ap (λ m. length (spelled m)) run, c.len-len.ensures.value, c.compose_len.ensures, c.from.ensures)))
