use Rattle.std.proofs.Common.{ap, ◌∙◌, ◌++◌, [], length, arith}
use Rattle.names_labels.specs.Flat.{spelled}
use Rattle.names_builder.specs.Building.{building, closed}
use Rattle.names_builder.proofs.Builds.{origin_at}
use Rattle.names_labels.proofs.Runs.{length-spelled_push}
use Rattle.names_builder.proofs.builder.NameBuilder.append_origin_octets.Goals as goal

pub returns-in-Ok-clause-ok : goal.returns-in-Ok-clause-ok
returns-in-Ok-clause-ok g c =
    let bs = g.B.OctetsBuilder.bytes c.self.inside.builder in
    let new = g.B.OctetsBuilder.bytes c.close.new.builder in
    let n = g.N.Labels.name c.args.origin.now in
    let run = g.met.N.Absolute.rooted c.args.origin.now in
    let w = c.close.ensures ∙ (λ t. closed ((c.in-Ok.ensures.ok ∙ ap (λ m. bs ++ spelled m) run) t) c.self.inside.head (c.open_len-open.ensures.value t)) in
    origin_at bs new c.self.inside.head (building bs c.self.inside.head) c.args.self n c.len-len.result c.self.invariant c.self.view_is w
    c.append_labels.ensures.name.labels c.len-len.ensures.value (omega (arith, ap (λ m. length (spelled m)) run, length-spelled_push n [], c.compose_len.ensures, c.from.ensures))
