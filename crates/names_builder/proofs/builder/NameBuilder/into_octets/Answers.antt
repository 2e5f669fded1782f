use Rattle.std.proofs.Common.{ap, ◌∙◌}
use Rattle.names_builder.specs.Building.{building, closed}
use Rattle.names_builder.proofs.Builds.{finished_at}
use Rattle.names_builder.proofs.builder.NameBuilder.into_octets.Goals as goal

pub returns : goal.returns
returns g c =
    let bs = g.B.OctetsBuilder.bytes c.self.inside.builder in
    finished_at bs (g.B.OctetsBuilder.bytes c.close.new.builder) c.self.inside.head (building bs c.self.inside.head) c.args.self c.self.invariant c.self.view_is
    (c.close.ensures ∙ ap (λ k. closed bs c.self.inside.head k) c.open_len-open.ensures.value)
