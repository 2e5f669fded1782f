use Rattle.std.proofs.Common.{ap, ◌∙◌}
use Rattle.names_builder.specs.Building.{closed, octets_of_building}
use Rattle.names_builder.proofs.Builds.{builds, holds_building}
use Rattle.names_builder.proofs.Fronts.{put_back}
use Rattle.names_builder.proofs.builder.NameBuilder.put_back.Goals as goal

pub invariant_of-self : goal.invariant_of-self
invariant_of-self g c =
    let new = g.B.OctetsBuilder.bytes c.close.new.builder in
    holds_building new c.args.head c.requires.0
    (put_back c.requires.0 c.args.self.now new (g.B.OctetsBuilder.bytes c.self.inside.builder) c.args.len c.args.head c.requires.1 (c.self.invariant.octets ∙ ap octets_of_building c.self.view_is)
    (c.close.ensures ∙ ap (λ t. closed t c.args.head 0) c.truncate.ensures))

pub returns : goal.returns
returns g c = λ before h.
    let new = g.B.OctetsBuilder.bytes c.close.new.builder in
    builds new c.args.head before
    (put_back before c.args.self.now new (g.B.OctetsBuilder.bytes c.self.inside.builder) c.args.len c.args.head h (c.self.invariant.octets ∙ ap octets_of_building c.self.view_is)
    (c.close.ensures ∙ ap (λ t. closed t c.args.head 0) c.truncate.ensures))
