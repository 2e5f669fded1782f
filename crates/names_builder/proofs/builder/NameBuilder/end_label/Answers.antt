use Rattle.std.proofs.Common.{ap, ◌∙◌, ◌-◌, length, set, None}
use Rattle.names_builder.specs.Building.{building, ended}
use Rattle.names_builder.proofs.Builds.{ends_at, builds, holds_building}
use Rattle.names_builder.proofs.builder.NameBuilder.end_label.Goals as goal

pub invariant_of-self : goal.invariant_of-self
invariant_of-self g c =
    let bs = g.B.OctetsBuilder.bytes c.self.inside.builder in
    let new = g.B.OctetsBuilder.bytes c.set_octet.new.builder in
    holds_building new None (ended c.args.self.now)
    (ends_at bs new c.self.inside.head c.in-Some.head (building bs c.self.inside.head) c.args.self.now c.self.invariant c.self.view_is c.in-Some.is
    (c.set_octet.ensures ∙ ap (λ s. set bs c.in-Some.head (length s - c.in-Some.head - 1)) c.as_slice.ensures))

pub returns-in-Some : goal.returns-in-Some
returns-in-Some g c =
    let bs = g.B.OctetsBuilder.bytes c.self.inside.builder in
    let new = g.B.OctetsBuilder.bytes c.set_octet.new.builder in
    builds new None (ended c.args.self.now)
    (ends_at bs new c.self.inside.head c.in-Some.head (building bs c.self.inside.head) c.args.self.now c.self.invariant c.self.view_is c.in-Some.is
    (c.set_octet.ensures ∙ ap (λ s. set bs c.in-Some.head (length s - c.in-Some.head - 1)) c.as_slice.ensures))
