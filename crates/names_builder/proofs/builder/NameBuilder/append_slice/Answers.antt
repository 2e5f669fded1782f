use Rattle.std.proofs.Common.{◌≤◌, Some, arith}
use Rattle.names_builder.specs.Building.{building, with_octets}
use Rattle.names_builder.proofs.Builds.{opens_at, builds, holds_building}
use Rattle.names_labels.proofs.Checks.{test_some}
use Rattle.names_builder.proofs.builder.NameBuilder.append_slice.Goals as goal
use Rattle.names_builder.proofs.builder.NameBuilder.append_slice.Goals.{then-open-eq0, else-open-eq0}

pub invariant_of-self-else-open-gt0 : goal.invariant_of-self-else-open-gt0
invariant_of-self-else-open-gt0 g c =
    let bs = g.B.OctetsBuilder.bytes c.self.inside.builder in
    let new = g.B.OctetsBuilder.bytes c.append_behind.new.builder in
    let heads : 1 ≤ c.if-open-eq0.heads = elim c.if-open-eq0.branch [ then-open-eq0 w ↦ omega arith | else-open-eq0 w ↦ omega arith ] in
    holds_building new (Some c.len-len.result) (with_octets c.args.self.now c.args.octets.now)
    (opens_at bs new c.self.inside.head (building bs c.self.inside.head) c.args.self.now c.args.octets.now c.len-len.result c.self.invariant c.self.view_is
    (omega (arith, c.open_len-open.ensures.value)) c.len-len.ensures.value (test_some c.args.octets.now _ c.is_empty.ensures c.if-is_empty.false) (omega arith) (omega (arith, heads)) c.in_ok-append_behind.ensures.ok)

pub returns-in_ok-append_behind-clause-ok : goal.returns-in_ok-append_behind-clause-ok
returns-in_ok-append_behind-clause-ok g c =
    let bs = g.B.OctetsBuilder.bytes c.self.inside.builder in
    let new = g.B.OctetsBuilder.bytes c.append_behind.new.builder in
    let heads : 1 ≤ c.if-open-eq0.heads = elim c.if-open-eq0.branch [ then-open-eq0 w ↦ omega arith | else-open-eq0 w ↦ omega arith ] in
    builds new (Some c.len-len.result) (with_octets c.args.self.now c.args.octets.now)
    (opens_at bs new c.self.inside.head (building bs c.self.inside.head) c.args.self.now c.args.octets.now c.len-len.result c.self.invariant c.self.view_is
    (omega (arith, c.open_len-open.ensures.value)) c.len-len.ensures.value (test_some c.args.octets.now _ c.is_empty.ensures c.if-is_empty.false) (omega arith) (omega (arith, heads)) c.in_ok-append_behind.ensures.ok)
