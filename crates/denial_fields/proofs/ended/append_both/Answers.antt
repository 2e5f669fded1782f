use Rattle.std.proofs.Common.{List, length, subst, ℕ, ◌++◌, ◌≡◌}
use Rattle.std.specs.Prelude.{OnErr, OnOk}
use Rattle.names_wire.specs.Room.{LeavesRoom}
use Rattle.names_wire.proofs.OnError.{on_err}
use Rattle.names_wire.proofs.Room.{full_second, lacks_first, lacks_second, left_second}
use Rattle.denial_fields.proofs.ended.append_both.Goals as goal

pub returns-in_err-append_slice-clause-full : goal.returns-in_err-append_slice-clause-full
returns-in_err-append_slice-clause-full g c =
    let lacks = g.B.OctetsBuilder.lacks_room in
    let grows = g.met.B.OctetsBuilder.grows in
    let old = c.args.target.now in
    on_err c.from_residual.result (lacks_first lacks grows old c.args.head.now c.args.rest.now c.in_err-append_slice.ensures.full)

pub returns-clause-full : goal.returns-clause-full
returns-clause-full g c =
    let lacks = g.B.OctetsBuilder.lacks_room in
    let old = c.args.target.now in
    full_second lacks c.append_slice-2.result old c.append_slice.new.self c.args.head.now c.args.rest.now c.in_ok-append_slice.ensures.left c.append_slice-2.ensures.full

pub returns-clause-left : goal.returns-clause-left
returns-clause-left g c =
    let lacks = g.B.OctetsBuilder.lacks_room in
    let old = c.args.target.now in
    left_second lacks c.append_slice-2.result old c.append_slice.new.self c.append_slice-2.new.self c.args.head.now c.args.rest.now c.in_ok-append_slice.ensures.left c.append_slice-2.ensures.left
