use Rattle.std.proofs.Common.{List, length, subst, ℕ, ◌++◌, ◌≡◌}
use Rattle.std.specs.Prelude.{OnErr, OnOk}
use Rattle.names_wire.specs.Room.{LeavesRoom}
use Rattle.names_wire.proofs.OnError.{on_err}
use Rattle.names_wire.proofs.Room.{full_second, lacks_first, lacks_second, left_second}
use Rattle.definitions.specs.Name.{wire}
use Rattle.denial_nsec_data.proofs.nsec.compose_fields.Goals as goal

pub returns-in_err-compose_name-clause-full : goal.returns-in_err-compose_name-clause-full
returns-in_err-compose_name-clause-full g c =
    let lacks = g.B.OctetsBuilder.lacks_room in
    let grows = g.met.B.OctetsBuilder.grows in
    let old = c.args.target.now in
    let nsec = c.nsec.inside in
    rw (← c.nsec.view_is) (on_err c.from_residual.result (lacks_first lacks grows old (wire (g.N.Labels.name nsec.next_name)) nsec.types c.in_err-compose_name.ensures.full))

pub returns-clause-full : goal.returns-clause-full
returns-clause-full g c =
    let lacks = g.B.OctetsBuilder.lacks_room in
    let old = c.args.target.now in
    let nsec = c.nsec.inside in
    rw (← c.nsec.view_is) (full_second lacks c.append_slice.result old c.compose_name.new.target (wire (g.N.Labels.name nsec.next_name)) nsec.types c.in_ok-compose_name.ensures.left (subst (λ (s : List ℕ). OnErr c.append_slice.result (lacks c.compose_name.new.target (length s))) c.as_slice.ensures.value c.append_slice.ensures.full))

pub returns-clause-left : goal.returns-clause-left
returns-clause-left g c =
    let lacks = g.B.OctetsBuilder.lacks_room in
    let old = c.args.target.now in
    let nsec = c.nsec.inside in
    rw (← c.nsec.view_is) (left_second lacks c.append_slice.result old c.compose_name.new.target c.append_slice.new.self (wire (g.N.Labels.name nsec.next_name)) nsec.types c.in_ok-compose_name.ensures.left (subst (λ (s : List ℕ). OnOk c.append_slice.result (LeavesRoom lacks c.compose_name.new.target c.append_slice.new.self (length s))) c.as_slice.ensures.value c.append_slice.ensures.left))
