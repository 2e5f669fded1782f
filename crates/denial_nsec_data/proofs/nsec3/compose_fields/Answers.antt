use Rattle.std.proofs.Common.{List, length, subst, ℕ, ◌++◌, ◌≡◌}
use Rattle.std.specs.Prelude.{OnErr, OnOk}
use Rattle.names_wire.specs.Room.{LeavesRoom}
use Rattle.names_wire.proofs.OnError.{on_err}
use Rattle.names_wire.proofs.Room.{full_second, lacks_first, lacks_second, left_second}
use Rattle.denial_fields.specs.Counted.{counted}
use Rattle.denial_nsec_data.specs.Hashed.{nsec3param_octets}
use Rattle.denial_nsec_data.proofs.nsec3.compose_fields.Goals as goal

pub returns-in_err-compose_params-clause-full : goal.returns-in_err-compose_params-clause-full
returns-in_err-compose_params-clause-full g c =
    let lacks = g.B.OctetsBuilder.lacks_room in
    let grows = g.met.B.OctetsBuilder.grows in
    let old = c.args.target.now in
    let nsec3 = c.nsec3.inside in
    rw (← c.nsec3.view_is) (on_err c.from_residual.result (lacks_first lacks grows old (nsec3param_octets nsec3.params) ((counted nsec3.next_owner) ++ nsec3.types) c.in_err-compose_params.ensures.full))

pub returns-in_err-compose-clause-full : goal.returns-in_err-compose-clause-full
returns-in_err-compose-clause-full g c =
    let lacks = g.B.OctetsBuilder.lacks_room in
    let grows = g.met.B.OctetsBuilder.grows in
    let old = c.args.target.now in
    let nsec3 = c.nsec3.inside in
    rw (← c.nsec3.view_is) (on_err c.from_residual-in_err-compose.result (lacks_second lacks old c.compose_params.new.target (nsec3param_octets nsec3.params) ((counted nsec3.next_owner) ++ nsec3.types) c.in_ok-compose_params.ensures.left (lacks_first lacks grows c.compose_params.new.target (counted nsec3.next_owner) nsec3.types c.in_err-compose.ensures.full)))

pub returns-clause-full : goal.returns-clause-full
returns-clause-full g c =
    let lacks = g.B.OctetsBuilder.lacks_room in
    let old = c.args.target.now in
    let nsec3 = c.nsec3.inside in
    rw (← c.nsec3.view_is) (full_second lacks c.append_slice.result old c.compose_params.new.target (nsec3param_octets nsec3.params) ((counted nsec3.next_owner) ++ nsec3.types) c.in_ok-compose_params.ensures.left (full_second lacks c.append_slice.result c.compose_params.new.target c.compose.new.target (counted nsec3.next_owner) nsec3.types c.in_ok-compose.ensures.left (subst (λ (s : List ℕ). OnErr c.append_slice.result (lacks c.compose.new.target (length s))) c.as_slice.ensures.value c.append_slice.ensures.full)))

pub returns-clause-left : goal.returns-clause-left
returns-clause-left g c =
    let lacks = g.B.OctetsBuilder.lacks_room in
    let old = c.args.target.now in
    let nsec3 = c.nsec3.inside in
    rw (← c.nsec3.view_is) (left_second lacks c.append_slice.result old c.compose_params.new.target c.append_slice.new.self (nsec3param_octets nsec3.params) ((counted nsec3.next_owner) ++ nsec3.types) c.in_ok-compose_params.ensures.left (left_second lacks c.append_slice.result c.compose_params.new.target c.compose.new.target c.append_slice.new.self (counted nsec3.next_owner) nsec3.types c.in_ok-compose.ensures.left (subst (λ (s : List ℕ). OnOk c.append_slice.result (LeavesRoom lacks c.compose.new.target c.append_slice.new.self (length s))) c.as_slice.ensures.value c.append_slice.ensures.left)))
