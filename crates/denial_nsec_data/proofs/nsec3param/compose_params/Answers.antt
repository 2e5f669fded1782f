use Rattle.std.proofs.Common.{List, length, subst, ℕ, ◌++◌, ◌≡◌}
use Rattle.std.specs.Prelude.{OnErr, OnOk}
use Rattle.names_wire.specs.Room.{LeavesRoom}
use Rattle.names_wire.proofs.OnError.{on_err}
use Rattle.names_wire.proofs.Room.{full_second, lacks_first, lacks_second, left_second}
use Rattle.denial_fields.specs.Counted.{counted}
use Rattle.denial_nsec_data.specs.Hashed.{Nsec3paramData, nsec3param_head}
use Rattle.denial_nsec_data.proofs.nsec3param.compose_params.Goals as goal

pub returns-in_err-append_slice-clause-full : goal.returns-in_err-append_slice-clause-full
returns-in_err-append_slice-clause-full g c =
    let lacks = g.B.OctetsBuilder.lacks_room in
    let grows = g.met.B.OctetsBuilder.grows in
    let old = c.args.target.now in
    let params = c.args.params.now in
    on_err c.from_residual.result (lacks_first lacks grows old (nsec3param_head params) (counted params.salt) (subst (λ (s : List ℕ). lacks old (length s)) c.head.ensures c.in_err-append_slice.ensures.full))

pub returns-clause-full : goal.returns-clause-full
returns-clause-full g c =
    let lacks = g.B.OctetsBuilder.lacks_room in
    let old = c.args.target.now in
    let params = c.args.params.now in
    full_second lacks c.compose.result old c.append_slice.new.self (nsec3param_head params) (counted params.salt) (subst (λ (s : List ℕ). LeavesRoom lacks old c.append_slice.new.self (length s)) c.head.ensures c.in_ok-append_slice.ensures.left) (subst (λ (d : Nsec3paramData). OnErr c.compose.result (lacks c.append_slice.new.self (length (counted d.salt)))) c.params.view_is c.compose.ensures.full)

pub returns-clause-left : goal.returns-clause-left
returns-clause-left g c =
    let lacks = g.B.OctetsBuilder.lacks_room in
    let old = c.args.target.now in
    let params = c.args.params.now in
    left_second lacks c.compose.result old c.append_slice.new.self c.compose.new.target (nsec3param_head params) (counted params.salt) (subst (λ (s : List ℕ). LeavesRoom lacks old c.append_slice.new.self (length s)) c.head.ensures c.in_ok-append_slice.ensures.left) (subst (λ (d : Nsec3paramData). OnOk c.compose.result (LeavesRoom lacks c.append_slice.new.self c.compose.new.target (length (counted d.salt)))) c.params.view_is c.compose.ensures.left)
