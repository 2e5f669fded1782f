use Rattle.std.proofs.Common.{List, length, subst, ℕ, ◌++◌, ◌≡◌}
use Rattle.std.specs.Prelude.{OnErr, OnOk}
use Rattle.names_wire.specs.Room.{LeavesRoom}
use Rattle.names_wire.proofs.OnError.{on_err}
use Rattle.names_wire.proofs.Room.{full_second, lacks_first, lacks_second, left_second}
use Rattle.definitions.specs.Name.{wire}
use Rattle.denial_data.specs.Protos.{numbers_octets}
use Rattle.denial_data.proofs.proto_rrsig.compose_fields.Goals as goal

pub returns-in_err-append_slice-clause-full : goal.returns-in_err-append_slice-clause-full
returns-in_err-append_slice-clause-full g c =
    let lacks = g.B.OctetsBuilder.lacks_room in
    let grows = g.met.B.OctetsBuilder.grows in
    let old = c.args.target.now in
    let proto = c.args.proto.now in
    on_err c.from_residual.result (lacks_first lacks grows old (numbers_octets proto.numbers) (wire (g.N.Labels.name proto.signer_name)) (subst (λ (s : List ℕ). lacks old (length s)) c.octets.ensures c.in_err-append_slice.ensures.full))

pub returns-clause-full : goal.returns-clause-full
returns-clause-full g c =
    let lacks = g.B.OctetsBuilder.lacks_room in
    let old = c.args.target.now in
    let proto = c.args.proto.now in
    full_second lacks c.compose_name.result old c.append_slice.new.self (numbers_octets proto.numbers) (wire (g.N.Labels.name proto.signer_name)) (subst (λ (s : List ℕ). LeavesRoom lacks old c.append_slice.new.self (length s)) c.octets.ensures c.in_ok-append_slice.ensures.left) c.compose_name.ensures.full

pub returns-clause-left : goal.returns-clause-left
returns-clause-left g c =
    let lacks = g.B.OctetsBuilder.lacks_room in
    let old = c.args.target.now in
    let proto = c.args.proto.now in
    left_second lacks c.compose_name.result old c.append_slice.new.self c.compose_name.new.target (numbers_octets proto.numbers) (wire (g.N.Labels.name proto.signer_name)) (subst (λ (s : List ℕ). LeavesRoom lacks old c.append_slice.new.self (length s)) c.octets.ensures c.in_ok-append_slice.ensures.left) c.compose_name.ensures.left
