use Rattle.std.proofs.Common.{◌≡◌, ℕ, List, subst, length, ◌++◌}
use Rattle.std.specs.Prelude.{OnOk, OnErr}
use Rattle.definitions.specs.Name.{wire}
use Rattle.plain.specs.Soa.{times_octets}
use Rattle.plain.proofs.Appending.{three_parts}
use Rattle.names_wire.specs.Room.{LeavesRoom}
use Rattle.names_wire.proofs.OnError.{on_err}
use Rattle.names_wire.proofs.Room.{full_second, lacks_first, lacks_second, left_second}
use Rattle.plain.proofs.soa.compose_fields.Goals as goal

pub returns-clause-ok : goal.returns-clause-ok
returns-clause-ok g c =
    let bytes = g.B.OctetsBuilder.bytes in
    let soa = c.args.soa.now in
    let P : List ℕ → Type 0 = λ octets. OnOk c.append_slice.result (bytes c.append_slice.new.self ≡ octets) in
    subst P (
    three_parts (bytes c.args.target.now) (bytes c.append_compressed_name.new.self) (bytes c.append_compressed_name-2.new.self)
    (wire (g.N.Labels.name soa.mname)) (wire (g.N.Labels.name soa.rname)) (times_octets soa.times) c.octets.result
    c.in_ok-append_compressed_name.ensures.ok c.in_ok-append_compressed_name-2.ensures.ok c.octets.ensures
    ) c.append_slice.ensures.ok

pub returns-in_err-append_compressed_name-clause-full : goal.returns-in_err-append_compressed_name-clause-full
returns-in_err-append_compressed_name-clause-full g c =
    let lacks = g.B.OctetsBuilder.lacks_room in
    let grows = g.met.B.OctetsBuilder.grows in
    let old = c.args.target.now in
    let soa = c.args.soa.now in
    let name = g.N.Labels.name in
    on_err c.from_residual.result (lacks_first lacks grows old (wire (name soa.mname)) ((wire (name soa.rname)) ++ (times_octets soa.times)) c.in_err-append_compressed_name.ensures.full)

pub returns-in_err-append_compressed_name-2-clause-full : goal.returns-in_err-append_compressed_name-2-clause-full
returns-in_err-append_compressed_name-2-clause-full g c =
    let lacks = g.B.OctetsBuilder.lacks_room in
    let grows = g.met.B.OctetsBuilder.grows in
    let old = c.args.target.now in
    let soa = c.args.soa.now in
    let name = g.N.Labels.name in
    on_err c.from_residual-in_err-append_compressed_name-2.result (lacks_second lacks old c.append_compressed_name.new.self (wire (name soa.mname)) ((wire (name soa.rname)) ++ (times_octets soa.times)) c.in_ok-append_compressed_name.ensures.left (lacks_first lacks grows c.append_compressed_name.new.self (wire (name soa.rname)) (times_octets soa.times) c.in_err-append_compressed_name-2.ensures.full))

pub returns-clause-full : goal.returns-clause-full
returns-clause-full g c =
    let lacks = g.B.OctetsBuilder.lacks_room in
    let old = c.args.target.now in
    let soa = c.args.soa.now in
    let name = g.N.Labels.name in
    full_second lacks c.append_slice.result old c.append_compressed_name.new.self (wire (name soa.mname)) ((wire (name soa.rname)) ++ (times_octets soa.times)) c.in_ok-append_compressed_name.ensures.left (full_second lacks c.append_slice.result c.append_compressed_name.new.self c.append_compressed_name-2.new.self (wire (name soa.rname)) (times_octets soa.times) c.in_ok-append_compressed_name-2.ensures.left (subst (λ (s : List ℕ). OnErr c.append_slice.result (lacks c.append_compressed_name-2.new.self (length s))) c.octets.ensures c.append_slice.ensures.full))

pub returns-clause-left : goal.returns-clause-left
returns-clause-left g c =
    let lacks = g.B.OctetsBuilder.lacks_room in
    let old = c.args.target.now in
    let soa = c.args.soa.now in
    let name = g.N.Labels.name in
    left_second lacks c.append_slice.result old c.append_compressed_name.new.self c.append_slice.new.self (wire (name soa.mname)) ((wire (name soa.rname)) ++ (times_octets soa.times)) c.in_ok-append_compressed_name.ensures.left (left_second lacks c.append_slice.result c.append_compressed_name.new.self c.append_compressed_name-2.new.self c.append_slice.new.self (wire (name soa.rname)) (times_octets soa.times) c.in_ok-append_compressed_name-2.ensures.left (subst (λ (s : List ℕ). OnOk c.append_slice.result (LeavesRoom lacks c.append_compressed_name-2.new.self c.append_slice.new.self (length s))) c.octets.ensures c.append_slice.ensures.left))
