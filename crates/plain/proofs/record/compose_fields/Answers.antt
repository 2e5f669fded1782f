use Rattle.std.proofs.Common.{List, length, subst, ℕ, ◌++◌, ◌≡◌}
use Rattle.std.specs.Prelude.{OnErr, OnOk}
use Rattle.names_wire.specs.Room.{LeavesRoom}
use Rattle.names_wire.proofs.OnError.{on_err}
use Rattle.names_wire.proofs.Room.{full_second, lacks_first, lacks_second, left_second}
use Rattle.definitions.specs.Name.{wire}
use Rattle.plain.specs.Records.{head_octets}
use Rattle.names_rdata.specs.Composing.{with_length}
use Rattle.plain.proofs.record.compose_fields.Goals as goal

pub returns-in_err-append_compressed_name-clause-full : goal.returns-in_err-append_compressed_name-clause-full
returns-in_err-append_compressed_name-clause-full g c =
    let lacks = g.B.OctetsBuilder.lacks_room in
    let grows = g.met.B.OctetsBuilder.grows in
    let old = c.args.target.now in
    let rr = c.args.rr.now in
    let name = g.N.Labels.name in
    let head = head_octets (g.D.RecordData.type_of rr.content) rr.class rr.ttl in
    on_err c.from_residual.result (lacks_first lacks grows old (wire (name rr.owner)) (head ++ (with_length (g.D.RecordData.rdata rr.content))) c.in_err-append_compressed_name.ensures.full)

pub returns-in_err-append_slice-clause-full : goal.returns-in_err-append_slice-clause-full
returns-in_err-append_slice-clause-full g c =
    let lacks = g.B.OctetsBuilder.lacks_room in
    let grows = g.met.B.OctetsBuilder.grows in
    let old = c.args.target.now in
    let rr = c.args.rr.now in
    let name = g.N.Labels.name in
    let head = head_octets (g.D.RecordData.type_of rr.content) rr.class rr.ttl in
    on_err c.from_residual-in_err-append_slice.result (lacks_second lacks old c.append_compressed_name.new.self (wire (name rr.owner)) (head ++ (with_length (g.D.RecordData.rdata rr.content))) c.in_ok-append_compressed_name.ensures.left (lacks_first lacks grows c.append_compressed_name.new.self head (with_length (g.D.RecordData.rdata rr.content)) (subst (λ (s : List ℕ). lacks c.append_compressed_name.new.self (length s)) c.head.ensures c.in_err-append_slice.ensures.full)))

pub returns-clause-full : goal.returns-clause-full
returns-clause-full g c =
    let lacks = g.B.OctetsBuilder.lacks_room in
    let old = c.args.target.now in
    let rr = c.args.rr.now in
    let name = g.N.Labels.name in
    let head = head_octets (g.D.RecordData.type_of rr.content) rr.class rr.ttl in
    full_second lacks c.compose_len_rdata.result old c.append_compressed_name.new.self (wire (name rr.owner)) (head ++ (with_length (g.D.RecordData.rdata rr.content))) c.in_ok-append_compressed_name.ensures.left (full_second lacks c.compose_len_rdata.result c.append_compressed_name.new.self c.append_slice.new.self head (with_length (g.D.RecordData.rdata rr.content)) (subst (λ (s : List ℕ). LeavesRoom lacks c.append_compressed_name.new.self c.append_slice.new.self (length s)) c.head.ensures c.in_ok-append_slice.ensures.left) c.compose_len_rdata.ensures.full)

pub returns-clause-left : goal.returns-clause-left
returns-clause-left g c =
    let lacks = g.B.OctetsBuilder.lacks_room in
    let old = c.args.target.now in
    let rr = c.args.rr.now in
    let name = g.N.Labels.name in
    let head = head_octets (g.D.RecordData.type_of rr.content) rr.class rr.ttl in
    left_second lacks c.compose_len_rdata.result old c.append_compressed_name.new.self c.compose_len_rdata.new.target (wire (name rr.owner)) (head ++ (with_length (g.D.RecordData.rdata rr.content))) c.in_ok-append_compressed_name.ensures.left (left_second lacks c.compose_len_rdata.result c.append_compressed_name.new.self c.append_slice.new.self c.compose_len_rdata.new.target head (with_length (g.D.RecordData.rdata rr.content)) (subst (λ (s : List ℕ). LeavesRoom lacks c.append_compressed_name.new.self c.append_slice.new.self (length s)) c.head.ensures c.in_ok-append_slice.ensures.left) c.compose_len_rdata.ensures.left)
