use Rattle.std.proofs.Common.{ℕ, List, ◌++◌, length, subst, append_assoc}
use Rattle.std.specs.Prelude.{OnOk, OnErr}
use Rattle.definitions.specs.Name.{wire}
use Rattle.names_wire.specs.Room.{LeavesRoom}
use Rattle.names_wire.proofs.OnError.{on_err}
use Rattle.names_wire.proofs.Room.{lacks_first, full_second, left_second}
use Rattle.denial_data.specs.Protos.{numbers_octets}
use Rattle.denial_data.proofs.rrsig.compose_signed.Goals as goal

pub returns-in_err-compose_fields-clause-full : goal.returns-in_err-compose_fields-clause-full
returns-in_err-compose_fields-clause-full g c =
    let lacks = g.B.OctetsBuilder.lacks_room in
    let old = c.args.target.now in
    let mid = c.compose_fields.new.target in
    let rrsig = c.rrsig.inside in
    let numbers = numbers_octets rrsig.proto.numbers in
    let signer = (wire (g.N.Labels.name rrsig.proto.signer_name)) in
    let regrouped = append_assoc numbers signer rrsig.signature in
    rw (← c.rrsig.view_is) (on_err c.from_residual.result (subst (λ (s : List ℕ). lacks old (length s)) regrouped
    (lacks_first lacks g.met.B.OctetsBuilder.grows old (numbers ++ signer) rrsig.signature c.in_err-compose_fields.ensures.full)))

pub returns-clause-full : goal.returns-clause-full
returns-clause-full g c =
    let lacks = g.B.OctetsBuilder.lacks_room in
    let old = c.args.target.now in
    let mid = c.compose_fields.new.target in
    let rrsig = c.rrsig.inside in
    let numbers = numbers_octets rrsig.proto.numbers in
    let signer = (wire (g.N.Labels.name rrsig.proto.signer_name)) in
    let regrouped = append_assoc numbers signer rrsig.signature in
    let r = c.append_slice.result in
    let last = subst (λ (s : List ℕ). OnErr r (lacks mid (length s))) c.as_slice.ensures c.append_slice.ensures.full in
    rw (← c.rrsig.view_is) (subst (λ (s : List ℕ). OnErr r (lacks old (length s))) regrouped
    (full_second lacks r old mid (numbers ++ signer) rrsig.signature c.in_ok-compose_fields.ensures.left last))

pub returns-clause-left : goal.returns-clause-left
returns-clause-left g c =
    let lacks = g.B.OctetsBuilder.lacks_room in
    let old = c.args.target.now in
    let mid = c.compose_fields.new.target in
    let rrsig = c.rrsig.inside in
    let numbers = numbers_octets rrsig.proto.numbers in
    let signer = (wire (g.N.Labels.name rrsig.proto.signer_name)) in
    let regrouped = append_assoc numbers signer rrsig.signature in
    let r = c.append_slice.result in
    let new = c.append_slice.new.self in
    let last = subst (λ (s : List ℕ). OnOk r (LeavesRoom lacks mid new (length s))) c.as_slice.ensures c.append_slice.ensures.left in
    rw (← c.rrsig.view_is) (subst (λ (s : List ℕ). OnOk r (LeavesRoom lacks old new (length s))) regrouped
    (left_second lacks r old mid new (numbers ++ signer) rrsig.signature c.in_ok-compose_fields.ensures.left last))
