use Rattle.std.proofs.Common.{arith, ◌≡◌, ◌++◌, ◌∙◌, ap, length, refl, take}
use Rattle.std.specs.List.{flat_map}
use Rattle.definitions.specs.Signing.{fields_data, signed_owner}
use Rattle.denial_data.specs.Protos.{fields_of}
use Rattle.messages.specs.Rrsig.{record_head, with_length}
use Rattle.messages.proofs.SignOctets.{one_more_signed, signed_octets_written}
use Rattle.messages.proofs.signed.compose_signed_octets.Goals as goal

pub loop-data-preserved : goal.loop-data-preserved
loop-data-preserved g c =
    let f = fields_of g.N.Labels.name c.args.fields.now in
    let head = record_head (signed_owner f.labels c.args.owner.now) f.covered c.args.class f.ttl in
    c.in_ok-compose_signed_record.ensures.ok
    ∙ (λ i. c.loop-data.invariant i ++ (head ++ with_length (c.as_slice.ensures i)))
    ∙ one_more_signed c.args.out.now.items (fields_data f) (λ v. head ++ with_length (g.Data.Octets.bytes v)) c.args.canonical.now c.loop-data.data-index c.data-item.result c.loop-data-test.true c.data-item.is

pub returns : goal.returns
returns g c =
    let f = fields_of g.N.Labels.name c.args.fields.now in
    let head = record_head (signed_owner f.labels c.args.owner.now) f.covered c.args.class f.ttl in
    let whole : c.loop-data.data-index ≡ length c.args.canonical.now = omega arith in
    let so_far = fields_data f ++ flat_map (λ v. head ++ with_length (g.Data.Octets.bytes v)) (take c.loop-data.data-index c.args.canonical.now) in
    record {
      ok = c.loop-data.invariant ∙ ap (λ octets. c.args.out.now.items ++ octets)
          (signed_octets_written g.Data.Octets.bytes f c.args.owner.now c.args.class c.args.canonical.now c.loop-data.data-index so_far refl whole);
    }
