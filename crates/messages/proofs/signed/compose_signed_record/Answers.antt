use Rattle.std.proofs.Common.{◌≡◌, ◌++◌, ◌∙◌, ap, length}
use Rattle.std.proofs.lemmas.Result.{on_ok_weaker}
use Rattle.definitions.specs.Name.{wire}
use Rattle.definitions.specs.Signing.{signed_owner}
use Rattle.denial_data.specs.Protos.{fields_of}
use Rattle.messages.specs.Rrsig.{record_numbers}
use Rattle.messages.proofs.SignOctets.{if_appended, record_written}
use Rattle.messages.proofs.signed.compose_signed_record.Goals as goal

pub returns : goal.returns
returns g c =
    let f = fields_of g.N.Labels.name c.args.fields.now in
    let old = c.args.out.now.items in
    let octets = c.args.rdata.now in
    let owner = wire (signed_owner f.labels c.args.owner.now) in
    let numbers = record_numbers f.covered c.args.class f.ttl (length octets) in
    let first : c.compose_signed_owner.new.out.items ≡ old ++ owner =
    c.in_ok-compose_signed_owner.ensures.ok ∙ (λ i. old ++ wire (signed_owner (c.labels.ensures i) c.args.owner.now)) in
    let second : c.record_numbers.result ≡ numbers = c.record_numbers.ensures ∙ (λ i. record_numbers (c.type_covered.ensures i) c.args.class (c.original_ttl.ensures i) (length octets)) in
    let both : c.extend_from_slice.new.self.items ≡ (old ++ owner) ++ numbers = c.in_ok-extend_from_slice.ensures.items ∙ (λ i. first i ++ second i) in
    record {
      ok = on_ok_weaker c.extend_from_slice-2.result (λ e. e ∙ ap (λ v. v ++ octets) both ∙ record_written old owner octets f.covered c.args.class f.ttl) (if_appended c.extend_from_slice-2.result _ _ _ c.extend_from_slice-2.ensures.items);
    }
