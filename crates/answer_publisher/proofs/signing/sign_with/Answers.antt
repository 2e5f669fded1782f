use Rattle.std.proofs.Common.{◌++◌, ◌∙◌, ap, Bor, List, ℕ}
use Rattle.answer_publisher.proofs.SignMade.{rrsig_made}
use Rattle.denial_data.specs.Protos as protos
use Rattle.answer_publisher.proofs.signing.sign_with.Goals as goal

pub returns-clause-made : goal.returns-clause-made
returns-clause-made g c =
    rrsig_made (g.S.Scheme.signature_of c.args.scheme.now) (g.S.Scheme.verifies c.args.scheme.now) c.args.terms.now.apex.now c.args.terms.now.at c.args.terms.now.life c.args.group.now c.args.key.now
    c.for_ref.result (protos.fields_of (λ (n : Bor (List (List ℕ))). n.now) c.fields_for-fields.result) c.owner.result.now _ c.in_ok-octets.octets.items c.deref.result.now c.in_ok-signature.signature.items c.new-data.result.items c.compose_fields.new.out.items _
    c.fields_for-fields.ensures.fields c.owner.ensures c.canonical.ensures c.in_ok-octets.ensures c.deref.ensures.value c.for_ref.ensures
    c.in_ok-signature.ensures.answer c.in_ok-signature.ensures.passes c.new-data.ensures.items c.in_ok-compose_fields.ensures.ok
    (c.in_ok-extend_from_slice.ensures.items ∙ ap (λ x. c.compose_fields.new.out.items ++ x) c.deref-2.ensures.value) c.fields_for-fields.ensures.tag
