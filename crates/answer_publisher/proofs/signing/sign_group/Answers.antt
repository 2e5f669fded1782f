use Rattle.answer_terms.specs.GroupView.{IsRrsigData}
use Rattle.answer_publisher.proofs.SignMade.{AllZip-pushed}
use Rattle.answer_publisher.proofs.signing.sign_group.Goals as goal

pub loop-key-preserved : goal.loop-key-preserved
loop-key-preserved g c =
    AllZip-pushed (IsRrsigData (g.S.Scheme.signature_of c.args.scheme.now) (g.S.Scheme.verifies c.args.scheme.now) c.args.terms.now.apex.now c.args.terms.now.at c.args.terms.now.life c.args.group.now)
    (λ d. d.items) c.args.keys.now c.loop-key.key-index c.loop-key.signatures.items _ c.key-item.result _
    c.loop-key-test.true c.key-item.is c.in_ok-push.ensures.items c.loop-key.invariant c.in_ok-sign_with.ensures.made
