use Rattle.std.proofs.Common.{take, map}
use Rattle.std.specs.List.{AllZip}
use Rattle.answer_terms.specs.GroupView.{IsRrsigData}
use Rattle.answer_publisher.proofs.signing.sign_group.Given as goal

abbrev pub invariant-loop-key : goal.invariant-loop-key
invariant-loop-key g l = AllZip (IsRrsigData (g.S.Scheme.signature_of l.scheme) (g.S.Scheme.verifies l.scheme) l.terms.apex.now l.terms.at l.terms.life l.group) (take l.key-index l.keys) (map (λ d. d.items) l.signatures.items)
