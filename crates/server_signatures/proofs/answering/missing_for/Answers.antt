use Rattle.std.proofs.Common.{◌∙◌, ◌<◌, List, ap, length, subst, sym}
use Rattle.answer_publisher.specs.Inputs.{Input}
use Rattle.answer_publisher.specs.World.{world_of}
use Rattle.messages.specs.Questions.{asked_of}
use Rattle.server_signatures.specs.Table.{missing}
use Rattle.answer_publisher.specs.Aliases.{is_answered}
use Rattle.answer_publisher.specs.declared.fault.AnswerFault.TheVariants as fault
use Rattle.server_signatures.specs.declared.answering.Signed.TheVariants as signed
use Rattle.server_signatures.proofs.EachScheme.{given_too, inputs_refused}
use Rattle.server_signatures.proofs.answering.missing_for.Goals as goal

pub returns-in-Err-clause-fault : goal.returns-in-Err-clause-fault
returns-in-Err-clause-fault g c =
    let p = c.args.publisher.now in
    let w = world_of g.S.Scheme.signature_of g.S.Scheme.verifies g.S.Scheme.digest_of g.H.Nsec3Hasher.hash_of p in
    inputs_refused c.args.table.now w p.keys c.args.now.now (asked_of c.args.question.now) c.in-Err.fault c.in-Err.ensures.fault

pub returns-in-Ok-clause-signed : goal.returns-in-Ok-clause-signed
returns-in-Ok-clause-signed g c =
    let is = c.missing.ensures ∙ ap (missing c.args.table.now) c.in-Ok.ensures.inputs in
    (is, subst (λ (l : List Input). 0 < length l) (sym is) c.requires)

pub returns-in-Ok-clause-allowed : goal.returns-in-Ok-clause-allowed
returns-in-Ok-clause-allowed g c =
    let answered = is_answered c.args.publisher.now.zone.apex (asked_of c.args.question.now) in
    given_too c.in-Ok.inputs (signed.Missing c.missing.result) fault.QuestionNotAllowed answered c.in-Ok.ensures.allowed
