use Rattle.std.proofs.Common.{◌∙◌, ◌<◌, length, subst, sym}
use Rattle.std.specs.Prelude.{IfOk}
use Rattle.answer_publisher.specs.Inputs.{answer_inputs}
use Rattle.answer_publisher.specs.World.{world_of}
use Rattle.messages.specs.Questions.{asked_of}
use Rattle.server_signatures.specs.Outcomes.{AnswersEach, IsSigned}
use Rattle.server_signatures.specs.Table.{missing}
use Rattle.answer_publisher.specs.Aliases.{is_answered}
use Rattle.answer_publisher.specs.declared.fault.AnswerFault.TheVariants as fault
use Rattle.server_signatures.specs.declared.answering.Signed.TheVariants as signed
use Rattle.server_signatures.proofs.EachScheme.{each_answer, each_refusal, given_too, is_other}
use Rattle.server_signatures.proofs.Wanting.{answer_wants}
use Rattle.server_signatures.proofs.answering.answer_by_table.Goals as goal

pub returns-in-Ok-clause-signed : goal.returns-in-Ok-clause-signed
returns-in-Ok-clause-signed g c =
    let p = c.args.publisher.now in
    let w = world_of g.S.Scheme.signature_of g.S.Scheme.verifies g.S.Scheme.digest_of g.H.Nsec3Hasher.hash_of p in
    each_answer c.args.table.now w p.keys c.args.now.now (asked_of c.args.question.now) c.in-Ok.message.items c.in-Ok.ensures.bytes c.in-Ok.ensures.given c.in-Ok.ensures.hashed

pub returns-else-is_sign_failed-clause-fault : goal.returns-else-is_sign_failed-clause-fault
returns-else-is_sign_failed-clause-fault g c =
    let p = c.args.publisher.now in
    let w = world_of g.S.Scheme.signature_of g.S.Scheme.verifies g.S.Scheme.digest_of g.H.Nsec3Hasher.hash_of p in
    each_refusal c.args.table.now w p.keys c.args.now.now (asked_of c.args.question.now) c.in-Err.fault
    (is_other c.in-Err.fault (sym c.is_sign_failed.ensures ∙ c.if-is_sign_failed.false)) c.in-Err.ensures.fault

pub returns-then-is_sign_failed-clause-signed : goal.returns-then-is_sign_failed-clause-signed
returns-then-is_sign_failed-clause-signed g c =
    let table = c.args.table.now in
    let at = c.args.now.now in
    let asked = asked_of c.args.question.now in
    let world = world_of g.S.Scheme.signature_of g.S.Scheme.verifies g.S.Scheme.digest_of g.H.Nsec3Hasher.hash_of in
    subst (λ q. IfOk c.missing_for.result (IsSigned table (AnswersEach table (world q) q.keys at asked) (answer_inputs (world q) q.keys at asked))) c.in-Err.ensures.refused c.missing_for.ensures.signed

pub missing_for-requires : goal.missing_for-requires
missing_for-requires g c =
    let table = c.args.table.now in
    let at = c.args.now.now in
    let asked = asked_of c.args.question.now in
    let p = c.args.publisher.now in
    let world = world_of g.S.Scheme.signature_of g.S.Scheme.verifies g.S.Scheme.digest_of g.H.Nsec3Hasher.hash_of in
    let wants = answer_wants table (world p) p.keys at asked c.in-Err.fault (sym c.is_sign_failed.ensures ∙ c.if-is_sign_failed.true) c.in-Err.ensures.fault in
    subst (λ q. 0 < length (missing table (answer_inputs (world q) q.keys at asked))) (sym c.in-Err.ensures.refused) wants

pub returns-in-Ok-clause-allowed : goal.returns-in-Ok-clause-allowed
returns-in-Ok-clause-allowed g c =
    let answered = is_answered c.args.publisher.now.zone.apex (asked_of c.args.question.now) in
    given_too c.in-Ok.message (signed.Message c.in-Ok.message) fault.QuestionNotAllowed answered c.in-Ok.ensures.allowed
