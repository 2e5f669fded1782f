use Rattle.std.proofs.Common.{◌<◌, ◌++◌, ap, ◌∙◌, subst}
use Rattle.std.proofs.lemmas.Result.{err_from_is_err_and}
use Rattle.answer_publisher.specs.Answering.{ahead_of_records}
use Rattle.messages.specs.Questions.{asked_of}
use Rattle.answer_publisher.proofs.Refusals.{first_refused, message_refused, second_refused}
use Rattle.answer_publisher.proofs.compose.compose_answer.Goals as goal

pub returns-in_err-answers-clause-refused : goal.returns-in_err-answers-clause-refused
returns-in_err-answers-clause-refused g c =
    let sign = g.S.Scheme.signature_of c.args.scheme.now in
    let verifies = g.S.Scheme.verifies c.args.scheme.now in
    let from = err_from_is_err_and c.from_residual.result c.from_residual.ensures.1 in
    rw (from.1, from.2) (first_refused sign verifies c.args.terms.now.apex.now c.args.terms.now.at c.args.terms.now.life c.args.keys.now (ahead_of_records (asked_of c.args.question.now)) c.args.answer.now c.args.authority.now
    c.in_err-answers.field-0.0 c.in_err-answers.ensures.refused)

pub returns-in_err-authorities-clause-refused : goal.returns-in_err-authorities-clause-refused
returns-in_err-authorities-clause-refused g c =
    let sign = g.S.Scheme.signature_of c.args.scheme.now in
    let verifies = g.S.Scheme.verifies c.args.scheme.now in
    let from = err_from_is_err_and c.from_residual-in_err-authorities.result c.from_residual-in_err-authorities.ensures.1 in
    rw (from.1, from.2) (second_refused sign verifies c.args.terms.now.apex.now c.args.terms.now.at c.args.terms.now.life c.args.keys.now (ahead_of_records (asked_of c.args.question.now)) c.args.answer.now c.args.authority.now
    c.in_ok-answers.answers.octets.items c.in_ok-answers.answers.count c.in_err-authorities.field-0.0 c.in_ok-answers.ensures.written c.in_err-authorities.ensures.refused)

pub returns-then-len-gt-LONGEST-clause-refused : goal.returns-then-len-gt-LONGEST-clause-refused
returns-then-len-gt-LONGEST-clause-refused g c =
    let sign = g.S.Scheme.signature_of c.args.scheme.now in
    let verifies = g.S.Scheme.verifies c.args.scheme.now in
    message_refused sign verifies c.args.terms.now.apex.now c.args.terms.now.at c.args.terms.now.life c.args.keys.now c.args.flags (asked_of c.args.question.now) c.args.answer.now c.args.authority.now
    c.in_ok-answers.answers.octets.items c.in_ok-authorities.authorities.octets.items c.new-out.result.items c.push_header.new.out.items c.push_question.new.out.items c.extend_from_slice.new.self.items c.extend_from_slice-2.new.self.items
    c.in_ok-answers.answers.count c.in_ok-authorities.authorities.count
    c.in_ok-answers.ensures.written c.in_ok-authorities.ensures.written c.new-out.ensures.items c.in_ok-push_header.ensures c.in_ok-push_question.ensures
    (c.in_ok-extend_from_slice.ensures.items ∙ ap (λ x. c.push_question.new.out.items ++ x) c.deref.ensures.value)
    (c.in_ok-extend_from_slice-2.ensures.items ∙ ap (λ x. c.extend_from_slice.new.self.items ++ x) c.deref-2.ensures.value)
    (subst (λ n. 65535 < n) (c.len.ensures ∙ c.extend_from_slice-2.new.self.ok.0) c.if-len-gt-LONGEST.true)
