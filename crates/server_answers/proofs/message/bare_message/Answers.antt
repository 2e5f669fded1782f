use Rattle.answer_publisher.specs.Replacing.{noted}
use Rattle.answer_publisher.specs.World.{AnswersQuestion, SpellsAnswer, world_of}
use Rattle.answer_terms.specs.Asking.{is_allowed}
use Rattle.messages.specs.Questions.{asked_of}
use Rattle.server_answers.specs.Responding.{unsigned}
use Rattle.server_answers.proofs.Choosing.{bare_by, latest_err, latest_ok, rest_either}
use Rattle.server_answers.proofs.message.bare_message.Goals as goal

pub returns-clause-bare : goal.returns-clause-bare
returns-clause-bare g c =
    let p = c.args.publisher.now in
    let w = world_of g.S.Scheme.signature_of g.S.Scheme.verifies g.S.Scheme.digest_of g.H.Nsec3Hasher.hash_of p in
    let asked = asked_of c.args.question.now in
    bare_by c.answer_with.result (is_allowed w.zone.apex asked) (AnswersQuestion (unsigned w) p.keys c.args.at.now asked) (SpellsAnswer (unsigned w) p.keys c.args.at.now asked) c.answer_with.ensures.allowed c.answer_with.ensures.bytes c.answer_with.ensures.given

pub returns-clause-noted : goal.returns-clause-noted
returns-clause-noted g c = latest_ok c.args.publisher.now c.answer_with.new.self (noted c.args.publisher.now.latest c.args.at.now) c.answer_with.result c.answer_with.ensures.noted

pub returns-clause-refused : goal.returns-clause-refused
returns-clause-refused g c = latest_err c.args.publisher.now c.answer_with.new.self c.answer_with.result c.answer_with.ensures.refused

pub returns-clause-rest : goal.returns-clause-rest
returns-clause-rest g c = rest_either c.args.publisher.now c.answer_with.new.self (noted c.args.publisher.now.latest c.args.at.now) c.answer_with.result c.answer_with.ensures.noted c.answer_with.ensures.refused
