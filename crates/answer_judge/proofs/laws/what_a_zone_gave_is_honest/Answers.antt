use Rattle.answer_judge.proofs.OwnMessages.{own_answers_are_honest, own_keys_are_honest}
use Rattle.answer_judge.proofs.laws.what_a_zone_gave_is_honest.Goals as goal

pub returns-clause-keys : goal.returns-clause-keys
returns-clause-keys c = own_keys_are_honest

pub returns-clause-answers : goal.returns-clause-answers
returns-clause-answers c = own_answers_are_honest
