use Rattle.answer_judge.proofs.HonestJudged.{answers_honest}
use Rattle.answer_judge.proofs.laws.no_bytes_bring_a_false_verdict.Goals as goal

pub returns : goal.returns
returns c = answers_honest
