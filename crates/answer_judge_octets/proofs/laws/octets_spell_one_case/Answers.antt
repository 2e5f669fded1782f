use Rattle.answer_judge_octets.proofs.SpelledCases.{one_case}
use Rattle.answer_judge_octets.proofs.laws.octets_spell_one_case.Goals as goal

pub returns : goal.returns
returns c = one_case
