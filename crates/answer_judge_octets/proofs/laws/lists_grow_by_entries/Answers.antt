use Rattle.answer_judge_octets.proofs.SpelledCases.{lists_grow}
use Rattle.answer_judge_octets.proofs.laws.lists_grow_by_entries.Goals as goal

pub returns : goal.returns
returns c = lists_grow
