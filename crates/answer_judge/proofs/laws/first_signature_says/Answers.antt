use Rattle.std.proofs.Common.{sym}
use Rattle.definitions.specs.Limits.{pointer_limit}
use Rattle.answer_judge_facts.proofs.JudgeMarks.{by_is}
use Rattle.answer_judge.proofs.FirstSigns.{first_of}
use Rattle.answer_judge.proofs.laws.first_signature_says.Goals as goal

pub returns : goal.returns
returns c = record {
  verified = λ w h. sym (by_is w pointer_limit h.message h.records h.owner h.rtype h.items);
  first = λ w h f e. first_of w h.message h.owner h.rtype h.items h.records f e;
}
