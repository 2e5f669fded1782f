use Rattle.std.proofs.Common.{rules, inl, refl, subst}
use Rattle.definitions.specs.Limits.{pointer_limit}
use Rattle.answer_scheme.specs.Answers.{Answers, answers_by}
use Rattle.answer_judge.specs.Honest.{AnswersHonest}
use Rattle.answer_judge.specs.Judging.{answer_of}
use Rattle.answer_judge.specs.Lasts.{LastsSo}
use Rattle.answer_judge.proofs.judging.by_scheme.counted.Goals as goal

pub returns-clause-judgement : goal.returns-clause-judgement
returns-clause-judgement g c = record {
  keeps = search rules;
  exact = search rules;
  counts = search rules;
  hash_counts = search rules;
  given = search rules;
  honest =
      subst (λ (a : Answers). AnswersHonest a pointer_limit c.args.case.now (answer_of c.judge.result))
      (λ i. answers_by g.S.Scheme.verifies g.S.Scheme.digest_of g.H.Nsec3Hasher.hash_of (c.new-checks.ensures.scheme i) (c.new-checks.ensures.hasher i))
      c.judge.ensures.honest;
  timely = search rules;
}

pub returns-clause-lasts : goal.returns-clause-lasts
returns-clause-lasts g c =
    let own = answers_by g.S.Scheme.verifies g.S.Scheme.digest_of g.H.Nsec3Hasher.hash_of in
    subst (λ (a : Answers). LastsSo pointer_limit a c.args.case.now c.judge.result)
    (λ i. own (c.new-checks.ensures.scheme i) (c.new-checks.ensures.hasher i))
    (c.judge.ensures.lasts _ (inl refl))
