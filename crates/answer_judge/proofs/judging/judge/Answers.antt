use Rattle.std.proofs.Common.{inl, refl}
use Rattle.answer_judge.proofs.judging.judge.Goals as goal

pub returns-clause-lasts : goal.returns-clause-lasts
returns-clause-lasts g c = c.judge.ensures.lasts (g.C.Checks.answers c.args.checks.now).verifies (inl refl)
