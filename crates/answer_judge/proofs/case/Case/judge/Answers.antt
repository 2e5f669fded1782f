use Rattle.std.proofs.Common.{inl, inr, ⊎_elim, refl, sym, subst, ap, arith, rules}
use Rattle.answer_scheme.specs.Answers.{with_test}
use Rattle.answer_judge.specs.Judging.{Refuses, Says}
use Rattle.answer_judge_rules.specs.Rules.{verdict_of}
use Rattle.answer_judge.proofs.Decided.{case_decided}
use Rattle.answer_judge.proofs.JudgeAsks.{case_passes}
use Rattle.answer_judge.proofs.JudgeLasts.{lasts_beyond}
use Rattle.answer_judge.proofs.JudgedWholly.{agrees_too, each_wholly, unjudged}
use Rattle.answer_judge.proofs.case.Case.judge.Goals as goal

pub returns-then-not-is_judged-clause-given : goal.returns-then-not-is_judged-clause-given
returns-then-not-is_judged-clause-given g c =
    let own = g.C.Checks.answers c.args.checks.now in
    (unjudged own c.args.self.now (omega (arith, c.limit_fits.ensures)) (search rules) (search rules)).given

pub returns-then-not-is_judged-clause-agreeing : goal.returns-then-not-is_judged-clause-agreeing
returns-then-not-is_judged-clause-agreeing g c = λ test agrees.
    let own = g.C.Checks.answers c.args.checks.now in
    (agrees, unjudged (with_test own test) c.args.self.now (omega (arith, c.limit_fits.ensures)) (search rules) (search rules))

pub returns-in-Ok : goal.returns-in-Ok
returns-in-Ok g c =
    let own = g.C.Checks.answers c.args.checks.now in
    let now = c.judge_messages.new.check_run.checks.now in
    let so = each_wholly own _ (g.C.Checks.agrees now) c.args.self.now (Says (verdict_of c.in-Ok.verdict)) c.judge_messages.new.check_run.count c.judge_messages.new.hashes
    (omega (arith, c.limit_fits.ensures)) (ap g.C.Checks.answers c.new-check_run.ensures.checks) (search rules) (search rules) (search rules)
    c.in-Ok.ensures.says in
    let mine = so own.verifies (inl refl) in record {
      judges = search rules;
      exact = mine.exact;
      given = mine.given;
      honest = mine.honest;
      timely = mine.timely;
      counts = mine.counts;
      hash_counts = mine.hash_counts;
      agreeing = λ test agrees.
          let agrees_now = agrees_too g.C.Checks.agrees _ now test agrees (search rules) in
          (subst (λ v. g.C.Checks.agrees v test) c.new-check_run.ensures.checks (c.in-Ok.ensures.agrees test agrees_now), so test (inr agrees_now));
      decided =
          case_decided own _ (g.C.Checks.agrees now) _ c.args.self.now c.judge_messages.new.check_run.count c.judge_messages.new.hashes
          (omega (arith, c.limit_fits.ensures)) (ap g.C.Checks.answers c.new-check_run.ensures.checks) (search rules) (search rules) c.in-Ok.ensures.bound
          (λ test agrees. agrees_too g.C.Checks.agrees _ now test agrees (search rules)) c.in-Ok.ensures.decided;
      lasts = λ test fits.
          let fit = ⊎_elim (λ e. inl e) (λ agrees. inr (agrees_too g.C.Checks.agrees _ now test agrees (search rules))) fits in
          lasts_beyond own _ (g.C.Checks.agrees now) c.args.self.now c.judge_messages.new.validity (ap g.C.Checks.answers c.new-check_run.ensures.checks) (search rules) c.in-Ok.ensures.lasts test fit;
      asked = λ test implies before.
          let passes = case_passes own _ c.args.self.now test (ap g.C.Checks.answers c.new-check_run.ensures.checks) (search rules) (search rules) implies in
          let asked_now = c.in-Ok.ensures.asked test passes (subst (λ v. g.C.Checks.asked_only v test) (sym c.new-check_run.ensures.checks) before) in
          agrees_too g.C.Checks.asked_only now _ test asked_now (search rules);
      verified = search rules;
      hashed = search rules;
      same = search rules;
    }

pub returns : goal.returns
returns g c =
    let own = g.C.Checks.answers c.args.checks.now in
    let now = c.judge_messages.new.check_run.checks.now in
    let so = each_wholly own _ (g.C.Checks.agrees now) c.args.self.now (Refuses c.in-Err.refusal) c.judge_messages.new.check_run.count c.judge_messages.new.hashes
    (omega (arith, c.limit_fits.ensures)) (ap g.C.Checks.answers c.new-check_run.ensures.checks) (search rules) (search rules) (search rules)
    c.in-Err.ensures.says in
    let mine = so own.verifies (inl refl) in record {
      judges = search rules;
      exact = mine.exact;
      given = mine.given;
      honest = mine.honest;
      timely = mine.timely;
      counts = mine.counts;
      hash_counts = mine.hash_counts;
      agreeing = λ test agrees.
          let agrees_now = agrees_too g.C.Checks.agrees _ now test agrees (search rules) in
          (subst (λ v. g.C.Checks.agrees v test) c.new-check_run.ensures.checks (c.in-Err.ensures.agrees test agrees_now), so test (inr agrees_now));
      decided =
          case_decided own _ (g.C.Checks.agrees now) _ c.args.self.now c.judge_messages.new.check_run.count c.judge_messages.new.hashes
          (omega (arith, c.limit_fits.ensures)) (ap g.C.Checks.answers c.new-check_run.ensures.checks) (search rules) (search rules) c.in-Err.ensures.bound
          (λ test agrees. agrees_too g.C.Checks.agrees _ now test agrees (search rules)) c.in-Err.ensures.decided;
      lasts = λ test fits. tt;
      asked = λ test implies before.
          let passes = case_passes own _ c.args.self.now test (ap g.C.Checks.answers c.new-check_run.ensures.checks) (search rules) (search rules) implies in
          let asked_now = c.in-Err.ensures.asked test passes (subst (λ v. g.C.Checks.asked_only v test) (sym c.new-check_run.ensures.checks) before) in
          agrees_too g.C.Checks.asked_only now _ test asked_now (search rules);
      verified = search rules;
      hashed = search rules;
      same = search rules;
    }
