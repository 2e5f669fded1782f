use Rattle.std.proofs.Common.{ap, ◌∙◌}
use Rattle.resolution_step.specs.Told.{told}
use Rattle.resolution_step.specs.declared.judged_step.Counts.{Counts}
use Rattle.resolution_step.proofs.Hashed.{sum_counted}
use Rattle.resolution_step.proofs.steps.delegated_step.Goals as goal

pub returns-clause-told : goal.returns-clause-told
returns-clause-told g c = record {
  below = told c.in_ok-below.below.step;
  below_validity = c.in_ok-below.below.validity;
  below_counts = c.in_ok-below.below.counts;
  told_is = c.in_ok-below.ensures.told;
  is = c.lasts.ensures.step ∙ c.at_cut.ensures;
  lasts = c.lasts.ensures.validity ∙ c.least_of-both.ensures;
  counted = c.lasts.ensures.counts ∙ c.plus-sums.ensures;
}

pub returns-clause-hashed : goal.returns-clause-hashed
returns-clause-hashed g c = sum_counted _ _ c.args.counts.hashes c.in_ok-below.below.counts.hashes _ c.in_ok-below.ensures.hashed (ap (λ (n : Counts). n.hashes) (c.lasts.ensures.counts ∙ c.plus-sums.ensures))
