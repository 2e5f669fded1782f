use Rattle.counterexamples_denial.proofs.SameRules.{same_rules, never_false, none_missed}
use Rattle.counterexamples_denial.proofs.laws.right_choices_are_the_rules.Goals as goal

pub returns-clause-same : goal.returns-clause-same
returns-clause-same c = same_rules

pub returns-clause-truly : goal.returns-clause-truly
returns-clause-truly c = never_false

pub returns-clause-fully : goal.returns-clause-fully
returns-clause-fully c = none_missed
