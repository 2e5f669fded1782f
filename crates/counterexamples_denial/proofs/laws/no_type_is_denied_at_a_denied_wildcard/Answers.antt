use Rattle.counterexamples_denial.proofs.DeniedMistakes.{denied_wildcards_falsely}
use Rattle.counterexamples_denial.proofs.laws.no_type_is_denied_at_a_denied_wildcard.Goals as goal

pub returns : goal.returns
returns c = denied_wildcards_falsely
