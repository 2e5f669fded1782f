use Rattle.names_parsed.proofs.PassSteps.{passes_names}
use Rattle.names_parsed.proofs.laws.what_is_read_is_passed_over.Goals as goal
use Rattle.definitions.specs.Limits.{pointer_limit}

pub returns : goal.returns
returns c = λ m p e n s. passes_names m p pointer_limit e n s.reads s.short
