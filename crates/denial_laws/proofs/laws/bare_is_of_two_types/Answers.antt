use Rattle.denial_laws.proofs.BareTypes.{bare_is_of_two_types}
use Rattle.denial_laws.proofs.laws.bare_is_of_two_types.Goals as goal

pub returns : goal.returns
returns c = bare_is_of_two_types
