use Rattle.message_laws.proofs.GivenAliased.{given_with_aliases_is_shown}
use Rattle.message_laws.proofs.GivenShown.{given_is_shown}
use Rattle.message_laws.proofs.laws.what_is_given_is_shown.Goals as goal

pub returns : goal.returns
returns c = record { plain = given_is_shown; aliases = given_with_aliases_is_shown }
