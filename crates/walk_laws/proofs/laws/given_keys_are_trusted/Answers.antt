use Rattle.walk_laws.proofs.Keys.{given_keys_are_trusted}
use Rattle.walk_laws.proofs.laws.given_keys_are_trusted.Goals as goal

pub returns : goal.returns
returns c = given_keys_are_trusted
