use Rattle.alias_laws.proofs.Aliases.{aliases_led}
use Rattle.alias_laws.proofs.laws.aliases_are_led.Goals as goal

pub returns : goal.returns
returns c = aliases_led
