-- Which names a server answers by an RRset of an alias.
use Rattle.std.specs.Prelude.{◌≡◌, true, false, Some}
use Rattle.std.specs.Option.{is_some}
use Rattle.definitions.specs.Zone.{Zone}
use Rattle.definitions.specs.ZoneChain.{Mode}
use Rattle.denial_laws.specs.Aliases.{is_aliased}
use Rattle.messages.specs.Message.{Asked}
use Rattle.answer_terms.specs.Asking.{is_allowed}
use Rattle.server_answers.specs.Aliases.{alias_of, is_answered}
use Rattle.server_answers.specs.World.{World, served_in}
use Rattle.server_answers.specs.Zones.{IsZone}

-- The question that an alias answers is one that the publisher answers: so no response refuses it.
abbrev pub AliasesAreAnswered : Type 0
AliasesAreAnswered = (mode : Mode) (z : Zone) (a b : Asked) → alias_of mode z a ≡ Some b → is_answered z.name b ≡ true

-- An allowed question to an accepted zone is answered by an alias exactly where the name is an alias for the type.
abbrev pub AllowedAreAliased : Type 0
AllowedAreAliased =
    (w : World) (a : Asked) → IsZone w → is_allowed w.zone.apex a ≡ true
    → is_some (alias_of w.zone.mode (served_in w).zone a) ≡ is_aliased (served_in w).zone false a.name a.rtype
