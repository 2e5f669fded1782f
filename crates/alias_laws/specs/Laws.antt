-- Laws of zones that are accepted with aliases.
use Rattle.std.specs.Prelude.{◌≡◌, ℕ, ◌<◌, true, false, List, Some, None, Contains}
use Rattle.definitions.specs.Name.{Name}
use Rattle.definitions.specs.Zone.{verdict}
use Rattle.definitions.specs.ZoneChain.{Mode, optout_of}
use Rattle.denial_laws.specs.Aliases.{is_aliased}
use Rattle.denial_laws.specs.Deciding.{decided}
use Rattle.denial_laws.specs.OwnFacts.{own_facts}
use Rattle.denial_laws.specs.Truth.{IsServable, NoSharedHash}
use Rattle.messages.specs.Handed.{AreHanded}
use Rattle.messages.specs.HandedRr.{HandedRr}
use Rattle.messages.specs.Message.{Asked}
use Rattle.answer_terms.specs.Accepted.{IsAccepted}
use Rattle.answer_terms.specs.Accepting.{is_alias, zone_of}
use Rattle.answer_terms.specs.Asking.{is_allowed}
use Rattle.answer_terms.specs.Hashing.{Hasher}
use Rattle.answer_zone.specs.Finding.{finds, redirecting}
use Rattle.answer_zone_records.specs.AliasFaults.{HasTarget, IsAcceptedWithAliases}
use Rattle.answer_zone_records.specs.ZoneInOrder.{AreZoneRecords}
use Rattle.alias_laws.specs.Leading.{leads_elsewhere}

-- what is accepted without aliases is accepted with them
abbrev pub AcceptedIsAcceptedWithAliases : Type 0
AcceptedIsAcceptedWithAliases =
    (hasher : Hasher) (apex : Name) (mode : Mode) (limit : ℕ) (rs : List HandedRr)
    → IsAccepted hasher apex mode limit rs → IsAcceptedWithAliases hasher apex mode limit rs

-- a list that is accepted with aliases spells a zone that can be served
abbrev pub AcceptedWithAliasesIsServable : Type 0
AcceptedWithAliasesIsServable =
    (hasher : Hasher) (apex : Name) (mode : Mode) (limit : ℕ) (rs : List HandedRr)
    → IsAcceptedWithAliases hasher apex mode limit rs → IsServable (zone_of apex rs)

-- The facts of the own answer of a zone with aliases to an allowed question decide its verdict of a name that is no alias.
abbrev pub AnswersDecideUnlessAliased : Type 0
AnswersDecideUnlessAliased =
    (hasher : Hasher) (apex : Name) (mode : Mode) (limit : ℕ) (rs : List HandedRr) (hash : Name → List ℕ) (asked : Asked)
    → IsAcceptedWithAliases hasher apex mode limit rs → is_allowed apex asked ≡ true → asked.rtype < 65536
    → NoSharedHash (zone_of apex rs) hash mode asked.name → is_aliased (zone_of apex rs) (optout_of mode) asked.name asked.rtype ≡ false
    → decided apex hash (own_facts (zone_of apex rs) hash mode asked.name asked.rtype) asked.name asked.rtype
    ≡ Some (verdict (zone_of apex rs) (optout_of mode) asked.name asked.rtype)

-- each alias of a zone that is kept has a target
abbrev pub AliasesHaveTargets : Type 0
AliasesHaveTargets =
    (apex : Name) (rs : List HandedRr) (r : HandedRr)
    → AreZoneRecords apex rs → AreHanded apex rs → Contains rs r → is_alias r ≡ true → HasTarget r

-- A zone leads elsewhere exactly where the name is an alias for the type.
abbrev pub AliasesAreLed : Type 0
AliasesAreLed =
    (hasher : Hasher) (apex : Name) (mode : Mode) (limit : ℕ) (rs : List HandedRr) (name : Name) (t : ℕ)
    → IsAcceptedWithAliases hasher apex mode limit rs → is_aliased (zone_of apex rs) false name t ≡ leads_elsewhere (zone_of apex rs) name t

-- a list that is accepted without aliases leads nowhere
abbrev pub NoAliasLeadsNowhere : Type 0
NoAliasLeadsNowhere =
    (hasher : Hasher) (apex : Name) (mode : Mode) (limit : ℕ) (rs : List HandedRr) (name : Name)
    → IsAccepted hasher apex mode limit rs → (finds (zone_of apex rs) name 5 ≡ false) × (redirecting (zone_of apex rs) name ≡ None)

-- a DNAME that redirects a name is found at its owner
abbrev pub RedirectorsAreFound : Type 0
RedirectorsAreFound =
    (hasher : Hasher) (apex : Name) (mode : Mode) (limit : ℕ) (rs : List HandedRr) (name owner : Name)
    → IsAcceptedWithAliases hasher apex mode limit rs → redirecting (zone_of apex rs) name ≡ Some owner → finds (zone_of apex rs) owner 39 ≡ true

-- The facts of the own answer of a zone with aliases decide its verdict where it has the RRset that is asked for, of whatever type: so
-- of CNAME where that answers for an alias, and of DNAME at the name that redirects.
abbrev pub FoundAnswersDecide : Type 0
FoundAnswersDecide =
    (hasher : Hasher) (apex : Name) (mode : Mode) (limit : ℕ) (rs : List HandedRr) (hash : Name → List ℕ) (name : Name) (t : ℕ)
    → IsAcceptedWithAliases hasher apex mode limit rs → t < 65536 → NoSharedHash (zone_of apex rs) hash mode name
    → finds (zone_of apex rs) name t ≡ true
    → decided apex hash (own_facts (zone_of apex rs) hash mode name t) name t ≡ Some (verdict (zone_of apex rs) (optout_of mode) name t)
