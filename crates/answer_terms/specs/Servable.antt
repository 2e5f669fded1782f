-- Zones that are accepted can be served, and questions that are allowed are decided by a zone's own answer.
use Rattle.std.specs.Prelude.{◌≡◌, ℕ, ◌<◌, Bool, true, false, List, Some}
use Rattle.definitions.specs.Name.{Name, at_or_above}
use Rattle.definitions.specs.Zone.{apex_of, verdict}
use Rattle.definitions.specs.ZoneChain.{Mode, optout_of}
use Rattle.denial_laws.specs.Aliases.{is_aliased}
use Rattle.denial_laws.specs.Truth.{IsServable, NoSharedHash}
use Rattle.denial_laws.specs.Laws.{is_asked_type}
use Rattle.denial_laws.specs.Deciding.{decided}
use Rattle.denial_laws.specs.OwnFacts.{own_facts}
use Rattle.messages.specs.HandedRr.{HandedRr}
use Rattle.messages.specs.Message.{Asked}
use Rattle.answer_terms.specs.Accepting.{zone_of}
use Rattle.answer_terms.specs.Accepted.{IsAccepted}
use Rattle.answer_terms.specs.Asking.{is_allowed}
use Rattle.answer_terms.specs.Hashing.{Hasher}

-- an accepted list spells a zone that can be served
abbrev pub AcceptedIsServable : Type 0
AcceptedIsServable = (hasher : Hasher) (apex : Name) (mode : Mode) (limit : ℕ) (rs : List HandedRr) → IsAccepted hasher apex mode limit rs → IsServable (zone_of apex rs)

-- and none of its names is an alias
abbrev pub AcceptedHasNoAlias : Type 0
AcceptedHasNoAlias =
    (hasher : Hasher) (apex : Name) (mode : Mode) (limit : ℕ) (rs : List HandedRr) → IsAccepted hasher apex mode limit rs
    → (optout : Bool) (name : Name) (t : ℕ) → is_aliased (zone_of apex rs) optout name t ≡ false

-- An allowed question asks for a type that is asked for, at or below the apex.
pub record IsAskedInside (apex : Name) (asked : Asked) : Type 0 where
  pub asked_type : is_asked_type asked.rtype ≡ true
  pub inside : (rs : List HandedRr) → at_or_above (apex_of (zone_of apex rs)) asked.name ≡ true

-- The facts of an accepted zone's own answer to an allowed question decide its verdict.
abbrev pub AllowedAnswersDecide : Type 0
AllowedAnswersDecide =
    (hasher : Hasher) (apex : Name) (mode : Mode) (limit : ℕ) (rs : List HandedRr) (hash : Name → List ℕ) (asked : Asked)
    → IsAccepted hasher apex mode limit rs → is_allowed apex asked ≡ true → asked.rtype < 65536 → NoSharedHash (zone_of apex rs) hash mode asked.name
    → decided apex hash (own_facts (zone_of apex rs) hash mode asked.name asked.rtype) asked.name asked.rtype
    ≡ Some (verdict (zone_of apex rs) (optout_of mode) asked.name asked.rtype)
