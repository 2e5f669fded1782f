-- When a rule says of true facts what is not so, and when it does not say what is.
use Rattle.std.specs.Prelude.{◌≡◌, ℕ, ◌<◌, true, false, List, Some}
use Rattle.definitions.specs.Name.{Name, at_or_above}
use Rattle.definitions.specs.Zone.{Zone, Verdict, verdict, apex_of}
use Rattle.definitions.specs.ZoneChain.{Mode, optout_of}
use Rattle.denial_laws.specs.Facts.{Facts}
use Rattle.denial_laws.specs.Deciding.{decided}
use Rattle.denial_laws.specs.Truth.{IsServable, NoSharedHash, AreTrue}
use Rattle.denial_laws.specs.OwnFacts.{own_facts}
use Rattle.denial_laws.specs.Aliases.{is_aliased}
use Rattle.denial_laws.specs.Laws.{IsSaidBy, is_asked_type}
use Rattle.counterexamples_denial.specs.Choices.{Rule, right}
use Rattle.counterexamples_denial.specs.Mistakes.{decided_with}

-- There is a zone with a chain of a mode, and facts that are true of it, of which the rule makes what the zone does not say:
-- another verdict, or one on an alias. All premises of `TrueFactsDecideTruly` hold.
pub record DecidesFalsely (rule : Rule) (mode : Mode) : Type 0 where
  pub zone : Zone
  pub hash : Name → List ℕ
  pub facts : Facts
  pub name : Name
  pub rtype : ℕ
  pub said : Verdict
  pub servable : IsServable zone
  pub fits : rtype < 65536
  pub holds : AreTrue zone hash mode name rtype facts
  pub says : rule zone.name hash facts name rtype ≡ Some said
  pub otherwise : IsSaidBy zone (optout_of mode) name rtype said → ⊥

-- There is a zone with a chain of a mode, of whose own answer to a question the rule does not make its verdict. All premises
-- of `OwnAnswersDecide` hold.
pub record MissesOwnAnswer (rule : Rule) (mode : Mode) : Type 0 where
  pub zone : Zone
  pub hash : Name → List ℕ
  pub name : Name
  pub rtype : ℕ
  pub servable : IsServable zone
  pub unshared : NoSharedHash zone hash mode name
  pub fits : rtype < 65536
  pub inside : at_or_above (apex_of zone) name ≡ true
  pub asked : is_asked_type rtype ≡ true
  pub unaliased : is_aliased zone (optout_of mode) name rtype ≡ false
  pub misses :
      rule zone.name hash (own_facts zone hash mode name rtype) name rtype ≡ Some (verdict zone (optout_of mode) name rtype) → ⊥

-- With all choices made rightly the rules are those of `denial_laws`.
abbrev pub RightChoicesAreTheRules : Type 0
RightChoicesAreTheRules =
    (apex : Name) (hash : Name → List ℕ) (f : Facts) (q : Name) (t : ℕ) → decided_with right apex hash f q t ≡ decided apex hash f q t

-- So they never decide falsely, and miss no zone's own answer.
abbrev pub RightChoicesAreNeverFalse : Type 0
RightChoicesAreNeverFalse = (mode : Mode) → DecidesFalsely (decided_with right) mode → ⊥

abbrev pub RightChoicesMissNothing : Type 0
RightChoicesMissNothing = (mode : Mode) → MissesOwnAnswer (decided_with right) mode → ⊥
