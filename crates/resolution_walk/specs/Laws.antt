-- Laws of walks: what they say stays proved and agrees; what they want is new, and little.
use Rattle.std.specs.Prelude.{◌≡◌, ℕ, ◌+◌, ◌<◌, length, true, false, List, [], ◌∷◌, map, Some, Contains}
use Rattle.std.specs.Global.{Vec}
use Rattle.std.specs.List.{AllByRecursion}
use Rattle.definitions.specs.Name.{Name, at_or_above, same}
use Rattle.messages.specs.Message.{Asked}
use Rattle.answer_judge_facts.specs.declared.validity.Validity.{Validity}
use Rattle.tree_laws.specs.Laws.{AreAlike}
use Rattle.tree_laws.specs.Tree.{Said}
use Rattle.evidence_laws.specs.Given.{Given, Message, is_answer}
use Rattle.evidence_laws.specs.Staying.{HasOctets, IsWithinValidity, ProvesThrough, at_time}
use Rattle.evidence_laws.specs.Truth.{IsOfTree, SignedZone}
use Rattle.evidence_laws.specs.Walking.{renamed}
use Rattle.resolution_walk.specs.Ended.{IsWalked, said_of}
use Rattle.resolution_walk.specs.Stopping.{StopsWithin}
use Rattle.resolution_walk.specs.Truth.{last_of}
use Rattle.resolution_walk.specs.Wanted.{wanted_of}
use Rattle.resolution_walk.specs.declared.ending.Ending.TheVariants as ends
use Rattle.resolution_walk.specs.declared.ending.Walk.{Walk}
use Rattle.resolution_walk.specs.declared.ending.Wanted.{Wanted}
use Rattle.resolution_walk.specs.declared.walk.Limits.{Limits}

-- ---- how long what is said stands

-- What a walk says, its evidence proves at each moment from there up to the last second that this lasts, through the same names.
abbrev pub WalksStayProved : Type 0
WalksStayProved =
    (e : Given) (asked : Asked) (w : Walk) (said : Said) (l : Validity) (later : ℕ)
    → HasOctets e → IsWalked e asked w → said_of w.ending ≡ Some said → w.validity ≡ Some l → IsWithinValidity e.at later l
    → ProvesThrough (at_time later e) said asked w.through.items

-- Two walks over evidence of one tree, at whatever moments, say no two things.
abbrev pub WalksAgree : Type 0
WalksAgree =
    (e f : Given) (zones : List SignedZone) (anchor : SignedZone) (asked : Asked) (v w : Walk) (said other : Said)
    → IsOfTree e asked.class zones anchor → IsOfTree f asked.class zones anchor → f.algorithms ≡ e.algorithms
    → IsWalked e asked v → IsWalked f asked w → said_of v.ending ≡ Some said → said_of w.ending ≡ Some other
    → (v.through.items ≡ w.through.items) × AreAlike said other

-- ---- what is wanted

-- a name and those above it, without the root
abbrev pub tails : Name → List Name
tails [] = []
tails (l ∷ n) = (l ∷ n) ∷ tails n

-- What may be wanted of a zone for a question: its keys, its answer to the question, and those for DS at the question's name and the
-- names above.
abbrev pub may_be_wanted : Name → Asked → List Wanted
may_be_wanted zone asked = wanted_of zone zone 48 ∷ wanted_of zone asked.name asked.rtype ∷ map (λ n. wanted_of zone n 43) (tails asked.name)

-- one of such, its name with capitals or without
pub record IsOneOf (may : List Wanted) (x : Wanted) : Type 0 where
  pub like : Wanted
  pub there : Contains may like
  pub name_is : same x.name like.name ≡ true
  pub rtype_is : x.rtype ≡ like.rtype

-- a message of a zone that no message of the evidence answers, and one of those that may be wanted
pub record IsNewOf (e : Given) (zone : Name) (asked : Asked) (x : Wanted) : Type 0 where
  pub zone_is : x.zone ≡ zone
  pub unanswered : (m : Message) → Contains e.messages m → is_answer x.zone x.name x.rtype m ≡ false
  pub one_of : IsOneOf (may_be_wanted zone asked) x

-- Messages of a zone at or above the question's name, one at least; those that may be wanted of it are two more than the name has labels.
pub record AreFewOf (e : Given) (asked : Asked) (ws : List Wanted) : Type 0 where
  pub zone : Name
  pub above : at_or_above zone asked.name ≡ true
  pub some : 0 < length ws
  pub each : AllByRecursion (IsNewOf e zone asked) ws
  pub few : length (may_be_wanted zone asked) ≡ length asked.name + 2

-- Where a walk wants messages, these are new and few: of the question for the name at the end of aliases; and the evidence has fewer
-- than the limit says.
abbrev pub WalksWantFew : Type 0
WalksWantFew =
    (e : Given) (asked : Asked) (limits : Limits) (w : Walk) (ws : Vec Wanted)
    → HasOctets e → StopsWithin e asked limits w → w.ending ≡ ends.Wants ws
    → (length e.messages < limits.messages) × AreFewOf e (renamed asked (last_of asked.name w.through.items)) ws.items
