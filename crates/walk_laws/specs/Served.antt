-- Where a walk over evidence of a tree ends whose zones answer as they are published.
use Rattle.std.specs.Prelude.{◌≡◌, ◌⊎◌, ℕ, Bool, true, List, Some, None}
use Rattle.definitions.specs.Dnskey.{Ds}
use Rattle.definitions.specs.Limits.{pointer_limit}
use Rattle.definitions.specs.Name.{Name, at_or_above}
use Rattle.messages.specs.Message.{Asked}
use Rattle.answer_scheme.specs.Moments.{second_of}
use Rattle.answer_judge.specs.Meeting.{WasGiven}
use Rattle.answer_judge.specs.Judging.{JudgeInput}
use Rattle.answer_findings.specs.Table.{AgreesWith, Tried, answers_with}
use Rattle.message_laws.specs.Given.{KeysWereGiven}
use Rattle.tree_laws.specs.Tree.{Said, refers_to}
use Rattle.evidence_laws.specs.Given.{Given, IsOf, message_of}
use Rattle.evidence_laws.specs.Truth.{IsAnchored, SignedZone, zone_of}
use Rattle.resolution_walk.specs.Between.{are_keys_refused}
use Rattle.resolution_walk.specs.declared.ending.Walk.{Walk}
use Rattle.resolution_walk.specs.declared.walk.Limits.{Limits}
use Rattle.walk_laws.specs.Ending.{EndsInTree, IsTreesWalk, IsUntoldOf, Never}

-- a question for a type, of the class that is asked for
abbrev pub asking : Asked → Name → ℕ → Asked
asking asked n t = record { name = n; rtype = t; class = asked.class }

-- a question that a zone answers itself: for a name at or below its apex, and it refers it nowhere
abbrev pub AnswersItself : SignedZone → Name → ℕ → Type 0
AnswersItself s n t = (at_or_above s.apex n ≡ true) × (refers_to (zone_of s).zone n t ≡ None)

-- The table says of each signature that it has whether it passes. Where a zone answers a question itself, for the type that is asked for
-- or for DS, its keys and its answer, if they are there, are what it has given under keys that meet, and their signatures hold. So such a
-- question is an allowed one (`is_allowed`), and the zone an accepted one, of which no name is an alias.
pub record AreServed (passes : Tried → Bool) (e : Given) (asked : Asked) (zones : List SignedZone) (anchor : SignedZone) : Type 0 where
  pub checked : AgreesWith e.table passes
  pub given : (s : SignedZone) (ds : List Ds) (n : Name) (t : ℕ) (h : JudgeInput) → (t ≡ asked.rtype) ⊎ (t ≡ 43) → IsAnchored e zones anchor s ds
      → AnswersItself s n t → IsOf e s.apex ds (asking asked n t) h → WasGiven (answers_with passes) pointer_limit h s.version.mode s.version.records

-- The DNSKEY answer of each zone, if it is there, is of keys that the zone has given under its DS set, whatever is asked beside them.
abbrev pub ZonesKeys : (Tried → Bool) → Given → List SignedZone → SignedZone → Type 0
ZonesKeys passes e zones anchor =
    (s : SignedZone) (ds : List Ds) (octets : List ℕ) → IsAnchored e zones anchor s ds → message_of e s.apex s.apex 48 ≡ Some octets
    → KeysWereGiven (answers_with passes) pointer_limit s.apex ds octets (second_of e.at)

-- so where the zone refers the question on, too
pub record AreServedWithKeys (passes : Tried → Bool) (e : Given) (asked : Asked) (zones : List SignedZone) (anchor : SignedZone) : Type 0 where
  pub served : AreServed passes e asked zones anchor
  pub keys : ZonesKeys passes e zones anchor

-- A walk ends in an answer that tells nothing, of a zone that refers the name on, for the zone's keys are refused.
pub record KeysAreRefused (asked : Asked) (cuts : ℕ) (zones : List SignedZone) (anchor : SignedZone) (names : List Name) (e : Given) (w : Walk) : Type 0 where
  pub untold : IsUntoldOf asked cuts zones anchor names e w
  pub cut : Name
  pub refers : refers_to (zone_of untold.zone).zone untold.name asked.rtype ≡ Some cut
  pub refused : are_keys_refused untold.refusal ≡ true

-- A walk over such evidence is stuck only so. Zones that lead on by aliases are not covered: what they give is not that of accepted zones,
-- so where the tree has an alias on the way, this says nothing but of walks that want more before it.
abbrev pub ServedTreesAreWalked : Type 0
ServedTreesAreWalked =
    (passes : Tried → Bool) (e : Given) (asked : Asked) (limits : Limits) (zones : List SignedZone) (anchor : SignedZone) (said : Said) (names : List Name) (w : Walk)
    → IsTreesWalk e asked limits zones anchor said names w → AreServed passes e asked zones anchor
    → EndsInTree (KeysAreRefused asked limits.cuts zones anchor names) e limits said names w

-- Where the keys of all zones were given, no walk is stuck.
abbrev pub KeyedTreesAreWalked : Type 0
KeyedTreesAreWalked =
    (passes : Tried → Bool) (e : Given) (asked : Asked) (limits : Limits) (zones : List SignedZone) (anchor : SignedZone) (said : Said) (names : List Name) (w : Walk)
    → IsTreesWalk e asked limits zones anchor said names w → AreServedWithKeys passes e asked zones anchor
    → EndsInTree Never e limits said names w
