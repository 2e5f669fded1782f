-- Which messages a walk wants of a zone, and what a zone is asked.
use Rattle.std.specs.Prelude.{◌≡◌, ◌⊎◌, ℕ, ◌<◌, ◌==◌, length, Bool, true, false, ◌&&◌, ◌||◌, not, List, [], ◌∷◌, ◌++◌, drop, is_none}
use Rattle.std.specs.List.{list_any}
use Rattle.definitions.specs.Dnskey.{Ds}
use Rattle.definitions.specs.Name.{Name, at_or_above, same}
use Rattle.messages.specs.Message.{Asked}
use Rattle.evidence_laws.specs.Given.{Given, message_of}
use Rattle.resolution_walk.specs.Between.{IsBetween}
use Rattle.resolution_walk.specs.declared.ending.Wanted.{Wanted}

-- no message of the zone answers the question for a name and a type
abbrev pub lacks : Given → Name → Name → ℕ → Bool
lacks e zone name t = is_none (message_of e zone name t)

abbrev pub wanted_if : Bool → Wanted → List Wanted
wanted_if true w = w ∷ []
wanted_if false w = []

abbrev pub wanted_of : Name → Name → ℕ → Wanted
wanted_of zone name t = record { zone = zone; name = name; rtype = t }

-- the question is the one for the zone's keys
abbrev pub is_for_keys : Name → Asked → Bool
is_for_keys zone asked = same zone asked.name && (asked.rtype == 48)

-- what lacks, unless it is wanted already
abbrev pub lacks_besides : Bool → Bool → Bool → Bool
lacks_besides first is_first lacks = lacks && not (first && is_first)

-- of a zone's keys and its answer to a question those that are not there; each once, where the question is for these keys
abbrev pub lacking : Given → Name → Asked → List Wanted
lacking e zone asked =
    wanted_if (lacks e zone zone 48) (wanted_of zone zone 48)
    ++ wanted_if (lacks_besides (lacks e zone zone 48) (is_for_keys zone asked) (lacks e zone asked.name asked.rtype)) (wanted_of zone asked.name asked.rtype)

abbrev pub is_lacking : Given → Name → Asked → Bool
is_lacking e zone asked = lacks e zone zone 48 || lacks e zone asked.name asked.rtype

-- a name that is above another, with fewer labels
pub record IsParent (n parent : Name) : Type 0 where
  pub is : parent ≡ drop 1 n
  pub shorter : length parent < length n
  pub above : (q : Name) → at_or_above n q ≡ true → at_or_above parent q ≡ true

-- what a zone is asked on the way: the question, or DS at a name between
abbrev pub IsSought : Given → Asked → Name → List Ds → Asked → Type 0
IsSought e asked zone ds sought = (sought ≡ asked) ⊎ IsBetween e asked zone ds sought

-- two wanted messages are answers of one zone to one question
abbrev pub is_same_wanted : Wanted → Wanted → Bool
is_same_wanted a b = same a.zone b.zone && same a.name b.name && (b.rtype == a.rtype)

-- no two of them are the same
abbrev pub AreOnce : List Wanted → Type 0
AreOnce [] = Unit {0}
AreOnce (w ∷ ws) = (list_any (is_same_wanted w) ws ≡ false) × AreOnce ws

-- Exactly these messages of a zone are wanted, one at least, and each once.
pub record AreWantedOf (e : Given) (asked : Asked) (zone : Name) (ds : List Ds) (ws : List Wanted) : Type 0 where
  pub sought : Asked
  pub is_sought : IsSought e asked zone ds sought
  pub some : is_lacking e zone sought ≡ true
  pub are : ws ≡ lacking e zone sought
  pub once : AreOnce ws
