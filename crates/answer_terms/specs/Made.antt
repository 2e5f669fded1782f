-- What the messages of a zone hold: its keys, or an answer.
use Rattle.std.specs.Prelude.{◌≡◌, ◌<◌, true, List, [], ◌∷◌, length, Contains}
use Rattle.std.specs.List.{AllByRecursion}
use Rattle.definitions.specs.Name.{Name}
use Rattle.definitions.specs.Dnskey.{Dnskey}
use Rattle.messages.specs.Message.{Asked}
use Rattle.messages.specs.WrittenLaws.{IsQuestion}
use Rattle.answer_terms.specs.Asking.{is_allowed}
use Rattle.answer_terms.specs.Served.{Served, ServedRrset, answer_groups, key_group, keys_ttl}

-- what a message holds: the keys that were present, or a zone's answer to a question
pub data Content : Type 0 where
  OfKeys : List Dnskey → Content
  OfZone : Asked → Content

-- its RRsets, of a zone that is served so
abbrev pub groups_of : Served → Name → Content → List ServedRrset
groups_of s apex (OfKeys present) = key_group apex (keys_ttl s) present ∷ []
groups_of s apex (OfZone asked) = answer_groups s asked.name asked.rtype

-- data that records hold (RFC 1035, 3.2.1)
abbrev pub IsShortGroup : ServedRrset → Type 0
IsShortGroup g = AllByRecursion (λ d. length d < 65536) g.datas

-- the keys that were present are published; the question is one that is answered
abbrev pub IsOf : Name → List Dnskey → Content → Type 0
IsOf apex published (OfKeys present) = AllByRecursion (Contains published) present
IsOf apex published (OfZone asked) = IsQuestion asked × (is_allowed apex asked ≡ true)
