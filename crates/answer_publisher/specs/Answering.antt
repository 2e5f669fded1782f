-- What a publisher's messages are.
use Rattle.std.specs.Prelude.{◌≡◌, ℕ, ◌+◌, Bool, false, List, [], ◌∷◌, ◌++◌, length, Option}
use Rattle.std.specs.List.{AllZip}
use Rattle.definitions.specs.Name.{Name, low}
use Rattle.definitions.specs.Dnskey.{Dnskey}
use Rattle.definitions.specs.Zone.{verdict}
use Rattle.denial_laws.specs.Truth.{concerned}
use Rattle.messages.specs.Message.{Asked}
use Rattle.answer_terms.specs.GroupView.{GroupView, Presents}
use Rattle.answer_publisher.specs.Composed.{IsAnswer, RefusesGroups}
use Rattle.answer_terms.specs.Asking.{is_allowed}
use Rattle.answer_terms.specs.Hashing.{Hasher}
use Rattle.messages.specs.Written.{question_octets}
use Rattle.answer_publisher.specs.declared.fault.AnswerFault.{AnswerFault}
use Rattle.answer_publisher.specs.declared.fault.AnswerFault.TheVariants as fault
use Rattle.answer_terms.specs.Served.{ServedRrset, Served, answer_groups, key_group, keys_ttl}
use Rattle.answer_zone.specs.HashedZone.{FailsOn}
use Rattle.answer_zone.specs.ZoneAnswers.{flags_for, answered}

-- the message that answers a question: the RRsets of the answer in order, those asked for in the answer section
pub record AnswersZone (sign : Dnskey → List ℕ → Option (List ℕ)) (verifies : Dnskey → List ℕ → List ℕ → Bool) (s : Served) (apex : Name) (at life : ℕ) (keys : List Dnskey) (asked : Asked) (m : List ℕ) : Type 0 where
  pub answer : List GroupView
  pub authority : List GroupView
  pub groups_are : AllZip Presents (answer ++ authority) (answer_groups s asked.name asked.rtype)
  pub split : length answer ≡ answered (verdict s.zone false asked.name asked.rtype)
  pub written : IsAnswer sign verifies apex at life keys (flags_for (verdict s.zone false asked.name asked.rtype)) asked answer authority m

-- a question for an RRset of the apex
abbrev pub apex_question : Name → ℕ → Asked
apex_question apex t = record { name = apex; rtype = t; class = 1 }

-- the message that answers it with one RRset
pub record AnswersApex (sign : Dnskey → List ℕ → Option (List ℕ)) (verifies : Dnskey → List ℕ → List ℕ → Bool) (apex : Name) (at life : ℕ) (keys : List Dnskey) (of : ServedRrset) (m : List ℕ) : Type 0 where
  pub group : GroupView
  pub presents : Presents group of
  pub written : IsAnswer sign verifies apex at life keys 33792 (apex_question apex of.rtype) (group ∷ []) [] m

-- the DNSKEY answer: the keys that are present, their data written in canonical form and order
abbrev pub AnswersKeys : (Dnskey → List ℕ → Option (List ℕ)) → (Dnskey → List ℕ → List ℕ → Bool) → Served → Name → ℕ → ℕ → List Dnskey → List Dnskey → List ℕ → Type 0
AnswersKeys sign verifies s apex at life present keys m = AnswersApex sign verifies apex at life keys (key_group apex (keys_ttl s) present) m

-- octets of a message ahead of its records: the header and the question (RFC 1035, 4.1.1 and 4.1.2)
abbrev pub ahead_of_records : Asked → ℕ
ahead_of_records asked = 12 + length (question_octets asked.name asked.rtype asked.class)

-- Why a question is not answered: it is not allowed, the hasher fails on a name that the question concerns, the scheme made
-- no signature of an RRset of the answer, the RRsets are too long for a message, or memory ran out.
abbrev pub RefusesAnswer : (Dnskey → List ℕ → Option (List ℕ)) → (Dnskey → List ℕ → List ℕ → Bool) → Hasher → Served → Name → ℕ → ℕ → List Dnskey → Asked → AnswerFault → Type 0
RefusesAnswer sign verifies hash s apex at life keys asked fault.QuestionNotAllowed = is_allowed apex asked ≡ false
RefusesAnswer sign verifies hash s apex at life keys asked fault.HashFailed = FailsOn hash s.mode (concerned (low apex) (low asked.name))
RefusesAnswer sign verifies hash s apex at life keys asked fault.Memory = Unit {0}
RefusesAnswer sign verifies hash s apex at life keys asked f =
    (groups : List GroupView) × AllZip Presents groups (answer_groups s asked.name asked.rtype)
    × RefusesGroups sign verifies apex at life keys (ahead_of_records asked) groups f

-- why an RRset of the apex is not given
abbrev pub RefusesApex : (Dnskey → List ℕ → Option (List ℕ)) → (Dnskey → List ℕ → List ℕ → Bool) → Name → ℕ → ℕ → List Dnskey → ServedRrset → AnswerFault → Type 0
RefusesApex sign verifies apex at life keys of fault.Memory = Unit {0}
RefusesApex sign verifies apex at life keys of f =
    (group : GroupView) × Presents group of × RefusesGroups sign verifies apex at life keys (ahead_of_records (apex_question apex of.rtype)) (group ∷ []) f

-- why the DNSKEY answer is not given
abbrev pub RefusesKeys : (Dnskey → List ℕ → Option (List ℕ)) → (Dnskey → List ℕ → List ℕ → Bool) → Served → Name → ℕ → ℕ → List Dnskey → List Dnskey → AnswerFault → Type 0
RefusesKeys sign verifies s apex at life present keys f = RefusesApex sign verifies apex at life keys (key_group apex (keys_ttl s) present) f
