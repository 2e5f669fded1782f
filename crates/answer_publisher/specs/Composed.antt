-- Answers as they are written: RRsets, each with its signatures behind it.
use Rattle.std.specs.Prelude.{◌≡◌, ℕ, ◌+◌, ◌*◌, ◌<◌, ◌≤◌, Bool, true, List, [], ◌++◌, map, length, Contains, Option, if◌then◌else◌}
use Rattle.std.specs.List.{AllZip, flat_map}
use Rattle.definitions.specs.Name.{Name}
use Rattle.definitions.specs.Dnskey.{Dnskey}
use Rattle.messages.specs.Message.{Asked}
use Rattle.messages.specs.Written.{Written, record_octets, message_octets}
use Rattle.answer_terms.specs.Served.{written_rr}
use Rattle.answer_terms.specs.GroupView.{FailsFor, GroupView, IsRrsigData}
use Rattle.answer_publisher.specs.declared.fault.AnswerFault.{AnswerFault}
use Rattle.answer_publisher.specs.declared.fault.AnswerFault.TheVariants as fault

-- the record of a signature of an RRset (RFC 4034, 3)
abbrev pub rrsig_of : GroupView → List ℕ → Written
rrsig_of g d = written_rr g.owner 46 g.ttl d

-- the records of an RRset, then its signatures, where it is signed
abbrev pub IsWritten : (Dnskey → List ℕ → Option (List ℕ)) → (Dnskey → List ℕ → List ℕ → Bool) → Name → ℕ → ℕ → List Dnskey → GroupView → List Written → Type 0
IsWritten sign verifies apex at life keys g ws =
    (signatures : List (List ℕ))
    × (AllZip (IsRrsigData sign verifies apex at life g) (if g.signed then keys else []) signatures
    × (ws ≡ g.written ++ map (rrsig_of g) signatures))

-- the records of RRsets one after another
abbrev pub joined : List (List Written) → List Written
joined pieces = flat_map (λ p. p) pieces

-- so many records in so many octets
abbrev pub IsSection : (Dnskey → List ℕ → Option (List ℕ)) → (Dnskey → List ℕ → List ℕ → Bool) → Name → ℕ → ℕ → List Dnskey → List GroupView → List ℕ → ℕ → Type 0
IsSection sign verifies apex at life keys gs octets count =
    (pieces : List (List Written))
    × (AllZip (IsWritten sign verifies apex at life keys) gs pieces
    × (octets ≡ flat_map record_octets (joined pieces)) × (count ≡ length (joined pieces)))

-- the message that answers a question with RRsets in its answer and authority sections
pub record IsAnswer (sign : Dnskey → List ℕ → Option (List ℕ)) (verifies : Dnskey → List ℕ → List ℕ → Bool) (apex : Name) (at life : ℕ) (keys : List Dnskey) (flags : ℕ) (asked : Asked) (answer authority : List GroupView) (m : List ℕ) : Type 0 where
  pub answers : List (List Written)
  pub authorities : List (List Written)
  pub answers_are : AllZip (IsWritten sign verifies apex at life keys) answer answers
  pub authorities_are : AllZip (IsWritten sign verifies apex at life keys) authority authorities
  pub octets_are : m ≡ message_octets flags asked (joined answers) (joined authorities)
  pub short : length m ≤ 65535

-- each record has at least 11 octets: a root owner, type, class, TTL and length (RFC 1035, 4.1.3)
abbrev pub HasRoom : List ℕ → ℕ → Type 0
HasRoom octets count = count * 11 ≤ length octets

-- some RRsets from the first on have so many octets, with their signatures, that no message holds them and so many more
abbrev pub IsTooLong : (Dnskey → List ℕ → Option (List ℕ)) → (Dnskey → List ℕ → List ℕ → Bool) → Name → ℕ → ℕ → List Dnskey → ℕ → List GroupView → Type 0
IsTooLong sign verifies apex at life keys more gs =
    (front rest : List GroupView) × (octets : List ℕ) × (count : ℕ)
    × (gs ≡ front ++ rest) × IsSection sign verifies apex at life keys front octets count × (65535 < more + length octets)

-- no signature of one of some RRsets by one of the keys is made
abbrev pub FailsToSign : (Dnskey → List ℕ → Option (List ℕ)) → Name → ℕ → ℕ → List Dnskey → List GroupView → Type 0
FailsToSign sign apex at life keys gs = (g : GroupView) × Contains gs g × (g.signed ≡ true) × FailsFor sign apex at life g keys

-- why RRsets are not written as an answer, behind so many octets
abbrev pub RefusesGroups : (Dnskey → List ℕ → Option (List ℕ)) → (Dnskey → List ℕ → List ℕ → Bool) → Name → ℕ → ℕ → List Dnskey → ℕ → List GroupView → AnswerFault → Type 0
RefusesGroups sign verifies apex at life keys more gs fault.QuestionNotAllowed = ⊥
RefusesGroups sign verifies apex at life keys more gs fault.HashFailed = ⊥
RefusesGroups sign verifies apex at life keys more gs fault.SignFailed = FailsToSign sign apex at life keys gs
RefusesGroups sign verifies apex at life keys more gs fault.TooLong = IsTooLong sign verifies apex at life keys more gs
RefusesGroups sign verifies apex at life keys more gs fault.Memory = Unit {0}

-- why records are not written behind some octets
abbrev pub RefusesRecords : List ℕ → ℕ → List Written → AnswerFault → Type 0
RefusesRecords old count ws fault.TooLong = HasRoom old count → 65535 < length (old ++ flat_map record_octets ws)
RefusesRecords old count ws fault.Memory = Unit {0}
RefusesRecords old count ws _ = ⊥
