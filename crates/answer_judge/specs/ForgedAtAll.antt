-- More than is needed of messages in which nothing is forged.
use Rattle.std.specs.Prelude.{◌≡◌, ℕ, true, List, Contains, Some, Ok}
use Rattle.definitions.specs.Laws.{IsSignable}
use Rattle.definitions.specs.Name.{Name}
use Rattle.definitions.specs.Dnskey.{Dnskey}
use Rattle.definitions.specs.Signing.{Fields, ascending, in_time, signed_octets}
use Rattle.messages.specs.Message.{AreOctets, Message, Spelled, message, rrsig_at}
use Rattle.answer_scheme.specs.Answers.{Answers}
use Rattle.answer_judge.specs.Honest.{NothingForged, Signing, WasSigned, sought_of_answer, sought_of_keys}
use Rattle.answer_judge.specs.Judging.{JudgeInput}

-- An RRset that may be signed, of at least one record, each once and ascending, whether or not it stands in the message
-- (RFC 4034, 3.1.8.1 and 6.3), and the octets that its signature is made over.
pub record Signs (octets : List ℕ) (f : Fields) (owner : Name) (class : ℕ) (ds : List (List ℕ)) : Type 0 where
  pub fits : IsSignable f owner class ds
  pub rising : ascending ds ≡ true
  pub are : octets ≡ signed_octets f owner class ds
  pub octets_are : AreOctets octets

-- Each signature of a message that holds at the moment and verifies anything at all under a published key is over octets that
-- were signed.
abbrev pub NothingForgedAtAll : Answers → ℕ → ℕ → List Dnskey → (List ℕ → Type 0) → List ℕ → Type 0
NothingForgedAtAll a k now published Signed m =
    (read : Message) (r : Spelled) (f : Fields) (signature octets : List ℕ) (owner : Name) (class : ℕ) (ds : List (List ℕ)) (key : Dnskey)
    → message k m ≡ Ok read → Contains read.records r → r.rtype ≡ 46 → rrsig_at k m r ≡ Some (f, signature) → in_time f now ≡ true
    → Contains published key → Signs octets f owner class ds → a.verifies key octets signature ≡ true → Signed octets

-- then nothing is forged in the DNSKEY answer, nor in the zone answer
abbrev pub AtAllIsEnough : Type 0
AtAllIsEnough =
    (a : Answers) (k : ℕ) (h : JudgeInput) (published keys : List Dnskey) (apex : Name) (signings : List Signing)
    → (AreOctets h.dnskey_bytes → NothingForgedAtAll a k h.now published (WasSigned a apex keys signings) h.dnskey_bytes → NothingForged a k h published (WasSigned a apex keys signings) (sought_of_keys h) h.dnskey_bytes)
    × (AreOctets h.answer_bytes → NothingForgedAtAll a k h.now published (WasSigned a apex keys signings) h.answer_bytes → NothingForged a k h published (WasSigned a apex keys signings) (sought_of_answer k h) h.answer_bytes)
