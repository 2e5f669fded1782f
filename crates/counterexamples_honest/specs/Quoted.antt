-- Messages that are put together from any number of messages whose RRsets were signed.
use Rattle.std.specs.Prelude.{◌≡◌, ◌⊎◌, ℕ, true, List, Contains, Some, Ok}
use Rattle.std.specs.List.{AllByRecursion}
use Rattle.definitions.specs.Dnskey.{Dnskey}
use Rattle.definitions.specs.Name.{Name}
use Rattle.definitions.specs.Signing.{Fields, in_time}
use Rattle.messages.specs.Message.{AreOctets, Asked, Message, Spelled, message, rrsig_at}
use Rattle.answer_terms.specs.Served.{ServedRrset}
use Rattle.answer_terms.specs.Told.{Tells}
use Rattle.answer_scheme.specs.Answers.{Answers}
use Rattle.answer_judge.specs.Honest.{IsHonest, Signing, WasSigned}
use Rattle.answer_judge.specs.Judging.{JudgeInput}
use Rattle.answer_judge_facts.specs.Sought.{Sought}
use Rattle.answer_judge.specs.Splices.{AreSigned, Binds, PassesNowhere}

-- A signature stands in bytes that tell RRsets which were signed, in a record that held at some moment. No RRset of them is one of
-- signatures.
pub record IsQuoted (a : Answers) (k : ℕ) (apex : Name) (Signed : List ℕ → Type 0) (signature : List ℕ) : Type 0 where
  pub at : ℕ
  pub life : ℕ
  pub signers : List Dnskey
  pub groups : List ServedRrset
  pub were : AreSigned Signed apex at life groups
  pub others : AllByRecursion (λ g. g.rtype ≡ 46 → ⊥) groups
  pub asked : Asked
  pub bytes : List ℕ
  pub tells : Tells a.verifies k apex at life signers asked groups bytes
  pub read : Message
  pub reads : message k bytes ≡ Ok read
  pub spelled : Spelled
  pub inside : Contains read.records spelled
  pub kind : spelled.rtype ≡ 46
  pub fields : Fields
  pub says : rrsig_at k bytes spelled ≡ Some (fields, signature)
  pub moment : ℕ
  pub holds : in_time fields moment ≡ true

-- each signature of a message that holds at the moment is quoted, under whatever owner and with whatever fields, or passes
-- under no published key
abbrev pub AreQuotes : Answers → ℕ → ℕ → List Dnskey → Name → (List ℕ → Type 0) → List ℕ → Type 0
AreQuotes a k now published apex Signed m =
    (read : Message) (r : Spelled) (f : Fields) (signature : List ℕ)
    → message k m ≡ Ok read → Contains read.records r → r.rtype ≡ 46 → rrsig_at k m r ≡ Some (f, signature) → in_time f now ≡ true
    → IsQuoted a k apex Signed signature ⊎ PassesNowhere a published signature

-- such a message is honest, where a signature passes over one string of octets alone
abbrev pub QuotesAreHonest : Type 0
QuotesAreHonest =
    (a : Answers) (k : ℕ) (h : JudgeInput) (published keys : List Dnskey) (apex : Name) (signings : List Signing) (sought : List Spelled → Sought) (m : List ℕ)
    → Binds a → AreOctets m → AreQuotes a k h.now published apex (WasSigned a apex keys signings) m → IsHonest a k h published (WasSigned a apex keys signings) sought m
