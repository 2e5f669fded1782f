-- Messages in which nothing is forged: put together from what was signed, and from what strangers made.
use Rattle.std.specs.Prelude.{◌≡◌, ◌⊎◌, ℕ, Bool, true, false, List, ◌++◌, Contains, Option, Some, Ok}
use Rattle.std.specs.Int.{w16, to_be_bytes}
use Rattle.std.specs.Str.{bytes_eq}
use Rattle.definitions.specs.Dnskey.{Dnskey, key_tag}
use Rattle.definitions.specs.Signing.{Fields, in_time}
use Rattle.definitions.specs.Name.{Name}
use Rattle.std.specs.List.{AllByRecursion}
use Rattle.messages.specs.Message.{AreOctets, Asked, Message, Spelled, message, rrsig_at}
use Rattle.answer_terms.specs.Served.{ServedRrset}
use Rattle.answer_terms.specs.Told.{Tells, octets_for}
use Rattle.answer_scheme.specs.Answers.{Answers}
use Rattle.answer_judge.specs.Honest.{IsHonest, Signing, WasSigned}
use Rattle.answer_judge_facts.specs.Sought.{Sought}
use Rattle.answer_judge.specs.Judging.{JudgeInput}

-- a signature passes over one string of octets alone, whatever the key
abbrev pub Binds : Answers → Type 0
Binds a = (j k : Dnskey) (octets others signature : List ℕ) → a.verifies j octets signature ≡ true → a.verifies k others signature ≡ true → octets ≡ others

-- a signature that passes over octets that were signed, as those in messages that were handed out
pub record WasCarried (a : Answers) (Signed : List ℕ → Type 0) (signature : List ℕ) : Type 0 where
  pub key : Dnskey
  pub octets : List ℕ
  pub there : Signed octets
  pub passes : a.verifies key octets signature ≡ true

-- one that passes under none of some keys, as a stranger's
abbrev pub PassesNowhere : Answers → List Dnskey → List ℕ → Type 0
PassesNowhere a keys signature = (key : Dnskey) (octets : List ℕ) → Contains keys key → a.verifies key octets signature ≡ false

-- Each signature of a message that holds at the moment is such, wherever it stands, whatever its fields say and whatever stands
-- beside it.
abbrev pub IsSpliced : Answers → ℕ → ℕ → List Dnskey → (List ℕ → Type 0) → List ℕ → Type 0
IsSpliced a k now published Signed m =
    (read : Message) (r : Spelled) (f : Fields) (signature : List ℕ)
    → message k m ≡ Ok read → Contains read.records r → r.rtype ≡ 46 → rrsig_at k m r ≡ Some (f, signature) → in_time f now ≡ true
    → WasCarried a Signed signature ⊎ PassesNowhere a published signature

abbrev pub SplicesAreHonest : Type 0
SplicesAreHonest =
    (a : Answers) (k : ℕ) (h : JudgeInput) (published keys : List Dnskey) (apex : Name) (signings : List Signing) (sought : List Spelled → Sought) (m : List ℕ)
    → Binds a → AreOctets m → IsSpliced a k h.now published (WasSigned a apex keys signings) m → IsHonest a k h published (WasSigned a apex keys signings) sought m

-- a scheme whose signatures are the tag of the key and the octets themselves
abbrev pub plain_verifies : Dnskey → List ℕ → List ℕ → Bool
plain_verifies key octets signature = bytes_eq signature (to_be_bytes w16 (key_tag key) ++ octets)

-- with any digests and hashes
abbrev pub plain_answers : (ℕ → List ℕ → Option (List ℕ)) → (List ℕ → ℕ → ℕ → List ℕ → Option (List ℕ)) → Answers
plain_answers digest hash = record { verifies = plain_verifies; digest = digest; hash = hash }

abbrev pub PlainSchemeBinds : Type 0
PlainSchemeBinds = (digest : ℕ → List ℕ → Option (List ℕ)) (hash : List ℕ → ℕ → ℕ → List ℕ → Option (List ℕ)) → Binds (plain_answers digest hash)

-- each RRset that has signatures was signed, whichever key signs it
abbrev pub AreSigned : (List ℕ → Type 0) → Name → ℕ → ℕ → List ServedRrset → Type 0
AreSigned Signed apex at life groups = (g : ServedRrset) (key : Dnskey) → Contains groups g → g.signed ≡ true → Signed (octets_for apex at life g key)

-- Bytes that tell RRsets which were signed are such, whatever the case of owners, the TTLs and the compression; no RRset in it is
-- one of signatures.
abbrev pub ToldIsSpliced : Type 0
ToldIsSpliced =
    (a : Answers) (k now : ℕ) (published keys signers : List Dnskey) (signings : List Signing) (apex : Name) (at life : ℕ) (asked : Asked) (groups : List ServedRrset) (m : List ℕ)
    → AllByRecursion (λ g. g.rtype ≡ 46 → ⊥) groups → AreSigned (WasSigned a apex keys signings) apex at life groups
    → Tells a.verifies k apex at life signers asked groups m → IsSpliced a k now published (WasSigned a apex keys signings) m
