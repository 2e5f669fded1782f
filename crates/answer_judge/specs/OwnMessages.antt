-- Nothing is forged in what a publisher gave, under whatever scheme: its signatures are over the RRsets that stand beside them.
use Rattle.std.specs.Prelude.{◌≡◌, ◌<◌, ℕ, ◌+◌, ◌%◌, List, [], Contains}
use Rattle.std.specs.List.{AllByRecursion}
use Rattle.definitions.specs.Dnskey.{Dnskey}
use Rattle.definitions.specs.Name.{IsName}
use Rattle.definitions.specs.ZoneChain.{Mode}
use Rattle.messages.specs.HandedRr.{HandedRr}
use Rattle.messages.specs.Message.{AreOctets}
use Rattle.messages.specs.WrittenLaws.{IsQuestion}
use Rattle.answer_scheme.specs.Answers.{Answers}
use Rattle.answer_terms.specs.Told.{TellsKeys}
use Rattle.answer_judge.specs.Judging.{JudgeInput}
use Rattle.answer_judge_facts.specs.Verified.{Trusting}
use Rattle.answer_judge.specs.Honest.{IsHonest, Signing, WasSigned, sought_of_answer, sought_of_keys}
use Rattle.answer_judge.specs.OwnFacts.{TellsZone}

-- records that are served with a chain, signed from a second on for so many seconds
abbrev pub signing_of : Mode → List HandedRr → ℕ → ℕ → Signing
signing_of mode rs at life = record {
  version = record { records = rs; mode = mode; made = [] };
  times = record { inception = at % 4294967296; expiration = (at + life) % 4294967296 };
}

-- octets that tell the DNSKEY answer of some published keys
abbrev pub OwnKeysAreHonest : Type 0
OwnKeysAreHonest =
    (a : Answers) (k ttl : ℕ) (h : JudgeInput) (present signers published : List Dnskey) (at life : ℕ) (signings : List Signing)
    → IsName h.apex → AreOctets h.dnskey_bytes → AllByRecursion (λ key. key.flags < 65536) present → AllByRecursion (Contains published) present
    → TellsKeys a.verifies k ttl h.apex present signers at life h.dnskey_bytes
    → IsHonest a k h published (WasSigned a h.apex published signings) (sought_of_keys h) h.dnskey_bytes

-- octets that tell an accepted zone's answer to an allowed question
abbrev pub OwnAnswersAreHonest : Type 0
OwnAnswersAreHonest =
    (w : Trusting) (k : ℕ) (mode : Mode) (rs : List HandedRr) (h : JudgeInput) (published : List Dnskey) (signings : List Signing)
    → h.apex ≡ w.apex → AreOctets h.answer_bytes → IsQuestion h.asked → (t : TellsZone w k mode rs h.asked h.answer_bytes)
    → Contains signings (signing_of mode rs t.at t.life)
    → IsHonest w.answers k h published (WasSigned w.answers h.apex published signings) (sought_of_answer k h) h.answer_bytes
