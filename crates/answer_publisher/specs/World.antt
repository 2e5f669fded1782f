-- A publisher as its contracts see it, and what it answers.
use Rattle.std.specs.Prelude.{ℕ, Bool, false, List, Option}
use Rattle.definitions.specs.Name.{Name}
use Rattle.definitions.specs.Dnskey.{Dnskey}
use Rattle.definitions.specs.Limits.{pointer_limit}
use Rattle.definitions.specs.Zone.{verdict}
use Rattle.definitions.specs.ZoneChain.{Mode}
use Rattle.messages.specs.HandedRr.{HandedRr}
use Rattle.messages.specs.Message.{Asked}
use Rattle.answer_terms.specs.Accepting.{sorted_records}
use Rattle.answer_terms.specs.ZoneView.{AcceptedZone}
use Rattle.answer_terms.specs.Hashing.{served}
use Rattle.answer_terms.specs.Served.{Served, keys_ttl}
use Rattle.answer_zone.specs.HashedZone.{AreHashed, accepted_zone, spoken_for}
use Rattle.answer_zone.specs.ZoneAnswers.{answered}
use Rattle.answer_scheme.specs.Answers.{Answers}
use Rattle.answer_terms.specs.Given as spelled
use Rattle.answer_terms.specs.Told as told
use Rattle.answer_publisher.specs.declared.publishing.Publisher.{Publisher}
use Rattle.answer_publisher.specs.declared.fault.AnswerFault.{AnswerFault}
use Rattle.answer_publisher_keys.specs.declared.keys.Publication.{Publication}
use Rattle.answer_publisher_keys.specs.declared.keys.Publication.TheVariants as publication
use Rattle.answer_publisher_keys.specs.Bindings.{ZoneKeys, published, dnskeys, keys_by_tag}
use Rattle.answer_publisher.specs.Publishing.{digest_at}
use Rattle.answer_scheme.specs.Moments.{second_of}
use Rattle.answer_publisher.specs.Answering.{AnswersKeys, AnswersZone, RefusesAnswer, RefusesKeys}
use Rattle.answer_publisher.specs.Signing.{signing}

-- an accepted zone, how long its signatures hold, what its scheme signs, and what scheme and hasher answer a judge
pub record World : Type 0 where
  pub zone : AcceptedZone
  pub life : ℕ
  pub sign : Dnskey → List ℕ → Option (List ℕ)
  pub answers : Answers

abbrev pub world : AcceptedZone → ℕ → (Dnskey → List ℕ → Option (List ℕ)) → (Dnskey → List ℕ → List ℕ → Bool) → (ℕ → List ℕ → Option (List ℕ)) → (List ℕ → ℕ → ℕ → List ℕ → Option (List ℕ)) → World
world zone life sign verifies digest hash = record { zone = zone; life = life; sign = sign; answers = record { verifies = verifies; digest = digest; hash = hash } }

-- the zone of accepted records
abbrev pub zone_by : Name → Mode → ℕ → List HandedRr → AcceptedZone
zone_by apex mode limit rs = record { apex = apex; mode = mode; limit = limit; records = sorted_records rs }

-- the world of a scheme and a hasher, by what they answer
abbrev pub world_of_scheme : {S H : Type 0} → (S → Dnskey → List ℕ → Option (List ℕ)) → (S → Dnskey → List ℕ → List ℕ → Bool) → (S → ℕ → List ℕ → Option (List ℕ)) → (H → List ℕ → ℕ → ℕ → List ℕ → Option (List ℕ)) → S → H → AcceptedZone → ℕ → World
world_of_scheme sign verifies digest hash s h zone life = world zone life (sign s) (verifies s) (digest s) (hash h)

-- that of a publisher
abbrev pub world_of : {S H : Type 0} → (S → Dnskey → List ℕ → Option (List ℕ)) → (S → Dnskey → List ℕ → List ℕ → Bool) → (S → ℕ → List ℕ → Option (List ℕ)) → (H → List ℕ → ℕ → ℕ → List ℕ → Option (List ℕ)) → Publisher S H → World
world_of sign verifies digest hash p = world_of_scheme sign verifies digest hash p.scheme.now p.zone.hasher (accepted_zone p.zone) p.life

-- the same where another scheme signs
abbrev pub world_with : {S T H : Type 0} → (T → Dnskey → List ℕ → Option (List ℕ)) → (T → Dnskey → List ℕ → List ℕ → Bool) → (S → ℕ → List ℕ → Option (List ℕ)) → (H → List ℕ → ℕ → ℕ → List ℕ → Option (List ℕ)) → T → Publisher S H → World
world_with sign verifies digest hash t p = world (accepted_zone p.zone) p.life (sign t) (verifies t) (digest p.scheme.now) (hash p.zone.hasher)

-- the digests of its keys
abbrev pub digests : {S H : Type 0} → (S → ℕ → List ℕ → Option (List ℕ)) → Publisher S H → Dnskey → Option (List ℕ)
digests digest_of p = digest_at (digest_of p.scheme.now) p.zone.apex

-- how the zone is served
abbrev pub served_in : World → Served
served_in w = served w.answers.hash w.zone

-- the keys of a role, in order of reference
abbrev pub present_keys : ZoneKeys → List Dnskey
present_keys keys = dnskeys (published keys publication.Present)

-- how many RRsets of those asked for the zone's answer to a question has, and which keys sign it
abbrev pub found_in : World → Asked → ℕ
found_in w asked = answered (verdict (served_in w).zone false asked.name asked.rtype)

abbrev pub signing_in : World → Asked → Publication
signing_in w asked = signing w.zone.apex asked (found_in w asked)

-- ---- the DNSKEY answer of these keys at a moment: octet for octet, what it reads as, and why there is none

abbrev pub AnswersKeysQuestion : World → ZoneKeys → ℕ → List ℕ → Type 0
AnswersKeysQuestion w keys at m = AnswersKeys w.sign w.answers.verifies (served_in w) w.zone.apex (second_of at) w.life (present_keys keys) (keys_by_tag keys publication.SignsKeys) m

abbrev pub SpellsKeys : World → ZoneKeys → ℕ → List ℕ → Type 0
SpellsKeys w keys at m = spelled.GivesKeys w.answers.verifies pointer_limit (keys_ttl (served_in w)) w.zone.apex (present_keys keys) (dnskeys (published keys publication.SignsKeys)) (second_of at) w.life m

abbrev pub RefusesKeysQuestion : World → ZoneKeys → ℕ → AnswerFault → Type 0
RefusesKeysQuestion w keys at f = RefusesKeys w.sign w.answers.verifies (served_in w) w.zone.apex (second_of at) w.life (present_keys keys) (keys_by_tag keys publication.SignsKeys) f

-- ---- the same of the answer to a question

abbrev pub AnswersQuestion : World → ZoneKeys → ℕ → Asked → List ℕ → Type 0
AnswersQuestion w keys at asked m = AnswersZone w.sign w.answers.verifies (served_in w) w.zone.apex (second_of at) w.life (keys_by_tag keys (signing_in w asked)) asked m

abbrev pub SpellsAnswer : World → ZoneKeys → ℕ → Asked → List ℕ → Type 0
SpellsAnswer w keys at asked m = spelled.GivesAnswer w.answers.verifies pointer_limit (served_in w) w.zone.apex (dnskeys (published keys (signing_in w asked))) (second_of at) w.life asked m

-- each name that the proof of the answer speaks of has a hash
abbrev pub HashesNames : World → Asked → Type 0
HashesNames w asked = AreHashed w.answers.hash w.zone.mode (spoken_for (served_in w) asked.name asked.rtype)

abbrev pub RefusesQuestion : World → ZoneKeys → ℕ → Asked → AnswerFault → Type 0
RefusesQuestion w keys at asked f = RefusesAnswer w.sign w.answers.verifies w.answers.hash (served_in w) w.zone.apex (second_of at) w.life (keys_by_tag keys (signing_in w asked)) asked f

-- ---- what any bytes tell a judge

-- the DNSKEY answer of these keys at a moment, with whatever TTL: of the records of the zone it has no more
abbrev pub TellsKeys : World → ZoneKeys → ℕ → List ℕ → Type 0
TellsKeys w keys at m = (ttl : ℕ) × told.TellsKeys w.answers.verifies pointer_limit ttl w.zone.apex (present_keys keys) (dnskeys (published keys publication.SignsKeys)) (second_of at) w.life m

-- the zone's answer to a question at a moment, signed by these keys
abbrev pub TellsAnswer : World → ZoneKeys → ℕ → Asked → List ℕ → Type 0
TellsAnswer w keys at asked m = told.TellsAnswer w.answers.verifies pointer_limit (served_in w) w.zone.apex (dnskeys (published keys (signing_in w asked))) (second_of at) w.life asked m
