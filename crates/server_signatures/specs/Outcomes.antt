-- What comes of an answer that is signed by a table.
use Rattle.std.specs.Prelude.{◌≡◌, ◌≢◌, ℕ, ◌<◌, Bool, true, false, List, length, Option, Some, Result, Ok, Err, IsSome}
use Rattle.definitions.specs.Dnskey.{Dnskey}
use Rattle.messages.specs.Message.{Asked}
use Rattle.answer_publisher_keys.specs.Bindings.{ZoneKeys}
use Rattle.answer_publisher.specs.Inputs.{Input}
use Rattle.answer_publisher.specs.Parameters.{AnswersParameters, OfBoth, RefusesParameters, SpellsParameters, parameters_in, parameters_inputs}
use Rattle.answer_publisher.specs.Replacing.{noted}
use Rattle.answer_publisher.specs.World.{AnswersKeysQuestion, AnswersQuestion, HashesNames, RefusesKeysQuestion, RefusesQuestion, SpellsAnswer, SpellsKeys, World, world}
use Rattle.answer_publisher.specs.declared.fault.AnswerFault.{AnswerFault}
use Rattle.answer_publisher.specs.declared.fault.AnswerFault.TheVariants.{SignFailed}
use Rattle.server_signatures.specs.Table.{Made, SignsAs, missing}
use Rattle.server_signatures.specs.declared.answering.Signed.{Signed}
use Rattle.server_signatures.specs.declared.answering.Signed.TheVariants.{Message, Missing}

-- a world in which another scheme signs
abbrev pub signed_by : World → (Dnskey → List ℕ → Option (List ℕ)) → (Dnskey → List ℕ → List ℕ → Bool) → World
signed_by w sign verifies = world w.zone w.life sign verifies w.answers.digest w.answers.hash

-- whichever scheme signs as the entries of a table say
abbrev pub EachSigning : List Made → World → (World → Type 0) → Type 0
EachSigning table w P = (sign : Dnskey → List ℕ → Option (List ℕ)) (verifies : Dnskey → List ℕ → List ℕ → Bool) → SignsAs table sign verifies → P (signed_by w sign verifies)

-- A message is the zone's answer under each scheme that signs as a table says: octet for octet, and by what it reads as. Each name
-- that its proof speaks of has a hash.
abbrev pub AnswersEach : List Made → World → ZoneKeys → ℕ → Asked → List ℕ → Type 0
AnswersEach table w keys at asked m =
    EachSigning table w (λ v. AnswersQuestion v keys at asked m × SpellsAnswer v keys at asked m) × HashesNames w asked

-- why there is none, under each of them; never that something was not signed
abbrev pub RefusesEach : List Made → World → ZoneKeys → ℕ → Asked → AnswerFault → Type 0
RefusesEach table w keys at asked f = (f ≢ SignFailed) × EachSigning table w (λ v. RefusesQuestion v keys at asked f)

-- the same of the DNSKEY answer
abbrev pub AnswersKeysEach : List Made → World → ZoneKeys → ℕ → List ℕ → Type 0
AnswersKeysEach table w keys at m = EachSigning table w (λ v. AnswersKeysQuestion v keys at m × SpellsKeys v keys at m)

abbrev pub RefusesKeysEach : List Made → World → ZoneKeys → ℕ → AnswerFault → Type 0
RefusesKeysEach table w keys at f = (f ≢ SignFailed) × EachSigning table w (λ v. RefusesKeysQuestion v keys at f)

-- the same of the NSEC3PARAM answer
abbrev pub AnswersParametersEach : List Made → World → ZoneKeys → ℕ → List ℕ → Type 0
AnswersParametersEach table w keys at m = EachSigning table w (λ v. AnswersParameters v keys at (Some m) × SpellsParameters v keys at (Some m))

abbrev pub RefusesParametersEach : List Made → World → ZoneKeys → ℕ → AnswerFault → Type 0
RefusesParametersEach table w keys at f = (f ≢ SignFailed) × EachSigning table w (λ v. RefusesParameters v keys at f)

abbrev pub is_sign_failed : AnswerFault → Bool
is_sign_failed SignFailed = true
is_sign_failed _ = false

-- a message that is such, or what is missing: those of some inputs that the table lacks, one at least
abbrev pub IsSigned : List Made → (List ℕ → Type 0) → List Input → Signed → Type 0
IsSigned table Is inputs (Message m) = Is m.items
IsSigned table Is inputs (Missing v) = (v.items ≡ missing table inputs) × (0 < length v.items)

-- the same of the NSEC3PARAM answer; a zone with a chain of names has none
abbrev pub SignsParameters : List Made → World → ZoneKeys → ℕ → Option Signed → Type 0
SignsParameters table w keys at o = OfBoth (λ g x. IsSigned table (AnswersParametersEach table w keys at) (parameters_inputs w keys at) x) (parameters_in w) o

-- the zone has an NSEC3PARAM RRset, and the table lacks a signature of it
abbrev pub LacksParameters : List Made → World → ZoneKeys → ℕ → Type 0
LacksParameters table w keys at = IsSome (parameters_in w) × (0 < length (missing table (parameters_inputs w keys at)))

-- the greatest second of an answer: a message is noted, and nothing else
abbrev pub latest_after : Result Signed AnswerFault → Option ℕ → ℕ → Option ℕ
latest_after (Ok (Message m)) latest at = noted latest at
latest_after (Ok (Missing v)) latest at = latest
latest_after (Err f) latest at = latest
