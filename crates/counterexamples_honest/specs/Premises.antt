-- The premises on messages that are handed to a judge, each of which may be left out.
use Rattle.std.specs.Prelude.{◌≡◌, ◌<◌, ℕ, Bool, true, false, List, [], Contains}
use Rattle.std.specs.List.{AllByRecursion}
use Rattle.definitions.specs.Dnskey.{Dnskey}
use Rattle.definitions.specs.Limits.{pointer_limit}
use Rattle.definitions.specs.Name.{IsName, Name, strictly_above}
use Rattle.definitions.specs.Zone.{Verdict, Zone, apex_of, has, is_delegation, owners}
use Rattle.denial_laws.specs.Truth.{NoSharedHash, delegates_star, is_added_type, is_meta_type}
use Rattle.messages.specs.Handed.{IsHanded}
use Rattle.messages.specs.Message.{AreOctets}
use Rattle.messages.specs.WrittenLaws.{IsQuestion}
use Rattle.answer_terms.specs.Chainable.{HasChain}
use Rattle.answer_terms.specs.Hashing.{hash_in}
use Rattle.answer_scheme.specs.Answers.{Answers}
use Rattle.answer_judge.specs.Honest.{AnswersHonest, IsHonestInput, FewIterations, IsSaidByOne, NoStranger, NothingForged, Settled, Signing, WasSigned, sought_of_answer, sought_of_keys}
use Rattle.answer_judge.specs.Versions.{IsMade, Version, zone_in}
use Rattle.answer_judge.specs.Judged.{judged}
use Rattle.answer_judge.specs.Judging.{Answer, JudgeInput, Refuses, Says}
use Rattle.answer_judge.specs.declared.verdict.Refusal.TheVariants.{MixedVersions}

-- Which of them are asked. Beside these a zone has its apex and a chain, and names, numbers and octets are such.
pub record Premises : Type 0 where
  -- the DS set isn't empty
  pub ds_some : Bool
  -- a DNSKEY RRset that was signed holds published keys alone
  pub keys_published : Bool
  -- nothing is forged in the DNSKEY answer
  pub keys_unforged : Bool
  -- a key of the DNSKEY answer that the DS set trusts is published
  pub keys_known : Bool
  -- nothing is forged in the zone answer
  pub answer_unforged : Bool
  -- the names of the chain have different hashes, and no name of the chain shares its hash with another name that the
  -- question concerns
  pub hashes_apart : Bool
  -- records of denial that were made for questions say what is so
  pub denials_true : Bool
  -- the zone never changed, or signatures must be of one moment and at one moment it had one version, or one RRset of the
  -- zone answer is signed
  pub settled : Bool
  -- no record of a zone is of a type that signing adds
  pub ordinary : Bool
  -- nor of a type that is no data, as NXNAME is
  pub real : Bool
  -- nothing stands beside a CNAME
  pub alone : Bool
  -- no DNAME stands at a delegation
  pub uncut : Bool
  -- nothing stands below a DNAME
  pub childless : Bool

abbrev pub all : Premises
all = record {
  ds_some = true;
  keys_published = true;
  keys_unforged = true;
  keys_known = true;
  answer_unforged = true;
  hashes_apart = true;
  denials_true = true;
  settled = true;
  ordinary = true;
  real = true;
  alone = true;
  uncut = true;
  childless = true;
}

-- ---- all but one

abbrev pub without_ds : Premises
without_ds = record all { ds_some = false }

abbrev pub without_keys_published : Premises
without_keys_published = record all { keys_published = false }

abbrev pub without_keys_unforged : Premises
without_keys_unforged = record all { keys_unforged = false }

abbrev pub without_keys_known : Premises
without_keys_known = record all { keys_known = false }

abbrev pub without_answer_unforged : Premises
without_answer_unforged = record all { answer_unforged = false }

abbrev pub without_hashes_apart : Premises
without_hashes_apart = record all { hashes_apart = false }

abbrev pub without_denials_true : Premises
without_denials_true = record all { denials_true = false }

abbrev pub without_settled : Premises
without_settled = record all { settled = false }

abbrev pub without_ordinary : Premises
without_ordinary = record all { ordinary = false }

abbrev pub without_real : Premises
without_real = record all { real = false }

abbrev pub without_alone : Premises
without_alone = record all { alone = false }

abbrev pub without_uncut : Premises
without_uncut = record all { uncut = false }

abbrev pub without_childless : Premises
without_childless = record all { childless = false }

-- ----

-- asked, or not
abbrev pub Where : Bool → Type 0 → Type 0
Where true A = A
Where false A = Unit {0}

-- a zone in order, as far as some premises ask
pub record IsServableIn (p : Premises) (z : Zone) : Type 0 where
  pub apex : Contains (owners z) (apex_of z)
  pub typed : AllByRecursion (λ r. r.rtype < 65536) z.records
  pub ordinary : Where p.ordinary (AllByRecursion (λ r. is_added_type r.rtype ≡ false) z.records)
  pub real : Where p.real (AllByRecursion (λ r. is_meta_type r.rtype ≡ false) z.records)
  pub stars : AllByRecursion (λ r. delegates_star r ≡ false) z.records
  pub alone : Where p.alone ((o : Name) (t : ℕ) → has z o 5 ≡ true → has z o t ≡ true → t ≡ 5)
  pub uncut : Where p.uncut ((o : Name) → has z o 39 ≡ true → is_delegation z o ≡ false)
  pub childless : Where p.childless ((o below : Name) → has z o 39 ≡ true → Contains (owners z) below → strictly_above o below ≡ false)

-- a version of a zone
pub record IsVersionIn (p : Premises) (a : Answers) (h : JudgeInput) (v : Version) : Type 0 where
  pub records_are : AllByRecursion IsHanded v.records
  pub in_order : IsServableIn p (zone_in h.apex v)
  pub few : FewIterations v.mode
  pub chain : HasChain a.hash v.mode (zone_in h.apex v)
  pub apart : Where p.hashes_apart (NoSharedHash (zone_in h.apex v) (hash_in a.hash v.mode) v.mode h.asked.name)
  pub truly : Where p.denials_true (AllByRecursion (IsMade (zone_in h.apex v) (hash_in a.hash v.mode) v.mode h.asked.name) v.made)

-- What is handed in is honest as far as some premises ask. Keys that stand in DNSKEY RRsets which were signed are signed keys.
pub record AreHonestIn (p : Premises) (a : Answers) (h : JudgeInput) (versions : List Version) : Type 0 where
  pub published : List Dnskey
  pub signed_keys : List Dnskey
  pub signings : List Signing
  pub apex_is : IsName h.apex
  pub one : versions ≡ [] → ⊥
  pub versions_are : AllByRecursion (IsVersionIn p a h) versions
  pub asked_is : IsQuestion h.asked
  pub flags_are : AllByRecursion (λ key. key.flags < 65536) published
  pub keys_octets : AreOctets h.dnskey_bytes
  pub answer_octets : AreOctets h.answer_bytes
  pub of_versions : AllByRecursion (λ s. Contains versions s.version) signings
  pub ds_some : Where p.ds_some (h.ds ≡ [] → ⊥)
  pub keys_published : Where p.keys_published (AllByRecursion (Contains published) signed_keys)
  pub settled : Where p.settled (Settled a pointer_limit h published versions signings)
  pub keys_unforged : Where p.keys_unforged (NothingForged a pointer_limit h published (WasSigned a h.apex signed_keys signings) (sought_of_keys h) h.dnskey_bytes)
  pub keys_known : Where p.keys_known (NoStranger a pointer_limit h published)
  pub answer_unforged : Where p.answer_unforged (NothingForged a pointer_limit h published (WasSigned a h.apex signed_keys signings) (sought_of_answer pointer_limit h) h.answer_bytes)

-- with all premises what is handed in is honest, as `IsHonestInput` says it
abbrev pub AllAreHonest : Type 0
AllAreHonest = (a : Answers) (h : JudgeInput) (versions : List Version) → AreHonestIn all a h versions → IsHonestInput a pointer_limit h versions

-- Of some zone and what is handed in of it, as far as some premises ask, a judge says what no version of the zone says of a name
-- that is no alias.
pub record SaysFalsely (p : Premises) : Type 0 where
  pub answers : Answers
  pub judge_input : JudgeInput
  pub versions : List Version
  pub honest : AreHonestIn p answers judge_input versions
  pub said : Verdict
  pub says : judged answers pointer_limit judge_input ≡ Says said
  pub otherwise : IsSaidByOne judge_input versions said → ⊥

-- with all premises it never does
abbrev pub NoneIsFalse : Type 0
NoneIsFalse = SaysFalsely all → ⊥

-- what is handed in of a zone that had these versions is honest, and a judge answers so
pub record IsHonestCase (a : Answers) (h : JudgeInput) (versions : List Version) (answer : Answer) : Type 0 where
  pub honest : IsHonestInput a pointer_limit h versions
  pub answers : judged a pointer_limit h ≡ answer

-- the same, of which a judge that looks away would say what no version says: it would break its promise on honest messages
pub record RefusesFalsehood (a : Answers) (h : JudgeInput) (versions : List Version) (answer : Answer) (said : Verdict) : Type 0 where
  pub case : IsHonestCase a h versions answer
  pub breaks : AnswersHonest a pointer_limit h (Says said) → ⊥

-- two versions of a zone, what is handed in of both, and a verdict that neither has: it is said where signatures need not be of one
-- moment, and else what is handed in is refused
pub record IsMixture (a : Answers) (h : JudgeInput) (versions : List Version) (said : Verdict) : Type 0 where
  pub refused : IsHonestCase a (record h { one_moment = true }) versions (Refuses MixedVersions)
  pub taken : judged a pointer_limit (record h { one_moment = false }) ≡ Says said
  pub otherwise : IsSaidByOne h versions said → ⊥
