-- Messages in which nothing is forged, and what may be said of them.
use Rattle.std.specs.Prelude.{◌≡◌, ◌⊎◌, ℕ, ◌<◌, Bool, true, false, List, [], ◌∷◌, Contains, Some, Ok, length, map}
use Rattle.std.specs.List.{AllByRecursion}
use Rattle.definitions.specs.Dnskey.{Dnskey, dnskey_data}
use Rattle.definitions.specs.Laws.{IsSignable}
use Rattle.definitions.specs.Name.{Name, IsName, low, same}
use Rattle.definitions.specs.Signing.{Fields, in_time, label_count, signed_octets}
use Rattle.definitions.specs.Zone.{Verdict, sorted_data, verdict}
use Rattle.definitions.specs.ZoneChain.{Mode, Nsec, Nsec3, optout_of}
use Rattle.denial_laws.specs.Aliases.{is_aliased}
use Rattle.denial_laws.specs.Truth.{IsServable, NoSharedHash}
use Rattle.messages.specs.Handed.{IsHanded}
use Rattle.messages.specs.Message.{AreOctets, Message, Spelled, message, rrsig_at}
use Rattle.messages.specs.WrittenLaws.{IsQuestion}
use Rattle.answer_scheme.specs.Answers.{Answers}
use Rattle.answer_terms.specs.Chainable.{HasChain}
use Rattle.answer_terms.specs.Hashing.{hash_in}
use Rattle.answer_judge_facts.specs.Trusted.{is_trusted, is_usable}
use Rattle.answer_judge.specs.Judging.{Answer, Says, Refuses, JudgeInput}
use Rattle.answer_judge_facts.specs.DnskeyAnswer.{keys_in}
use Rattle.answer_judge_facts.specs.Sought.{Sought, answer_sought, keys_sought}
use Rattle.answer_judge_facts.specs.Times.{Times, times_of}
use Rattle.answer_judge.specs.Versions.{Version, SignedRrset, IsMade, IsRrsetOf, zone_in}

-- ---- what was signed

-- octets of a signature by the apex over an RRset, with whatever TTL, tag and algorithm (RFC 4034, 3.1.8.1)
pub record IsMadeOver (apex : Name) (x : SignedRrset) (f : Fields) (octets : List ℕ) : Type 0 where
  pub covered : f.covered ≡ x.rtype
  pub labels : f.labels ≡ label_count x.owner
  pub signer : f.signer ≡ low apex
  pub fits : IsSignable f x.owner 1 x.datas
  pub is : octets ≡ signed_octets f x.owner 1 x.datas

-- the DNSKEY RRset of some keys
abbrev pub rrset_of_keys : Name → List Dnskey → SignedRrset
rrset_of_keys apex ks = record { owner = apex; rtype = 48; datas = sorted_data (map dnskey_data ks) }

-- a DNSKEY RRset of published keys was signed
pub record IsSignedOfKeys (apex : Name) (published : List Dnskey) (octets : List ℕ) : Type 0 where
  pub present : List Dnskey
  pub published_are : AllByRecursion (Contains published) present
  pub fields : Fields
  pub over : IsMadeOver apex (rrset_of_keys apex present) fields octets

-- a version that was signed, and when these signatures begin and end to hold
pub record Signing : Type 0 where
  pub version : Version
  pub times : Times

-- an RRset of a version was signed
pub record IsSignedOfVersion (a : Answers) (apex : Name) (signings : List Signing) (octets : List ℕ) : Type 0 where
  pub signing : Signing
  pub there : Contains signings signing
  pub rrset : SignedRrset
  pub of : IsRrsetOf apex (hash_in a.hash signing.version.mode) signing.version rrset
  pub fields : Fields
  pub times_are : times_of fields ≡ signing.times
  pub over : IsMadeOver apex rrset fields octets

-- octets that were signed in a zone's life
pub data WasSigned (a : Answers) (apex : Name) (published : List Dnskey) (signings : List Signing) (octets : List ℕ) : Type 0 where
  SignedOfKeys : IsSignedOfKeys apex published octets → WasSigned a apex published signings octets
  SignedOfVersion : IsSignedOfVersion a apex signings octets → WasSigned a apex published signings octets

-- ---- what is forged

-- the RRset that a judge seeks in the DNSKEY answer, and those that it seeks in the zone answer
abbrev pub sought_of_keys : JudgeInput → List Spelled → Sought
sought_of_keys h rs = keys_sought h.apex (keys_in h.dnskey_bytes h.apex rs)

abbrev pub sought_of_answer : ℕ → JudgeInput → List Spelled → Sought
sought_of_answer k h rs = answer_sought k h.answer_bytes h.apex rs h.asked.name h.asked.rtype

-- A signature of a message that a judge may use: the apex's, in time, and of an RRset that is sought (RFC 4035, 5.3.1).
pub record MayBeUsed (k : ℕ) (h : JudgeInput) (sought : Sought) (m : List ℕ) (read : Message) (r : Spelled) (f : Fields) (signature : List ℕ) : Type 0 where
  pub there : Contains read.records r
  pub rtype_is : r.rtype ≡ 46
  pub reads : rrsig_at k m r ≡ Some (f, signature)
  pub timely : in_time f h.now ≡ true
  pub signer_is : same f.signer h.apex ≡ true
  pub sought_is : sought.is r.owner f.covered ≡ true

-- what it is made over, if it is one of the RRset that it covers there
abbrev pub over : Sought → Spelled → Fields → List ℕ
over sought r f = signed_octets f r.owner 1 (sought.datas r.owner f.covered)

-- Each signature that a judge may use, and that passes under a key of the zone which may sign, is over octets that were signed.
-- Of others nothing is asked, and of none what else it may verify: so a scheme meets this whose signatures are shorter than
-- what they are made over.
abbrev pub NothingForged : Answers → ℕ → JudgeInput → List Dnskey → (List ℕ → Type 0) → (List Spelled → Sought) → List ℕ → Type 0
NothingForged a k h published Signed sought m =
    (read : Message) (r : Spelled) (f : Fields) (signature : List ℕ) (key : Dnskey)
    → message k m ≡ Ok read → MayBeUsed k h (sought read.records) m read r f signature
    → Contains published key → is_usable key ≡ true → 0 < length ((sought read.records).datas r.owner f.covered)
    → a.verifies key (over (sought read.records) r f) signature ≡ true → Signed (over (sought read.records) r f)

-- octets of a message, in which nothing is forged
pub record IsHonest (a : Answers) (k : ℕ) (h : JudgeInput) (published : List Dnskey) (Signed : List ℕ → Type 0) (sought : List Spelled → Sought) (m : List ℕ) : Type 0 where
  pub octets_are : AreOctets m
  pub unforged : NothingForged a k h published Signed sought m

-- Each key of the DNSKEY answer that the DS set trusts is published.
abbrev pub NoStranger : Answers → ℕ → JudgeInput → List Dnskey → Type 0
NoStranger a k h published =
    (read : Message) (key : Dnskey)
    → message k h.dnskey_bytes ≡ Ok read → Contains (keys_in h.dnskey_bytes h.apex read.records) key
    → is_trusted a h.apex h.ds key ≡ true → Contains published key

-- ---- versions

-- iterations are a number of 16 bits (RFC 5155, 3.1.3)
abbrev pub FewIterations : Mode → Type 0
FewIterations Nsec = Unit {0}
FewIterations (Nsec3 iterations salt optout) = iterations < 65536

-- A version of a zone in order: a chain can be made of its records, and the names of the chain share no hash with one another
-- or with a name that the question concerns. Records of denial that were made say what is so.
pub record IsVersion (a : Answers) (h : JudgeInput) (v : Version) : Type 0 where
  pub records_are : AllByRecursion IsHanded v.records
  pub in_order : IsServable (zone_in h.apex v)
  pub few : FewIterations v.mode
  pub chain : HasChain a.hash v.mode (zone_in h.apex v)
  pub apart : NoSharedHash (zone_in h.apex v) (hash_in a.hash v.mode) v.mode h.asked.name
  pub truly : AllByRecursion (IsMade (zone_in h.apex v) (hash_in a.hash v.mode) v.mode h.asked.name) v.made

-- Signatures that begin and end in the same seconds are of one version.
abbrev pub OneAtATime : List Signing → Type 0
OneAtATime signings = (x y : Signing) → Contains signings x → Contains signings y → x.times ≡ y.times → x.version ≡ y.version

-- A message has a signature of an RRset that a judge may use, and that passes under a key of the zone which may sign.
pub record HasSignature (a : Answers) (k : ℕ) (h : JudgeInput) (published : List Dnskey) (sought : Sought) (m : List ℕ) (read : Message) (owner : Name) (covered : ℕ) : Type 0 where
  pub rrsig : Spelled
  pub fields : Fields
  pub signature : List ℕ
  pub key : Dnskey
  pub may_be_used : MayBeUsed k h sought m read rrsig fields signature
  pub owner_is : low rrsig.owner ≡ low owner
  pub covered_is : fields.covered ≡ covered
  pub key_published : Contains published key
  pub key_usable : is_usable key ≡ true
  pub some : 0 < length (sought.datas rrsig.owner fields.covered)
  pub passes : a.verifies key (over sought rrsig fields) signature ≡ true

-- One RRset of the zone answer has such a signature, up to the case of its owner: what the answer proves rests on that alone.
abbrev pub HasOneRrset : Answers → ℕ → JudgeInput → List Dnskey → Type 0
HasOneRrset a k h published =
    (read : Message) (o p : Name) (t u : ℕ) → message k h.answer_bytes ≡ Ok read
    → HasSignature a k h published (sought_of_answer k h read.records) h.answer_bytes read o t
    → HasSignature a k h published (sought_of_answer k h read.records) h.answer_bytes read p u → (low o ≡ low p) × (t ≡ u)

-- The zone never changed; or signatures must be of one moment, and at one moment there was one version; or one RRset of the
-- answer is signed, whatever its moment.
abbrev pub Settled : Answers → ℕ → JudgeInput → List Dnskey → List Version → List Signing → Type 0
Settled a k h published versions signings =
    (length versions ≡ 1) ⊎ (((h.one_moment ≡ true) × OneAtATime signings) ⊎ HasOneRrset a k h published)

-- ---- what is handed in

-- What is handed in beside a DS set that isn't empty: two messages that are honest in the life of a zone that had these versions,
-- one at least, whoever signs and serves it. Some keys were published in it, and its versions were signed at some moments.
pub record IsHonestInput (a : Answers) (k : ℕ) (h : JudgeInput) (versions : List Version) : Type 0 where
  pub published : List Dnskey
  pub signings : List Signing
  pub apex_is : IsName h.apex
  pub one : versions ≡ [] → ⊥
  pub versions_are : AllByRecursion (IsVersion a h) versions
  pub asked_is : IsQuestion h.asked
  pub ds_some : h.ds ≡ [] → ⊥
  pub flags_are : AllByRecursion (λ key. key.flags < 65536) published
  pub of_versions : AllByRecursion (λ s. Contains versions s.version) signings
  pub settled : Settled a k h published versions signings
  pub keys_honest : IsHonest a k h published (WasSigned a h.apex published signings) (sought_of_keys h) h.dnskey_bytes
  pub keys_known : NoStranger a k h published
  pub answer_honest : IsHonest a k h published (WasSigned a h.apex published signings) (sought_of_answer k h) h.answer_bytes

-- ---- what is said of it

-- the verdict of a version, and whether the name is an alias in it
abbrev pub verdict_of : JudgeInput → Version → Verdict
verdict_of h v = verdict (zone_in h.apex v) (optout_of v.mode) h.asked.name h.asked.rtype

abbrev pub is_alias_in : JudgeInput → Version → Bool
is_alias_in h v = is_aliased (zone_in h.apex v) (optout_of v.mode) h.asked.name h.asked.rtype

-- a version has this verdict, and the name is no alias in it
pub record IsSaidByOne (h : JudgeInput) (versions : List Version) (w : Verdict) : Type 0 where
  pub version : Version
  pub there : Contains versions version
  pub verdict_is : verdict_of h version ≡ w
  pub no_alias : is_alias_in h version ≡ false

-- no other verdict is said
abbrev pub SaysOneOf : JudgeInput → List Version → Answer → Type 0
SaysOneOf h versions (Says w) = IsSaidByOne h versions w
SaysOneOf h versions (Refuses e) = Unit {0}

-- A judge says of honest messages the verdict of one version, or refuses: never one that a mixture of them brings.
abbrev pub AnswersHonest : Answers → ℕ → JudgeInput → Answer → Type 0
AnswersHonest a k h answer = (versions : List Version) → IsHonestInput a k h versions → SaysOneOf h versions answer

-- ---- a zone that doesn't change

-- this verdict alone is said, and of no alias
abbrev pub SaysAtMost : JudgeInput → Version → Answer → Type 0
SaysAtMost h v (Says w) = (w ≡ verdict_of h v) × (is_alias_in h v ≡ false)
SaysAtMost h v (Refuses e) = Unit {0}

-- all that was signed is of one version
abbrev pub AreHonestOf : Answers → ℕ → JudgeInput → Version → Type 0
AreHonestOf a k h v = IsHonestInput a k h (v ∷ [])

-- of honest messages a judge says the zone's verdict, or refuses, whether or not signatures must be of one moment
abbrev pub AnswersHonestOf : Answers → ℕ → JudgeInput → Answer → Type 0
AnswersHonestOf a k h answer = (v : Version) → AreHonestOf a k h v → SaysAtMost h v answer
