-- RRsets of a message, and which of them are verified, as contracts see them.
use Rattle.std.specs.Prelude.{◌≡◌, Bool, true, false, not, ◌&&◌, ◌||◌, ◌==◌, ℕ, ◌+◌, ◌≤◌, List, [], ◌∷◌, map, length, Option, Some, None, is_some, if◌then◌else◌}
use Rattle.std.specs.List.{filter_map, list_any, AllByRecursion}
use Rattle.std.specs.Cow.{cow_slice_items}
use Rattle.definitions.specs.Name.{Name, same, at_or_above}
use Rattle.definitions.specs.Limits.{pointer_limit}
use Rattle.answer_scheme.specs.Answers.{Answers}
use Rattle.answer_judge_facts.specs.Counted.{can_try, one_if}
use Rattle.answer_judge_facts.specs.Sought.{is_alone}
use Rattle.answer_judge_facts.specs.Times.{Times, same_times}
use Rattle.definitions.specs.Signing.{Fields}
use Rattle.answer_judge_keys.specs.Trusted.{is_signature, signs}
use Rattle.denial_laws.specs.Facts.{Facts, HashLink, Link, Rrset}
use Rattle.messages.specs.Message.{Spelled, nsec3_at, rrsig_at}
use Rattle.answer_judge_facts.specs.Verified.{Trusting, hash_link_with, is_hash_alone, link_of, one_known, rrset_in, verified_by}
use Rattle.answer_judge_keys.specs.HashOwner.{spells_hash}
use Rattle.answer_judge_facts.specs.declared.groups.Signed.{Signed}
use Rattle.std.specs.Option.{option_map}
use Rattle.answer_judge_facts.specs.declared.groups.SignedRrset.{SignedRrset}
use Rattle.answer_judge_keys.specs.declared.trust.Trust.{Trust}

-- what is verified with, under a scheme's answers
abbrev pub held_by : Answers → Trust → Trusting
held_by a t = record { answers = a; apex = t.apex.now; keys = t.keys.now; now = t.moment }

-- the canonical data of a group
abbrev pub data_in : SignedRrset → List (List ℕ)
data_in g = map cow_slice_items g.items.items

-- the group is of a type and an owner, up to case
abbrev pub is_of : Name → ℕ → SignedRrset → Bool
is_of owner t g = (g.rtype == t) && same owner g.owner

-- what a signature says beside the RRset and the name
abbrev pub signed_of : Fields → Signed
signed_of f = record {
  algorithm = f.algorithm;
  labels = f.labels;
  ttl = f.ttl;
  expiration = f.expiration;
  inception = f.inception;
  tag = f.tag;
}

-- the times of the signature that verified a group
abbrev pub times_in : Signed → Times
times_in s = record { inception = s.inception; expiration = s.expiration }

abbrev pub times_by : SignedRrset → Option Times
times_by g = option_map times_in g.verified

-- a signature of other times verified it
abbrev pub is_unlike : Signed → SignedRrset → Bool
is_unlike first g = elim g.verified [ None ↦ false | Some s ↦ not (same_times (times_in first) (times_in s)) ]

abbrev pub or_first : Option Signed → Option Signed → Option Signed
or_first (Some s) t = Some s
or_first None t = t

abbrev pub marked_if : Option Signed → SignedRrset → SignedRrset
marked_if s g = record { owner = g.owner; rtype = g.rtype; items = g.items; verified = or_first g.verified s }

-- verified as it was, or as the first of the records says that verifies it
abbrev pub marked : Trusting → List ℕ → List Spelled → SignedRrset → SignedRrset
marked w m rs g = marked_if (option_map signed_of (verified_by w pointer_limit m rs g.owner g.rtype (data_in g))) g

-- a signature verifies a group's data
abbrev pub signs_group : Trusting → SignedRrset → Fields → List ℕ → Bool
signs_group w g f signature = signs w.answers w.apex w.keys w.now g.owner (data_in g) f signature

-- ---- signatures that are tried

-- a signature of a group that is not verified yet
abbrev pub tries_group : Trusting → Name → Fields → SignedRrset → Bool
tries_group w owner f g = is_of owner f.covered g && (not (is_some g.verified) && can_try w g.owner (data_in g) f)

-- a record is one
abbrev pub is_tried_in : Trusting → List ℕ → List SignedRrset → Spelled → Bool
is_tried_in w m gs r = elim (is_signature r && (r.class == 1)) [
  | false ↦ false
  | true ↦ elim (rrsig_at pointer_limit m r) [ None ↦ false | Some f ↦ list_any (tries_group w r.owner f.0) gs ]
]

-- of some records in turn, each of which may verify a group
abbrev pub tries_in : Trusting → List ℕ → List SignedRrset → List Spelled → ℕ
tries_in w m gs [] = 0
tries_in w m gs (r ∷ rs) = one_if (is_tried_in w m gs r) + tries_in w m (map (marked w m (r ∷ [])) gs) rs

-- ---- records of chains

-- NSEC and NSEC3
abbrev pub is_chain_type : ℕ → Bool
is_chain_type t = (t == 47) || (t == 50)

abbrev pub is_chain : Spelled → Bool
is_chain r = is_chain_type r.rtype && (r.class == 1)

-- a record of a type, class IN
abbrev pub is_record_of : ℕ → Spelled → Bool
is_record_of t r = (r.rtype == t) && (r.class == 1)

-- where records of such a type stand
abbrev pub has_place : ℕ → Name → Name → Bool
has_place t apex owner = if t == 50 then spells_hash apex owner else at_or_above apex owner

-- data that are one record of such a type
abbrev pub holds_one : ℕ → List (List ℕ) → Bool
holds_one t ds = if t == 50 then one_known ds else length ds == 1

-- an owner whose RRset of a chain's type is one record and stands where such records do
abbrev pub stands_alone : List ℕ → Name → List Spelled → ℕ → Name → Bool
stands_alone m apex rs t owner = ((47 == t) && is_alone pointer_limit m apex rs owner) || ((50 == t) && is_hash_alone pointer_limit m apex rs owner)

-- data of NSEC3 records are no longer than a message can say
abbrev pub AreShort : SignedRrset → Type 0
AreShort g = g.rtype ≡ 50 → AllByRecursion (λ d. length d ≤ 65535) (data_in g)

-- a group of an owner and a type is verified
abbrev pub is_proved : Name → ℕ → SignedRrset → Bool
is_proved owner t g = is_some g.verified && is_of owner t g

-- the RRset of such an owner, not yet verified
pub record IsAlone (m : List ℕ) (apex : Name) (rs : List Spelled) (g : SignedRrset) : Type 0 where
  pub data_are : data_in g ≡ rrset_in pointer_limit m rs g.owner g.rtype
  pub alone : stands_alone m apex rs g.rtype g.owner ≡ true
  pub unverified : g.verified ≡ None

-- the owner of a chain's record has a group of its type, where it stands alone
abbrev pub IsGathered : List ℕ → Name → List Spelled → List SignedRrset → Spelled → Type 0
IsGathered m apex rs gs r = is_chain r ≡ true → stands_alone m apex rs r.rtype r.owner ≡ true → list_any (is_of r.owner r.rtype) gs ≡ true

-- groups of the owners of some of a message's records
pub record AreGathered (m : List ℕ) (apex : Name) (rs some : List Spelled) (gs : List SignedRrset) : Type 0 where
  pub each : AllByRecursion (IsAlone m apex rs) gs
  pub all : AllByRecursion (IsGathered m apex rs gs) some

-- the link of a record whose owner has a verified group
abbrev pub link_by : List ℕ → List SignedRrset → Spelled → Option Link
link_by m gs r = elim (is_record_of 47 r && list_any (is_proved r.owner 47) gs) [ true ↦ link_of pointer_limit m r | false ↦ None ]

-- the hash that a record's owner spells, and what its data say
abbrev pub hash_link_of : Name → List ℕ → Spelled → Option HashLink
hash_link_of apex m r = elim (spells_hash apex r.owner) [ true ↦ option_map (hash_link_with r.owner) (nsec3_at m r) | false ↦ None ]

abbrev pub hash_link_by : Name → List ℕ → List SignedRrset → Spelled → Option HashLink
hash_link_by apex m gs r = elim (is_record_of 50 r && list_any (is_proved r.owner 50) gs) [ true ↦ hash_link_of apex m r | false ↦ None ]

-- a group that is verified, with the label count of its signature
abbrev pub rrset_verified : Option SignedRrset → Option Rrset
rrset_verified None = None
rrset_verified (Some g) = option_map (λ s. record { datas = data_in g; labels = s.labels }) g.verified

-- what groups say of chains' records, and one of the RRset that was asked for
abbrev pub facts_by : Name → List ℕ → List Spelled → List SignedRrset → SignedRrset → Facts
facts_by apex m rs chains asked = record {
  rrset = rrset_verified (Some asked);
  links = filter_map (link_by m chains) rs;
  hash_links = filter_map (hash_link_by apex m chains) rs;
}
