-- What is handed in of a row is honest as far as some premises ask.
use Rattle.std.proofs.Common.{◌≡◌, ℕ, true, false, List, [], ◌∷◌, length, refl, sym, ap, ◌∙◌, inl, inr}
use Rattle.std.specs.Prelude.{Contains, nat_le, nat_lt}
use Rattle.std.specs.List.{AllByRecursion, list_any}
use Rattle.std.proofs.lemmas.Bool.{false≢true}
use Rattle.definitions.specs.Dnskey.{Dnskey, Ds}
use Rattle.definitions.specs.Limits.{pointer_limit}
use Rattle.definitions.specs.Name.{IsName, Name}
use Rattle.definitions.specs.Signing.{label_count, signed_octets}
use Rattle.definitions.specs.Zone.{Verdict}
use Rattle.denial_laws.specs.Truth.{NoSharedHash}
use Rattle.messages.specs.Handed.{IsHanded}
use Rattle.answer_terms.specs.Chainable.{HasChain}
use Rattle.answer_terms.specs.Hashing.{hash_in}
use Rattle.answer_judge.specs.Honest.{FewIterations, IsSaidByOne, NoStranger, NothingForged, Settled, Signing, WasSigned, SignedOfVersion, is_alias_in, sought_of_answer, sought_of_keys, verdict_of}
use Rattle.answer_judge.specs.Versions.{IsMade, IsRrsetOf, Version, zone_in}
use Rattle.answer_judge.specs.Judging.{JudgeInput}
use Rattle.answer_judge.proofs.GivenLists.{has_contained}
use Rattle.counterexamples_honest.specs.Premises.{AreHonestIn, IsServableIn, IsVersionIn, Premises, Where}
use Rattle.counterexamples_honest.specs.Rows.{judge_input}
use Rattle.counterexamples_honest.specs.World.{example, fields, own_key, plain}
use Rattle.counterexamples_honest.proofs.Dealt.{at_place, small_octets}
use Rattle.counterexamples_honest.proofs.Handed.{own_flags, question, signable}
use Rattle.counterexamples_honest.proofs.OwnKeys.{example_is, signed_from}

-- what is handed in, of which versions of a zone, how these were signed, and which keys stood in DNSKEY RRsets that were signed
pub record Row : Type 0 where
  pub set : List Ds
  pub keys : List ℕ
  pub answer : List ℕ
  pub name : Name
  pub rtype : ℕ
  pub versions : List Version
  pub signed_keys : List Dnskey
  pub signings : List Signing

abbrev pub handed_in : Row → JudgeInput
handed_in r = judge_input r.set r.keys r.answer r.name r.rtype

-- a version of a zone, as far as some premises ask
pub record IsInOrder (p : Premises) (v : Version) : Type 0 where
  pub records_are : AllByRecursion IsHanded v.records
  pub in_order : IsServableIn p (zone_in example v)
  pub few : FewIterations v.mode
  pub chain : HasChain plain.hash v.mode (zone_in example v)
  pub truly : (q : Name) → Where p.denials_true (AllByRecursion (IsMade (zone_in example v) (hash_in plain.hash v.mode) v.mode q) v.made)

-- names and octets are such, and each version is one
pub record IsRow (p : Premises) (r : Row) : Type 0 where
  pub name_is : IsName r.name
  pub type_fits : nat_lt r.rtype 65536 ≡ true
  pub keys_octets : list_any (nat_le 256) r.keys ≡ false
  pub answer_octets : list_any (nat_le 256) r.answer ≡ false
  pub some : r.versions ≡ [] → ⊥
  pub versions_are : AllByRecursion (IsInOrder p) r.versions
  pub of_versions : AllByRecursion (λ (s : Signing). Contains r.versions s.version) r.signings

-- what was signed of a row
abbrev pub SignedOf : Row → List ℕ → Type 0
SignedOf r = WasSigned plain example r.signed_keys r.signings

abbrev pub KeysUnforged : Row → Type 0
KeysUnforged r = NothingForged plain pointer_limit (handed_in r) (own_key ∷ []) (SignedOf r) (sought_of_keys (handed_in r)) r.keys

abbrev pub AnswerUnforged : Row → Type 0
AnswerUnforged r = NothingForged plain pointer_limit (handed_in r) (own_key ∷ []) (SignedOf r) (sought_of_answer pointer_limit (handed_in r)) r.answer

-- an RRset of a version, signed by the zone's key from one second to another
pub of_version : (r : Row) (v : Version) (n : Name) (t labels ttl first last : ℕ) (ds : List (List ℕ)) → Contains r.signings (signed_from v first last) → IsName n → labels ≡ label_count n → IsRrsetOf example (hash_in plain.hash v.mode) v (record { owner = n; rtype = t; datas = ds })
    → nat_lt t 65536 ≡ true → nat_lt ttl 4294967296 ≡ true → nat_lt first 4294967296 ≡ true → nat_lt last 4294967296 ≡ true → nat_lt 0 (length ds) ≡ true → list_any (λ d. nat_le 65536 (length d)) ds ≡ false
    → SignedOf r (signed_octets (fields t labels ttl first last own_key) n 1 ds)
of_version r v n t labels ttl first last ds there is count of a b c d e f = SignedOfVersion (record {
  signing = signed_from v first last;
  there = there;
  rrset = record { owner = n; rtype = t; datas = ds };
  of = of;
  fields = fields t labels ttl first last own_key;
  times_are = refl;
  over = record { covered = refl; labels = count; signer = refl; fits = signable t labels ttl first last own_key n ds is a b c d refl e f; is = refl };
})

-- no names of a version's chain share a hash, as far as that is asked
abbrev pub AreApart : Premises → Row → List Version → Type 0
AreApart p r versions = AllByRecursion (λ (v : Version). Where p.hashes_apart (NoSharedHash (zone_in example v) (hash_in plain.hash v.mode) v.mode r.name)) versions

versions_in : (p : Premises) (r : Row) (versions : List Version) → AllByRecursion (IsInOrder p) versions → AreApart p r versions → AllByRecursion (IsVersionIn p plain (handed_in r)) versions
versions_in p r [] are apart = tt
versions_in p r (v ∷ versions) are apart =
    let is : IsInOrder p v = are.0 in
    (record { records_are = is.records_are; in_order = is.in_order; few = is.few; chain = is.chain; apart = apart.0; truly = is.truly r.name }, versions_in p r versions are.1 apart.1)

pub honest_in : (p : Premises) (r : Row) → IsRow p r
    → Where p.ds_some (r.set ≡ [] → ⊥)
    → Where p.keys_published (AllByRecursion (Contains (own_key ∷ [])) r.signed_keys)
    → Where p.settled (Settled plain pointer_limit (handed_in r) (own_key ∷ []) r.versions r.signings)
    → Where p.keys_unforged (KeysUnforged r)
    → Where p.keys_known (NoStranger plain pointer_limit (handed_in r) (own_key ∷ []))
    → Where p.answer_unforged (AnswerUnforged r)
    → AreApart p r r.versions
    → AreHonestIn p plain (handed_in r) r.versions
honest_in p r is some published settled keys known answer apart = record {
  published = own_key ∷ [];
  signed_keys = r.signed_keys;
  signings = r.signings;
  apex_is = example_is;
  one = is.some;
  versions_are = versions_in p r r.versions is.versions_are apart;
  asked_is = question r.name r.rtype is.name_is is.type_fits;
  flags_are = own_flags;
  keys_octets = small_octets r.keys is.keys_octets;
  answer_octets = small_octets r.answer is.answer_octets;
  of_versions = is.of_versions;
  ds_some = some;
  keys_published = published;
  settled = settled;
  keys_unforged = keys;
  keys_known = known;
  answer_unforged = answer;
}

pub own_published : AllByRecursion (Contains (own_key ∷ [])) (own_key ∷ [])
own_published = (at_place (own_key ∷ []) own_key 0 refl refl, tt)

-- a verdict that the one version does not have
pub not_one : (h : JudgeInput) (v : Version) (said : Verdict) → (verdict_of h v ≡ said → ⊥) → IsSaidByOne h (v ∷ []) said → ⊥
not_one h v said n s = elim (has_contained (v ∷ []) s.version s.there) [
  | inl e ↦ n (ap (verdict_of h) (sym e) ∙ s.verdict_is)
  | inr none ↦ absurd none
]

-- an alias in the one version
pub alias_in_one : (h : JudgeInput) (v : Version) (said : Verdict) → is_alias_in h v ≡ true → IsSaidByOne h (v ∷ []) said → ⊥
alias_in_one h v said a s = elim (has_contained (v ∷ []) s.version s.there) [
  | inl e ↦ false≢true (sym s.no_alias ∙ ap (is_alias_in h) e ∙ a)
  | inr none ↦ absurd none
]
