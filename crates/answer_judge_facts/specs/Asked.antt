-- Which signatures of a message are verified, with which keys and octets (RFC 4035, 5.2 and 5.3).
use Rattle.std.specs.Prelude.{◌≡◌, ℕ, Bool, true, false, ◌&&◌, ◌||◌, ◌==◌, List, [], ◌∷◌, ◌++◌, map, Some, None, ⊤}
use Rattle.std.specs.List.{AllByRecursion, find}
use Rattle.std.specs.Str.{bytes_eq}
use Rattle.definitions.specs.Name.{Name}
use Rattle.definitions.specs.Dnskey.{Dnskey, same_key}
use Rattle.definitions.specs.Limits.{pointer_limit}
use Rattle.definitions.specs.Signing.{Fields, signed_octets}
use Rattle.messages.specs.Message.{Spelled, rrsig_at}
use Rattle.answer_scheme.specs.Answers.{SignatureTest}
use Rattle.answer_judge_keys.specs.Trusted.{fits_key, is_signature}
use Rattle.answer_judge_facts.specs.Counted.{is_tried}
use Rattle.answer_judge_facts.specs.Marked.{data_in, marked, tries_group}
use Rattle.answer_judge_facts.specs.Sought.{Sought}
use Rattle.answer_judge_facts.specs.Verified.{Trusting}
use Rattle.answer_judge_facts.specs.declared.groups.SignedRrset.{SignedRrset}

-- ---- what a test has to pass for

-- a signature over an RRset, under the key of its tag and algorithm
abbrev pub PassesOver : SignatureTest → List Dnskey → Fields → List ℕ → Name → List (List ℕ) → Type 0
PassesOver test keys f signature owner items = (key : Dnskey) → find (fits_key f) keys ≡ Some key → test key (signed_octets f owner 1 items) signature ≡ true

-- the same, over a group that it is tried on
abbrev pub PassesGroup : SignatureTest → Trusting → Name → Fields → List ℕ → SignedRrset → Type 0
PassesGroup test w owner f signature g = tries_group w owner f g ≡ true → PassesOver test w.keys f signature g.owner (data_in g)

-- a record's signature, over each of some groups that it is tried on
abbrev pub PassesRecord : SignatureTest → Trusting → List ℕ → List SignedRrset → Spelled → Type 0
PassesRecord test w m gs r =
    (f : Fields) (signature : List ℕ) → (is_signature r && (r.class == 1)) ≡ true → rrsig_at pointer_limit m r ≡ Some (f, signature)
    → AllByRecursion (PassesGroup test w r.owner f signature) gs

-- the signatures of some records in turn, each of which may verify a group
abbrev pub PassesGroups : SignatureTest → Trusting → List ℕ → List SignedRrset → List Spelled → Type 0
PassesGroups test w m gs [] = ⊤
PassesGroups test w m gs (r ∷ rs) = PassesRecord test w m gs r × PassesGroups test w m (map (marked w m (r ∷ [])) gs) rs

-- ---- the signatures that are verified

-- the first key of a signature's tag and algorithm
abbrev pub is_found : Trusting → Fields → Dnskey → Bool
is_found w f key = elim (find (fits_key f) w.keys) [ None ↦ false | Some found ↦ same_key key found ]

-- a record's signature, the octets that it is made over for the RRset that is sought, and the key that is found for it
abbrev pub is_carried : Trusting → ℕ → List ℕ → Sought → Spelled → Dnskey → List ℕ → List ℕ → Bool
is_carried w k m s r key octets signature = elim (rrsig_at k m r) [
  | None ↦ false
  | Some f ↦ is_found w f.0 key && bytes_eq signature f.1 && bytes_eq octets (signed_octets f.0 r.owner 1 (s.datas r.owner f.0.covered))
]

-- one that is tried of some records behind others
abbrev pub is_tried_among : Trusting → ℕ → List ℕ → Sought → List Spelled → List Spelled → Dnskey → List ℕ → List ℕ → Bool
is_tried_among w k m s earlier [] key octets signature = false
is_tried_among w k m s earlier (r ∷ rs) key octets signature =
    (is_tried w k m s earlier r && is_carried w k m s r key octets signature) || is_tried_among w k m s (earlier ++ r ∷ []) rs key octets signature

-- what passes one test passes another
abbrev pub Implies : SignatureTest → SignatureTest → Type 0
Implies one other = (key : Dnskey) (octets signature : List ℕ) → one key octets signature ≡ true → other key octets signature ≡ true
