-- The keys of a given DNSKEY answer, and that one at the parent signs them.
use Rattle.std.proofs.Common.{◌≡◌, ℕ, ◌<◌, Bool, true, false, ◌&&◌, List, [], ◌∷◌, ◌++◌, Option, Some, None, eqb, length, map, refl, sym, ap, subst, ◌∙◌, inl}
use Rattle.std.specs.Prelude.{if◌then◌else◌}
use Rattle.std.specs.List.{AllByRecursion, cons_option, filter, filter_map, list_any}
use Rattle.std.specs.Str.{bytes_eq}
use Rattle.std.proofs.lemmas.Bool.{and_from, and_left, and_right, eq-eqb, lt-ltb}
use Rattle.std.proofs.lemmas.List.{append-nil}
use Rattle.std.proofs.lemmas.List.Elements.{filter_map-append}
use lib.Pointwise.{bytes_decides}
use Rattle.definitions.specs.Name.{Name, low, same}
use Rattle.definitions.specs.Dnskey.{Dnskey, Ds, dnskey_data, dnskey_of_data, key_tag}
use Rattle.definitions.specs.Zone.{sorted_data}
use Rattle.definitions.specs.ZoneChain.{Mode}
use Rattle.messages.specs.HandedRr.{HandedRr}
use Rattle.answer_scheme.specs.Answers.{Answers}
use Rattle.answer_judge_facts.specs.Trusted.{digests_to, is_trusted, is_usable, matches_key}
use Rattle.answer_terms.specs.Told.{TellsGroups, AreRecords, AreSignatures, TellsKeys, IsRecord, IsValidSignature, fields_for}
use Rattle.answer_judge.specs.Judged.{ds_authenticates_keys, keys_of, trusting}
use Rattle.answer_judge.specs.Judging.{JudgeInput}
use Rattle.answer_judge_facts.specs.DnskeyAnswer.{key_at, keys_in}
use Rattle.answer_terms.specs.EqualTags.{has_equal_tags}
use Rattle.answer_judge.specs.Meeting.{HasDs, WasGiven}
use Rattle.messages.specs.Message.{Spelled, data_of}
use Rattle.answer_terms.specs.Served.{ServedRrset, by_tag, key_group}
use Rattle.answer_judge_facts.specs.Verified.{Trusting, is_verified}
use Rattle.answer_judge_facts.proofs.GivenKeys.{IsKeyData, by_tag-has, data_of_key, find_kept, key_data, read_all, read_from, read_has, tags_within}
use Rattle.answer_judge.proofs.GivenLists.{has_contained}
use Rattle.answer_judge.proofs.GivenNext.{canonical_octets}
use Rattle.answer_judge.proofs.GivenSignatures.{IsSignedBy, fits_equal, verified_given}
use Rattle.answer_judge_facts.proofs.GivenSorted.{all_has, data_has, some_length, sorted_from, sorted_twice}
use Rattle.messages.proofs.Lists.{Has, all_at, any_from}
use Rattle.messages.proofs.ZoneNames.{labels_eq-same}

-- ---- the keys of a message

abbrev key_when : Bool → List ℕ → Option Dnskey
key_when b d = if b then dnskey_of_data d else None

some_octets : (a b : List ℕ) → Some a ≡ Some b → a ≡ b
some_octets a b e = cc

key_there : (k : ℕ) (m : List ℕ) (apex : Name) (d : List ℕ) (r : Spelled) → IsRecord k m r apex 48 d → key_at m apex r ≡ dnskey_of_data d
key_there k m apex d r is =
    let here = and_from _ _ (and_from _ _ (labels_eq-same (low r.owner) (low apex) is.owner_is) (eq-eqb r.rtype 48 is.type_is)) (eq-eqb r.class 1 is.class_is) in
    let octets : data_of m r ≡ d = some_octets (data_of m r) d (sym (canonical_octets k m r (ap (λ n. eqb n 2) is.type_is) (ap (λ n. eqb n 6) is.type_is) (ap (λ n. eqb n 47) is.type_is) (ap (λ n. eqb n 50) is.type_is)) ∙ is.data_is) in
    (λ i. key_when (here i) (octets i))

keys_there : (k : ℕ) (m : List ℕ) (apex : Name) (g : ServedRrset) (rs : List Spelled) (ds : List (List ℕ)) → g.owner ≡ apex → g.rtype ≡ 48 → AreRecords k m rs g ds → keys_in m apex rs ≡ filter_map dnskey_of_data ds
keys_there k m apex g [] [] o t h = refl
keys_there k m apex g [] (d ∷ ds) o t h = absurd h
keys_there k m apex g (r ∷ rs) [] o t h = absurd h
keys_there k m apex g (r ∷ rs) (d ∷ ds) o t h =
    let first : IsRecord k m r g.owner g.rtype d = h.0 in
    let is : IsRecord k m r apex 48 d = record { owner_is = first.owner_is ∙ ap low o; type_is = first.type_is ∙ t; class_is = first.class_is; data_is = first.data_is } in
    λ i. cons_option (key_there k m apex d r is i) (keys_there k m apex g rs ds o t h.1 i)

no_keys : (v : Dnskey → List ℕ → List ℕ → Bool) (k : ℕ) (m : List ℕ) (rs : List Spelled) (apex : Name) (at life : ℕ) (g : ServedRrset) (keys : List Dnskey) → AreSignatures v k m rs apex at life g keys → keys_in m apex rs ≡ []
no_keys v k m [] apex at life g [] h = refl
no_keys v k m [] apex at life g (key ∷ keys) h = absurd h
no_keys v k m (r ∷ rs) apex at life g [] h = absurd h
no_keys v k m (r ∷ rs) apex at life g (key ∷ keys) h =
    let is : IsValidSignature v k m r apex at life g key = h.0 in
    let other : (same r.owner apex && eqb r.rtype 48 && eqb r.class 1) ≡ false = and_left (same r.owner apex && eqb r.rtype 48) (eqb r.class 1) (and_right (same r.owner apex) (eqb r.rtype 48) (ap (λ n. eqb n 48) is.type_is)) in
    λ i. cons_option (key_when (other i) (data_of m r)) (no_keys v k m rs apex at life g keys h.1 i)

-- a message of one RRset of keys
keys_among : (v : Dnskey → List ℕ → List ℕ → Bool) (k : ℕ) (m : List ℕ) (rs : List Spelled) (apex : Name) (at life : ℕ) (keys : List Dnskey) (g : ServedRrset) → g.owner ≡ apex → g.rtype ≡ 48 → TellsGroups v k m rs apex at life keys (g ∷ []) → keys_in m apex rs ≡ filter_map dnskey_of_data g.datas
keys_among v k m rs apex at life keys g o t (own, signatures, rest, are, records, signs, more) =
    let f = key_at m apex in
    ap (filter_map f) are ∙ filter_map-append f (own ++ signatures) rest
    ∙ (λ i. filter_map-append f own signatures i ++ filter_map f (more i))
    ∙ append-nil (filter_map f own ++ filter_map f signatures)
    ∙ (λ i. keys_there k m apex g own g.datas o t records i ++ no_keys v k m signatures apex at life g (if g.signed then keys else []) signs i)
    ∙ append-nil (filter_map dnskey_of_data g.datas)

-- ---- the keys that are present

abbrev Small : List Dnskey → Type 0
Small ks = AllByRecursion (λ (k : Dnskey). k.flags < 65536) ks

abbrev present_data : List Dnskey → List (List ℕ)
present_data ks = sorted_data (map dnskey_data ks)

are_data : (ks : List Dnskey) → Small ks → AllByRecursion (IsKeyData ks) (present_data ks)
are_data ks small = all_has (IsKeyData ks) (present_data ks) (λ d h. key_data ks d small (sorted_from _ (map dnskey_data ks) d h))

-- the keys of the answer are those that are present, in order of their data
pub keys_given : (v : Dnskey → List ℕ → List ℕ → Bool) (k ttl : ℕ) (apex : Name) (present signers : List Dnskey) (at life : ℕ) (bytes : List ℕ) → (g : TellsKeys v k ttl apex present signers at life bytes) → keys_in bytes apex g.read.records ≡ filter_map dnskey_of_data (present_data present)
keys_given v k ttl apex present signers at life bytes g =
    keys_among v k bytes g.read.records apex at life (by_tag signers) (key_group apex ttl present) refl refl g.groups_are

module _ (v : Dnskey → List ℕ → List ℕ → Bool) (k ttl : ℕ) (apex : Name) (present signers : List Dnskey) (at life : ℕ) (bytes : List ℕ) (g : TellsKeys v k ttl apex present signers at life bytes) (small : Small present) where
  abbrev read_keys : List Dnskey
  read_keys = keys_in bytes apex g.read.records

  read_are : read_keys ≡ filter_map dnskey_of_data (present_data present)
  read_are = keys_given v k ttl apex present signers at life bytes g

  -- their data
  pub keys_data : map dnskey_data read_keys ≡ present_data present
  keys_data = ap (map dnskey_data) read_are ∙ read_all present (present_data present) (are_data present small)

  pub keys_has : (x : Dnskey) → Has present x → Has read_keys x
  keys_has x h =
      subst (λ ks. Has ks x) (sym read_are)
      (read_has present (present_data present) x (are_data present small) (all_at (λ (y : Dnskey). y.flags < 65536) present x small h) (data_has (map dnskey_data present) (dnskey_data x) (data_of_key present x h)))

  pub keys_from : (x : Dnskey) → Has read_keys x → Has present x
  keys_from x h = read_from present (present_data present) x (are_data present small) (subst (λ ks. Has ks x) read_are h)

  pub keys_apart : has_equal_tags present ≡ false → has_equal_tags read_keys ≡ false
  keys_apart e = tags_within read_keys present keys_from e

-- ---- the key at the parent

bytes_itself : (x : List ℕ) → bytes_eq x x ≡ true
bytes_itself x = (bytes_decides x x).1 refl

pub trusted_given : (a : Answers) (apex : Name) (ds : List Ds) (k : Dnskey) → is_usable k ≡ true → HasDs a apex ds k → is_trusted a apex ds k ≡ true
trusted_given a apex ds k usable has =
    let d : Ds = record { tag = key_tag k; algorithm = k.algorithm; digest_type = has.digest_type; digest = has.digest } in
    let digests : digests_to a apex k d ≡ true = ap (λ (o : Option (List ℕ)). elim o [ None ↦ false | Some octets ↦ bytes_eq octets has.digest ]) has.made ∙ bytes_itself has.digest in
    let named : matches_key a apex k d ≡ true = and_from _ _ (and_from _ _ (eq-eqb (key_tag k) (key_tag k) refl) (eq-eqb k.algorithm k.algorithm refl)) digests in
    and_from (is_usable k) (list_any (matches_key a apex k) ds) usable (any_from (matches_key a apex k) ds d (has_contained ds d has.held) named)

pub chained_given : (a : Answers) (k : ℕ) (h : JudgeInput) (mode : Mode) (rs : List HandedRr) → (given : WasGiven a k h mode rs) → ds_authenticates_keys a k h given.keys_told.read ≡ true
chained_given a k h mode rs given =
    let gives = given.keys_told in
    let ttl : ℕ = given.keys_ttl in
    let anchor : Dnskey = given.meet.anchor in
    let present : List Dnskey = given.present in
    let small : Small present = given.flags_are in
    let keys : List Dnskey = keys_of h gives.read in
    let there : Has present anchor = has_contained present anchor given.meet.anchor_present in
    let ds : HasDs a h.apex h.ds anchor = all_at (HasDs a h.apex h.ds) given.parents anchor given.ds_is (has_contained given.parents anchor given.meet.at_parent) in
    let trusted : is_trusted a h.apex h.ds anchor ≡ true = trusted_given a h.apex h.ds anchor given.anchor_usable ds in
    let apart : has_equal_tags keys ≡ false = keys_apart a.verifies k ttl h.apex present given.keysigners given.keys_at given.life h.dnskey_bytes gives small given.present_tags in
    let kept : Has keys anchor = keys_has a.verifies k ttl h.apex present given.keysigners given.keys_at given.life h.dnskey_bytes gives small anchor there in
    let datas : map dnskey_data keys ≡ present_data present = keys_data a.verifies k ttl h.apex present given.keysigners given.keys_at given.life h.dnskey_bytes gives small in
    let w : Trusting = trusting a h (filter (is_trusted a h.apex h.ds) keys) in
    let g : ServedRrset = key_group h.apex ttl present in
    let some : 0 < length (present_data present) = some_length (present_data present) (dnskey_data anchor) (data_has (map dnskey_data present) (dnskey_data anchor) (data_of_key present anchor there)) in
    let by : IsSignedBy w h.apex given.keys_at given.life (by_tag given.keysigners) (g ∷ []) g anchor = record {
      apex_is = refl;
      group = inl refl;
      signed = lt-ltb 0 (length (present_data present)) some;
      some = some;
      fits = fits_equal h.apex g refl;
      signer = by_tag-has given.keysigners anchor given.keysigner_tags (has_contained given.keysigners anchor given.meet.signs_keys);
      found = find_kept (is_trusted a h.apex h.ds) keys anchor (fields_for h.apex given.keys_at given.life g anchor) apart kept trusted refl refl;
      hold = given.keys_hold;
    } in
    ap (is_verified w k h.dnskey_bytes gives.read.records h.apex 48) (ap sorted_data datas ∙ sorted_twice (map dnskey_data present))
    ∙ verified_given w k h.dnskey_bytes gives.read.records h.apex given.keys_at given.life (by_tag given.keysigners) (g ∷ []) h.apex 48 g anchor gives.groups_are by refl refl
