-- What signatures verify of an RRset does not depend on the case of its owner, nor of the signer.
use Rattle.std.proofs.Common.{◌≡◌, ℕ, ◌-◌, Bool, true, false, ◌&&◌, ◌||◌, not, ◌==◌, List, ◌∷◌, [], ◌++◌, length, drop, get_or, refl, sym, ap, ◌∙◌}
use Rattle.std.specs.Prelude.{Some, None, nat_le, nat_lt, if◌then◌else◌}
use Rattle.std.specs.List.{find, filter_map, list_any, flat_map}
use Rattle.std.specs.Int.{w16, w32, to_be_bytes}
use Rattle.std.specs.Str.{bytes_eq, str_to_ascii_lowercase}
use Rattle.std.proofs.lemmas.List.{length-map}
use Rattle.definitions.specs.Name.{Name, low, labels_eq, same, at_or_above, wire}
use Rattle.definitions.specs.Base32hex.{base32hex}
use Rattle.definitions.specs.Dnskey.{Dnskey}
use Rattle.definitions.specs.Zone.{sorted_data}
use Rattle.definitions.specs.Signing.{Fields, in_time, label_count, signed_owner, signed_octets, fields_data, canonical_record}
use Rattle.answer_scheme.specs.Answers.{Answers}
use Rattle.answer_judge_keys.specs.Trusted.{is_signature, signs, is_due, fits_key, labels_fit, may_expand}
use Rattle.messages.specs.Message.{Spelled, canonical_data, rrsig_at}
use Rattle.messages.specs.Record.{Signature, fields_of, fields_read}
use Rattle.numbers.specs.Decoding.{decoded}
use Rattle.answer_judge_facts.specs.Verified.{Trusting, datum_of, rrset_in, verifies_with, is_verified}
use Rattle.answer_judge_keys.specs.HashOwner.{spells_hash}
use Rattle.messages.proofs.ZoneNames.{low-low, at_or_above-low}
use Rattle.answer_judge_keys.proofs.ZoneData.{label_count-low}

pub same-owner : (r a b : Name) → low a ≡ low b → same r a ≡ same r b
same-owner r a b h = ap (labels_eq (low r)) h

pub above-owner : (apex a b : Name) → low a ≡ low b → at_or_above apex a ≡ at_or_above apex b
above-owner apex a b h = sym (at_or_above-low apex a) ∙ ap (at_or_above (low apex)) h ∙ at_or_above-low apex b

pub label_count-owner : (a b : Name) → low a ≡ low b → label_count a ≡ label_count b
label_count-owner a b h = sym (label_count-low a) ∙ ap label_count h ∙ label_count-low b

length-owner : (a b : Name) → low a ≡ low b → length a ≡ length b
length-owner a b h = sym (length-map a str_to_ascii_lowercase) ∙ ap length h ∙ length-map b str_to_ascii_lowercase

pub signed_owner-owner : (c : ℕ) (a b : Name) → low a ≡ low b → signed_owner c a ≡ signed_owner c b
signed_owner-owner c a b h = let n = label_count-owner a b h in let l = length-owner a b h in (λ i. if nat_lt c (n i) then (42 ∷ []) ∷ drop (l i - c) (h i) else h i)

pub signed_octets-owner : (f : Fields) (a b : Name) (items : List (List ℕ)) → low a ≡ low b → signed_octets f a 1 items ≡ signed_octets f b 1 items
signed_octets-owner f a b items h = ap (λ (o : Name). fields_data f ++ flat_map (canonical_record o f.covered 1 f.ttl) items) (signed_owner-owner f.labels a b h)

labels_fit-owner : (apex a b : Name) (f : Fields) → low a ≡ low b → labels_fit apex a f ≡ labels_fit apex b f
labels_fit-owner apex a b f h = ap (λ n. (f.labels == n) || (may_expand f.covered && nat_lt f.labels n && nat_le (length apex) f.labels)) (label_count-owner a b h)

pub is_due-owner : (apex : Name) (now : ℕ) (a b : Name) (f : Fields) → low a ≡ low b → is_due apex now a f ≡ is_due apex now b f
is_due-owner apex now a b f h = ap (λ fit. fit && in_time f now && same f.signer apex) (labels_fit-owner apex a b f h)

pub signs-owner : (v : Answers) (apex : Name) (keys : List Dnskey) (now : ℕ) (a b : Name) (items : List (List ℕ)) (f : Fields) (sig : List ℕ) → low a ≡ low b → signs v apex keys now a items f sig ≡ signs v apex keys now b items f sig
signs-owner v apex keys now a b items f sig h =
    let d = is_due-owner apex now a b f h in
    let o = signed_octets-owner f a b items h in
    (λ i. elim (not (length items == 0) && d i) [ false ↦ false | true ↦ elim (find (fits_key f) keys) [ None ↦ false | Some k ↦ v.verifies k (o i) sig ] ])

datum_of-owner : (k : ℕ) (m : List ℕ) (a b : Name) (t : ℕ) (r : Spelled) → low a ≡ low b → datum_of k m a t r ≡ datum_of k m b t r
datum_of-owner k m a b t r h = ap (λ (s : Bool). elim ((r.class == 1) && (r.rtype == t) && s) [ true ↦ canonical_data k m r | false ↦ None ]) (same-owner r.owner a b h)

pub rrset_in-owner : (k : ℕ) (m : List ℕ) (rs : List Spelled) (a b : Name) (t : ℕ) → low a ≡ low b → rrset_in k m rs a t ≡ rrset_in k m rs b t
rrset_in-owner k m rs a b t h = (λ i. sorted_data (filter_map (λ r. datum_of-owner k m a b t r h i) rs))

pub verifies_with-owner : (w : Trusting) (k : ℕ) (m : List ℕ) (a b : Name) (t : ℕ) (items : List (List ℕ)) (r : Spelled) → low a ≡ low b → verifies_with w k m a t items r ≡ verifies_with w k m b t items r
verifies_with-owner w k m a b t items r h =
    let s = same-owner r.owner a b h in
    (λ i. elim (is_signature r && (r.class == 1) && s i) [
      | false ↦ false
      | true ↦ elim (rrsig_at k m r) [ None ↦ false | Some f ↦ (f.0.covered == t) && signs-owner w.answers w.apex w.keys w.now a b items f.0 f.1 h i ]
    ])

pub is_verified-owner : (w : Trusting) (k : ℕ) (m : List ℕ) (rs : List Spelled) (a b : Name) (t : ℕ) (items : List (List ℕ)) → low a ≡ low b → is_verified w k m rs a t items ≡ is_verified w k m rs b t items
is_verified-owner w k m rs a b t items h = (λ i. list_any (λ r. verifies_with-owner w k m a b t items r h i) rs)

pub spells-owner : (apex a b : Name) → low a ≡ low b → spells_hash apex a ≡ spells_hash apex b
spells-owner apex [] [] h = refl
spells-owner apex [] (k ∷ b) h = cc
spells-owner apex (l ∷ a) [] h = cc
spells-owner apex (l ∷ a) (k ∷ b) h =
    let first : str_to_ascii_lowercase l ≡ str_to_ascii_lowercase k = ap (λ n. get_or n 0 []) h in
    let rest : low a ≡ low b = ap (drop 1) h in
    (λ i. labels_eq (rest i) (low apex) && bytes_eq (base32hex (decoded (first i))) (first i))

-- ---- signers

-- the signer lowered or as spelled
pub signed_octets-signer : (s : Signature) (owner : Name) (items : List (List ℕ)) → signed_octets (fields_of s) owner 1 items ≡ signed_octets (fields_read s) owner 1 items
signed_octets-signer s owner items =
    let f = fields_read s in
    ap (λ (n : Name). (to_be_bytes w16 f.covered ++ f.algorithm ∷ f.labels ∷ to_be_bytes w32 f.ttl ++ to_be_bytes w32 f.expiration ++ to_be_bytes w32 f.inception ++ to_be_bytes w16 f.tag ++ wire n) ++ flat_map (canonical_record (signed_owner f.labels owner) f.covered 1 f.ttl) items) (low-low f.signer)

pub signs-signer : (v : Answers) (apex : Name) (keys : List Dnskey) (now : ℕ) (owner : Name) (items : List (List ℕ)) (s : Signature) (sig : List ℕ) → signs v apex keys now owner items (fields_of s) sig ≡ signs v apex keys now owner items (fields_read s) sig
signs-signer v apex keys now owner items s sig =
    let f = fields_read s in
    let d : is_due apex now owner (fields_of s) ≡ is_due apex now owner (fields_read s) = ap (λ n. labels_fit apex owner f && in_time f now && labels_eq n (low apex)) (low-low f.signer) in
    let o = signed_octets-signer s owner items in
    (λ i. elim (not (length items == 0) && d i) [ false ↦ false | true ↦ elim (find (fits_key (fields_read s)) keys) [ None ↦ false | Some k ↦ v.verifies k (o i) sig ] ])
