-- Keys of different tags: each is the one that its tag names, in lists that have the same keys.
use Rattle.std.proofs.Common.{[], ◌≡◌, ℕ, ◌<◌, Bool, true, false, not, ◌&&◌, List, ◌∷◌, Some, Ordering, eqb, map, refl, sym, ap, subst, ◌∙◌, inl, inr, ⊎_elim}
use Rattle.std.specs.declared.cmp.Ordering.TheVariants.{Equal}
use Rattle.std.specs.List.{AllByRecursion, cons_option, filter, filter_map, find, list_any}
use Rattle.std.specs.Ordering.{nat_cmp}
use Rattle.std.specs.FinMap.{nat_cmp-IsAntisymmetric}
use Rattle.std.specs.Str.{bytes_eq}
use Rattle.std.proofs.lemmas.Bool.{and_from, and_parts, eq-eqb, eqb-true, false_from_ne_true, false≢true}
use lib.Pointwise.{bytes_decides}
use Rattle.definitions.specs.Dnskey.{Dnskey, dnskey_data, dnskey_of_data, key_tag, same_key}
use Rattle.definitions.specs.Signing.{Fields}
use Rattle.answer_terms.proofs.KeyData.{key_read_back}
use Rattle.answer_judge_keys.specs.Trusted.{fits_key}
use Rattle.answer_terms.specs.EqualTags.{clashes, has_equal_tags}
use Rattle.answer_terms.specs.Served.{by_tag}
use Rattle.answer_judge_keys.proofs.GivenSorted.{all_has, filter_from, filter_has, find_only, sorted_has}
use Rattle.messages.proofs.Lists.{Has, all_at, all_fail, any_from, found}

-- ---- the same key

not_not : (b : Bool) → not b ≡ false → b ≡ true
not_not true e = refl
not_not false e = sym e

pub same_key-is : (a b : Dnskey) → same_key a b ≡ true → a ≡ b
same_key-is a b e =
    let o = and_parts (eqb a.flags b.flags && eqb a.protocol b.protocol && eqb a.algorithm b.algorithm) (bytes_eq a.octets b.octets) e in
    let g = and_parts (eqb a.flags b.flags && eqb a.protocol b.protocol) (eqb a.algorithm b.algorithm) o.0 in
    let p = and_parts (eqb a.flags b.flags) (eqb a.protocol b.protocol) g.0 in
    let flags : a.flags ≡ b.flags = eqb-true a.flags b.flags p.0 in
    let protocol : a.protocol ≡ b.protocol = eqb-true a.protocol b.protocol p.1 in
    let algorithm : a.algorithm ≡ b.algorithm = eqb-true a.algorithm b.algorithm g.1 in
    let octets : a.octets ≡ b.octets = (bytes_decides a.octets b.octets).0 o.1 in
    λ i. record { flags = flags i; protocol = protocol i; algorithm = algorithm i; octets = octets i }

-- ---- different tags

-- keys of one tag are one key
pub one_of_tag : (ks : List Dnskey) (a b : Dnskey) → has_equal_tags ks ≡ false → Has ks a → Has ks b → key_tag a ≡ key_tag b → a ≡ b
one_of_tag ks a b apart ha hb e =
    let none : list_any (clashes a) ks ≡ false = all_at (λ (x : Dnskey). list_any (clashes x) ks ≡ false) ks a (all_fail (λ (x : Dnskey). list_any (clashes x) ks) ks apart) ha in
    let unlike : clashes a b ≡ false = all_at (λ (x : Dnskey). clashes a x ≡ false) ks b (all_fail (clashes a) ks none) hb in
    same_key-is a b (not_not (same_key a b) (ap (λ t. t && not (same_key a b)) (sym (eq-eqb (key_tag a) (key_tag b) e)) ∙ unlike))

-- keys that are all among keys of different tags have different tags
pub tags_within : (xs ys : List Dnskey) → ((x : Dnskey) → Has xs x → Has ys x) → has_equal_tags ys ≡ false → has_equal_tags xs ≡ false
tags_within xs ys f apart = false_from_ne_true (has_equal_tags xs) (λ e.
    let a = found (λ (x : Dnskey). list_any (clashes x) xs) xs e in
    let b = found (clashes a.0) xs a.2 in
    let here : list_any (clashes a.0) ys ≡ true = any_from (clashes a.0) ys b.0 (f b.0 b.1) b.2 in
    false≢true (sym apart ∙ any_from (λ (x : Dnskey). list_any (clashes x) ys) ys a.0 (f a.0 a.1) here))

tag_exact : (ks : List Dnskey) → has_equal_tags ks ≡ false → (a b : Dnskey) → Has ks a → Has ks b → nat_cmp (key_tag a) (key_tag b) ≡ Equal → a ≡ b
tag_exact ks apart a b ha hb e = one_of_tag ks a b apart ha hb (nat_cmp-IsAntisymmetric (key_tag a) (key_tag b) e)

abbrev tag_cmp : Dnskey → Dnskey → Ordering
tag_cmp a b = nat_cmp (key_tag a) (key_tag b)

pub by_tag-has : (ks : List Dnskey) (x : Dnskey) → has_equal_tags ks ≡ false → Has ks x → Has (by_tag ks) x
by_tag-has ks x apart h = sorted_has tag_cmp (λ k. Has ks k) (tag_exact ks apart) ks x (all_has (λ k. Has ks k) ks (λ k i. i)) h

-- ---- the key that fields name

fits_tag : (f : Fields) (k : Dnskey) → fits_key f k ≡ true → key_tag k ≡ f.tag
fits_tag f k e = eqb-true (key_tag k) f.tag (and_parts (eqb (key_tag k) f.tag) (eqb k.algorithm f.algorithm) e).0

pub fits_signer : (f : Fields) (k : Dnskey) → f.tag ≡ key_tag k → f.algorithm ≡ k.algorithm → fits_key f k ≡ true
fits_signer f k t a = and_from (eqb (key_tag k) f.tag) (eqb k.algorithm f.algorithm) (eq-eqb (key_tag k) f.tag (sym t)) (eq-eqb k.algorithm f.algorithm (sym a))

pub find_signer : (ks : List Dnskey) (signer : Dnskey) (f : Fields) → has_equal_tags ks ≡ false → Has ks signer → f.tag ≡ key_tag signer → f.algorithm ≡ signer.algorithm → find (fits_key f) ks ≡ Some signer
find_signer ks signer f apart h t a =
    find_only (fits_key f) ks signer h (fits_signer f signer t a) (λ y k e. one_of_tag ks y signer apart k h (fits_tag f y e ∙ t))

-- among the keys that pass a test
pub find_kept : (p : Dnskey → Bool) (ks : List Dnskey) (signer : Dnskey) (f : Fields) → has_equal_tags ks ≡ false → Has ks signer → p signer ≡ true → f.tag ≡ key_tag signer → f.algorithm ≡ signer.algorithm → find (fits_key f) (filter p ks) ≡ Some signer
find_kept p ks signer f apart h passes t a =
    find_signer (filter p ks) signer f (tags_within (filter p ks) ks (λ x i. filter_from p ks x i) apart) (filter_has p ks signer h passes) t a

-- ---- data of keys

-- octets are a key's data
pub record IsKeyData (ks : List Dnskey) (d : List ℕ) : Type 0 where
  pub key : Dnskey
  pub inside : Has ks key
  pub reads : dnskey_of_data d ≡ Some key
  pub data_is : d ≡ dnskey_data key

shifted : (k : Dnskey) (ks : List Dnskey) (d : List ℕ) → IsKeyData ks d → IsKeyData (k ∷ ks) d
shifted k ks d s = record { key = s.key; inside = inr s.inside; reads = s.reads; data_is = s.data_is }

pub key_data : (ks : List Dnskey) (d : List ℕ) → AllByRecursion (λ (k : Dnskey). k.flags < 65536) ks → Has (map dnskey_data ks) d → IsKeyData ks d
key_data [] d small h = absurd h
key_data (k ∷ ks) d small h = ⊎_elim
    (λ (e : d ≡ dnskey_data k). record { key = k; inside = inl refl; reads = ap dnskey_of_data e ∙ key_read_back k small.0; data_is = e })
    (λ (later : Has (map dnskey_data ks) d). shifted k ks d (key_data ks d small.1 later))
    h

pub data_of_key : (ks : List Dnskey) (k : Dnskey) → Has ks k → Has (map dnskey_data ks) (dnskey_data k)
data_of_key [] k h = absurd h
data_of_key (x ∷ ks) k h = ⊎_elim (λ e. inl (ap dnskey_data e)) (λ later. inr (data_of_key ks k later)) h

-- keys that were read of data are spelled by them
pub read_all : (ks : List Dnskey) (ds : List (List ℕ)) → AllByRecursion (IsKeyData ks) ds → map dnskey_data (filter_map dnskey_of_data ds) ≡ ds
read_all ks [] h = refl
read_all ks (d ∷ ds) h =
    let is : IsKeyData ks d = h.0 in
    ap (λ o. map dnskey_data (cons_option o (filter_map dnskey_of_data ds))) is.reads ∙ (λ i. sym is.data_is i ∷ read_all ks ds h.1 i)

pub read_has : (ks : List Dnskey) (ds : List (List ℕ)) (k : Dnskey) → AllByRecursion (IsKeyData ks) ds → k.flags < 65536 → Has ds (dnskey_data k) → Has (filter_map dnskey_of_data ds) k
read_has ks [] k h small i = absurd i
read_has ks (d ∷ ds) k h small i =
    let is : IsKeyData ks d = h.0 in
    let rest : List Dnskey = filter_map dnskey_of_data ds in
    subst (λ o. Has (cons_option o rest) k) (sym is.reads)
    (⊎_elim
    (λ (e : dnskey_data k ≡ d).
    let same : Some k ≡ Some is.key = sym (key_read_back k small) ∙ ap dnskey_of_data e ∙ is.reads in
    inl (some_key k is.key same))
    (λ (later : Has ds (dnskey_data k)). inr (read_has ks ds k h.1 small later))
    i)
  where
    some_key : (a b : Dnskey) → Some a ≡ Some b → a ≡ b
    some_key a b e = cc

pub read_from : (ks : List Dnskey) (ds : List (List ℕ)) (k : Dnskey) → AllByRecursion (IsKeyData ks) ds → Has (filter_map dnskey_of_data ds) k → Has ks k
read_from ks [] k h i = absurd i
read_from ks (d ∷ ds) k h i =
    let is : IsKeyData ks d = h.0 in
    let rest : List Dnskey = filter_map dnskey_of_data ds in
    let j : Has (is.key ∷ rest) k = subst (λ o. Has (cons_option o rest) k) is.reads i in
    ⊎_elim
    (λ (e : k ≡ is.key). subst (λ x. Has ks x) (sym e) is.inside)
    (λ (later : Has rest k). read_from ks ds k h.1 later)
    j
