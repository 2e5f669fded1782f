-- Unlike keys of one tag stand side by side among keys by tag.
use Rattle.std.proofs.Common.{◌≡◌, ℕ, zero, suc, ◌<◌, ◌≤◌, drop, length, get_or, Bool, true, false, not, ◌&&◌, ◌==◌, ◌||◌, List, [], ◌∷◌, inl, inr, eqb, refl, sym, ap, ◌∙◌, Ordering, arith}
use Rattle.std.specs.List.{list_any}
use Rattle.std.specs.List.Sorted.{IsPermutation, IsSortedBy, IsSortedByClosure, IsStableByClosure}
use Rattle.std.specs.Fn.{Called}
use Rattle.std.specs.Ordering.{is_lt}
use Rattle.std.proofs.lemmas.List.Sorted.{Contains-permutation, IsPermutation-sym}
use Rattle.std.proofs.lemmas.Bool.{and_from, and_parts, eq-eqb, false≢true, not-true}
use lib.Pointwise.{bytes_decides}
use denote.Param.Members.{Mut}
use denote.Ref.{Bor}
use Rattle.definitions.proofs.Members.{In, any_in, both_ways, within_contained}
use Rattle.definitions.specs.Dnskey.{Dnskey, key_tag, same_key}
use Rattle.definitions.specs.Signing.{Fields}
use Rattle.answer_judge_keys.specs.KeyOrder.{IsRanking, key_cmp}
use Rattle.answer_judge_keys.proofs.GivenKeys.{same_key-is}
use Rattle.answer_judge_keys.proofs.KeyPlaces.{all_one, first_kept, neighbors, sorted_so, stable_so, two_unlike}
use Rattle.answer_terms.specs.EqualTags.{clashes, has_equal_tags}
use Rattle.messages.proofs.Lists.{Has, found}

to_in : (xs : List Dnskey) (x : Dnskey) → Has xs x → In x xs
to_in [] x h = absurd h
to_in (y ∷ ys) x h = elim h [ inl e ↦ inl e | inr later ↦ inr (to_in ys x later) ]

pub same_itself : (k : Dnskey) → same_key k k ≡ true
same_itself k =
    let e = λ (n : ℕ). eq-eqb n n refl in
    and_from _ _ (and_from _ _ (and_from _ _ (e k.flags) (e k.protocol)) (e k.algorithm)) ((bytes_decides k.octets k.octets).1 refl)

not_not : (b : Bool) → not b ≡ false → b ≡ true
not_not true e = refl
not_not false e = sym e

exact : (a b : Dnskey) → key_tag a ≡ key_tag b → clashes a b ≡ false → a ≡ b
exact a b e unlike = same_key-is a b (not_not (same_key a b) (ap (λ t. t && not (same_key a b)) (sym (eq-eqb (key_tag a) (key_tag b) e)) ∙ unlike))

unlike_self : (a b : Dnskey) → clashes a b ≡ true → a ≡ b → ⊥
unlike_self a b c e =
    let p = and_parts (key_tag a == key_tag b) (not (same_key a b)) c in
    let no : same_key a b ≡ false = not-true (same_key a b) p.1 in
    false≢true (sym no ∙ ap (same_key a) (sym e) ∙ same_itself a)

pub neighbors_all : (x : Dnskey) (xs : List Dnskey) → IsSortedBy (λ a b. is_lt (key_cmp a b)) (x ∷ xs) → neighbors clashes x xs ≡ has_equal_tags (x ∷ xs)
neighbors_all x xs s = both_ways (neighbors clashes x xs) (has_equal_tags (x ∷ xs))
    (λ h.
    let r = two_unlike clashes x xs h in
    any_in (λ a. list_any (clashes a) (x ∷ xs)) (x ∷ xs) r.0 r.2 (any_in (clashes r.0) (x ∷ xs) r.1 r.3 r.4))
    (λ h.
    let a = found (λ a. list_any (clashes a) (x ∷ xs)) (x ∷ xs) h in
    let b = found (clashes a.0) (x ∷ xs) a.2 in
    let tags : key_tag a.0 ≡ key_tag b.0 = eqb_true (key_tag a.0) (key_tag b.0) (and_parts (key_tag a.0 == key_tag b.0) (not (same_key a.0 b.0)) b.2).0 in
    not_false (neighbors clashes x xs) (λ n.
    unlike_self a.0 b.0 b.2 (all_one key_tag (λ k. k.algorithm) clashes exact x xs s n a.0 b.0 (to_in (x ∷ xs) a.0 a.1) (to_in (x ∷ xs) b.0 b.1) tags)))
  where
    eqb_true : (m n : ℕ) → eqb m n ≡ true → m ≡ n
    eqb_true m n e = grind arith

    not_false : (b : Bool) → (b ≡ false → ⊥) → b ≡ true
    not_false true f = refl
    not_false false f = absurd (f refl)

-- whether two side by side clash
abbrev pub row : List Dnskey → Bool
row [] = false
row (x ∷ xs) = neighbors clashes x xs

pub row_step : (ks : List Dnskey) (j : ℕ) (a b : Dnskey) → suc j < length ks → a ≡ get_or ks j a → b ≡ get_or ks (suc j) b → row (drop j ks) ≡ (clashes a b || row (drop (suc j) ks))
row_step [] j a b h e f = absurd (omega arith)
row_step (x ∷ []) zero a b h e f = absurd (omega arith)
row_step (x ∷ y ∷ ys) zero a b h e f = (λ i. clashes (sym e i) (sym f i) || neighbors clashes y ys)
row_step (x ∷ ks) (suc j) a b h e f = row_step ks j a b (omega arith) e f

pub row_end : (ks : List Dnskey) (j : ℕ) → length ks ≤ suc j → row (drop j ks) ≡ false
row_end [] zero h = refl
row_end [] (suc j) h = refl
row_end (x ∷ []) zero h = refl
row_end (x ∷ y ∷ ys) zero h = absurd (omega arith)
row_end (x ∷ ks) (suc j) h = row_end ks j (omega arith)

pub row_all : (ks : List Dnskey) → IsSortedBy (λ a b. is_lt (key_cmp a b)) ks → row ks ≡ has_equal_tags ks
row_all [] s = refl
row_all (x ∷ xs) s = neighbors_all x xs s

-- the same keys in another order
pub tags_moved : (ks vs : List Dnskey) → IsPermutation ks vs → has_equal_tags vs ≡ has_equal_tags ks
tags_moved ks vs moved = both_ways (has_equal_tags vs) (has_equal_tags ks)
    (λ h. kept vs ks (λ x i. within_contained vs ks (λ y c. Contains-permutation vs ks y (IsPermutation-sym ks vs moved) c) x i) h)
    (λ h. kept ks vs (λ x i. within_contained ks vs (λ y c. Contains-permutation ks vs y moved c) x i) h)
  where
    kept : (xs ys : List Dnskey) → ((x : Dnskey) → In x xs → In x ys) → has_equal_tags xs ≡ true → has_equal_tags ys ≡ true
    kept xs ys f h =
        let a = found (λ a. list_any (clashes a) xs) xs h in
        let b = found (clashes a.0) xs a.2 in
        any_in (λ a. list_any (clashes a) ys) ys a.0 (f a.0 (to_in xs a.0 a.1)) (any_in (clashes a.0) ys b.0 (f b.0 (to_in xs b.0 b.1)) b.2)

-- what a stable sort by a closure makes of keys
module _ {F : Type 0} {call : Mut F (Bor Dnskey × (Bor Dnskey × Unit {0})) Ordering} {f : F} (gives : (a : Bor Dnskey × (Bor Dnskey × Unit {0})) (r : Ordering) (f' : F) → Called call f a r f' → (r ≡ key_cmp a.0.now a.1.0.now) × (f' ≡ f)) where
  pub ranking : (ks vs : List Dnskey) → IsPermutation ks vs → IsSortedByClosure call f vs → IsStableByClosure call f ks vs → IsRanking ks vs
  ranking ks vs moved s stable = record {
    sorted = sorted_so key_tag (λ k. k.algorithm) gives vs s;
    moved = moved;
    found = λ (e : Fields). first_kept key_tag (λ k. k.algorithm) e.tag e.algorithm ks vs (stable_so key_tag (λ k. k.algorithm) gives ks vs stable);
  }
