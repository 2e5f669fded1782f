-- The groups of a list in order are a partition of it.
use Rattle.std.proofs.Common.{◌≡◌, ◌≢◌, ℕ, Bool, true, false, ◌&&◌, if◌then◌else◌, nat_eq, List, [], ◌∷◌, ◌++◌, refl, sym, ap, ◌∙◌, subst}
use Rattle.std.specs.declared.cmp.Ordering.{Ordering}
use Rattle.std.specs.declared.cmp.Ordering.TheVariants.{Less, Equal, Greater}
use Rattle.std.specs.Cmp.{IsEquivalence, IsTotalOrder, alike_right, nat_cmp_total, unsigned_ties, both_tied}
use Rattle.std.specs.List.{AllByRecursion, flat_map, onto_first}
use Rattle.std.specs.List.Sorted.{IsStrictlySortedBy}
use Rattle.std.specs.Ordering.{is_eq, nat_cmp, ordering_then}
use Rattle.std.proofs.lemmas.Cmp.{on_total, then_total}
use Rattle.std.proofs.lemmas.Map.Keys.{sorted_head, sorted_tail}
use Rattle.definitions.specs.Name.{Name, name_cmp, same}
use Rattle.names_labels.specs.Laws.{name_cmp_ties, name_cmp_total}
use Rattle.plain.specs.Records.{record_canonical_cmp}
use Rattle.plain.specs.declared.record.Record.{Record}
use Rattle.denial_rrsets.specs.GroupLaws.{one_owner_equivalence, one_set_equivalence}
use Rattle.denial_rrsets.specs.Groups.{groups, of_one_owner, of_one_set}
use Rattle.denial_rrsets.specs.Partitions.{AreApart, AreUnlike, IsPartition}
use Rattle.denial_rrsets.proofs.Grouped.{Headed, all_groups, headed}
use Rattle.denial_rrsets.proofs.Grouped.{all_more}

all_parted : {A : Type 0} (P : A → Type 0) (xs ys : List A) → AllByRecursion P (xs ++ ys) → AllByRecursion P xs × AllByRecursion P ys
all_parted P [] ys h = (tt, h)
all_parted P (x ∷ xs) ys h = let r = all_parted P xs ys h.1 in ((h.0, r.0), r.1)

all_in_parts : {A : Type 0} (P : A → Type 0) (gs : List (List A)) → AllByRecursion P (flat_map (λ g. g) gs) → AllByRecursion (λ g. AllByRecursion P g) gs
all_in_parts P [] h = tt
all_in_parts P (g ∷ gs) h = let r = all_parted P g (flat_map (λ g. g) gs) h in (r.0, all_in_parts P gs r.1)

module _ {A : Type 0} (alike : A → A → Bool) (o : IsEquivalence alike) where
  joined_onto : (x : A) (gs : List (List A)) → flat_map (λ g. g) (onto_first x gs) ≡ x ∷ flat_map (λ g. g) gs
  joined_onto x [] = refl
  joined_onto x (g ∷ gs) = refl

  pub joined : (xs : List A) → flat_map (λ g. g) (groups alike xs) ≡ xs
  joined [] = refl
  joined (x ∷ []) = refl
  joined (x ∷ y ∷ ys) = go (alike x y) (joined (y ∷ ys))
    where
      go : (s : Bool) → flat_map (λ g. g) (groups alike (y ∷ ys)) ≡ y ∷ ys → flat_map (λ g. g) (if s then onto_first x (groups alike (y ∷ ys)) else (x ∷ []) ∷ groups alike (y ∷ ys)) ≡ x ∷ y ∷ ys
      go true h = joined_onto x (groups alike (y ∷ ys)) ∙ ap (λ zs. x ∷ zs) h
      go false h = ap (λ zs. x ∷ zs) h

  -- what is unlike the item behind it is unlike all behind it
  abbrev pub Leaves : A → List A → Type 0
  Leaves x [] = Unit {0}
  Leaves x (y ∷ ys) = alike x y ≡ false → AllByRecursion (λ u. alike x u ≡ false) (y ∷ ys)

  abbrev pub Together : List A → Type 0
  Together [] = Unit {0}
  Together (x ∷ xs) = Leaves x xs × Together xs

  apart_from : (y : A) (ys : List A) → Together (y ∷ ys) → AreApart alike (groups alike (y ∷ ys))
  apart_from y [] h = (tt, tt)
  apart_from y (z ∷ zs) h = go (alike y z) refl (headed alike o z zs) (apart_from z zs h.1)
    where
      go : (s : Bool) → alike y z ≡ s → Headed alike z (groups alike (z ∷ zs)) → AreApart alike (groups alike (z ∷ zs)) → AreApart alike (if s then onto_first y (groups alike (z ∷ zs)) else (y ∷ []) ∷ groups alike (z ∷ zs))
      go true e k a =
          let P : List (List A) → Type 0 = λ gs. AreApart alike gs in
          let there : AreApart alike ((z ∷ k.rest) ∷ k.behind) = subst P k.is a in
          let Q : List (List A) → Type 0 = λ gs. AreApart alike (onto_first y gs) in
          let wider : AllByRecursion (AreUnlike alike (y ∷ z ∷ k.rest)) k.behind =
          all_more (AreUnlike alike (z ∷ k.rest)) (AreUnlike alike (y ∷ z ∷ k.rest)) k.behind
          (λ g u. (all_more (λ v. alike z v ≡ false) (λ v. alike y v ≡ false) g (λ v n. o.congr y z v e ∙ n) u.0, u)) there.0 in
          subst Q (sym k.is) (wider, there.1)
      go false e k a =
          let P : List A → Type 0 = λ xs. AllByRecursion (λ u. alike y u ≡ false) xs in
          let parts = all_in_parts (λ u. alike y u ≡ false) (groups alike (z ∷ zs)) (subst P (sym (joined (z ∷ zs))) (h.0 e)) in
          (all_more (λ g. AllByRecursion (λ u. alike y u ≡ false) g) (AreUnlike alike (y ∷ [])) (groups alike (z ∷ zs)) (λ g u. (u, tt)) parts, a)

  pub partition_together : (xs : List A) → Together xs → IsPartition alike xs (groups alike xs)
  partition_together [] h = (refl, tt, tt)
  partition_together (x ∷ xs) h = (joined (x ∷ xs), all_groups alike o (x ∷ xs), apart_from x xs h)

  -- what a coarser order ties stands together in a list in order
  module _ (cmp R : A → A → Ordering) (total : IsTotalOrder R) (ties : (x y : A) → alike x y ≡ is_eq (R x y)) (weaker : (x y : A) → cmp x y ≡ Less → R x y ≢ Greater) where
    squeezed : (x y z : A) → cmp x y ≡ Less → cmp y z ≡ Less → R x z ≡ Equal → R x y ≡ Equal
    squeezed x y z l m e = go (R x y) refl (R y z) refl
      where
        go : (r : Ordering) → R x y ≡ r → (s : Ordering) → R y z ≡ s → R x y ≡ Equal
        go Equal p s q = p
        go Greater p s q = absurd (weaker x y l p)
        go Less p Less q = let w : Less ≡ Equal = sym (total.trans x y z p q) ∙ e in absurd cc
        go Less p Equal q = let w : Less ≡ Equal = sym p ∙ alike_right total y z x q ∙ e in absurd cc
        go Less p Greater q = absurd (weaker y z m q)

    pub still_unlike : (x y z : A) → cmp x y ≡ Less → cmp y z ≡ Less → alike x y ≡ false → alike x z ≡ false
    still_unlike x y z l m n = go (R x z) refl
      where
        go : (r : Ordering) → R x z ≡ r → alike x z ≡ false
        go Less p = ties x z ∙ ap is_eq p
        go Greater p = ties x z ∙ ap is_eq p
        go Equal p =
            let w : true ≡ false = sym (ties x y ∙ ap is_eq (squeezed x y z l m p)) ∙ n in
            absurd cc

    together_sorted : (xs : List A) → IsStrictlySortedBy cmp xs → Together xs
    together_sorted [] h = tt
    together_sorted (x ∷ []) h = (tt, tt)
    together_sorted (x ∷ y ∷ ys) h =
        let first = sorted_head cmp x (y ∷ ys) h in
        let behind = sorted_tail cmp x (y ∷ ys) h in (
          (λ n. (n, all_more (λ u. cmp y u ≡ Less) (λ u. alike x u ≡ false) ys (λ u m. still_unlike x y u first.0 m n) (sorted_head cmp y ys behind))),
          together_sorted (y ∷ ys) behind,
        )

    pub partition_sorted : (xs : List A) → IsStrictlySortedBy cmp xs → IsPartition alike xs (groups alike xs)
    partition_sorted xs h = partition_together xs (together_sorted xs h)

-- the same of equal lists
pub partition_at : {A : Type 0} (alike : A → A → Bool) (xs ys zs : List A) → xs ≡ ys → xs ≡ zs → IsPartition alike xs (groups alike xs) → IsPartition alike ys (groups alike zs)
partition_at {A} alike xs ys zs e f h =
    let P : List A → Type 0 = λ us. IsPartition alike us (groups alike xs) in
    let Q : List A → Type 0 = λ us. IsPartition alike ys (groups alike us) in
    subst Q f (subst P e h)

-- ---- records

module _ {N D : Type 0} (name : N → Name) (rtype : D → ℕ) (by_data : D → D → Ordering) where
  abbrev pub by_owner : Record N D → Record N D → Ordering
  by_owner a b = ordering_then (nat_cmp a.class b.class) (name_cmp (name a.owner) (name b.owner))

  abbrev by_set : Record N D → Record N D → Ordering
  by_set a b = ordering_then (by_owner a b) (nat_cmp (rtype a.content) (rtype b.content))

  pub by_owner_total : IsTotalOrder by_owner
  by_owner_total =
      let class : Record N D → ℕ = λ r. r.class in
      let owner : Record N D → Name = λ r. name r.owner in
      then_total (on_total class nat_cmp_total) (on_total owner name_cmp_total)

  by_set_total : IsTotalOrder by_set
  by_set_total = let type : Record N D → ℕ = λ r. rtype r.content in then_total by_owner_total (on_total type nat_cmp_total)

  pub owner_ties : (a b : Record N D) → of_one_owner name a b ≡ is_eq (by_owner a b)
  owner_ties a b = both_tied (nat_eq a.class b.class) (same (name a.owner) (name b.owner)) (nat_cmp a.class b.class) (name_cmp (name a.owner) (name b.owner)) (unsigned_ties a.class b.class) (name_cmp_ties (name a.owner) (name b.owner))

  and_turned : (s t : Bool) → (s && t) ≡ (t && s)
  and_turned true true = refl
  and_turned true false = refl
  and_turned false true = refl
  and_turned false false = refl

  set_ties : (a b : Record N D) → of_one_set name rtype a b ≡ is_eq (by_set a b)
  set_ties a b =
      and_turned (nat_eq (rtype a.content) (rtype b.content)) (of_one_owner name a b)
      ∙ both_tied (of_one_owner name a b) (nat_eq (rtype a.content) (rtype b.content)) (by_owner a b) (nat_cmp (rtype a.content) (rtype b.content)) (owner_ties a b) (unsigned_ties (rtype a.content) (rtype b.content))

  pub owner_weaker : (c n t : Ordering) → ordering_then c (ordering_then n t) ≡ Less → ordering_then c n ≢ Greater
  owner_weaker Less n t h e = cc
  owner_weaker Equal Less t h e = cc
  owner_weaker Equal Equal t h e = cc
  owner_weaker Equal Greater t h e = cc
  owner_weaker Greater n t h e = cc

  set_weaker : (c n t d : Ordering) → ordering_then c (ordering_then n (ordering_then t d)) ≡ Less → ordering_then (ordering_then c n) t ≢ Greater
  set_weaker Less n t d h e = cc
  set_weaker Equal Less t d h e = cc
  set_weaker Equal Equal Less d h e = cc
  set_weaker Equal Equal Equal d h e = cc
  set_weaker Equal Equal Greater d h e = cc
  set_weaker Equal Greater t d h e = cc
  set_weaker Greater n t d h e = cc

  pub owners_parted : (rs : List (Record N D)) → IsStrictlySortedBy (record_canonical_cmp name rtype by_data) rs → IsPartition (of_one_owner name) rs (groups (of_one_owner name) rs)
  owners_parted = partition_sorted (of_one_owner name) (one_owner_equivalence name) (record_canonical_cmp name rtype by_data) by_owner by_owner_total owner_ties (λ a b h. owner_weaker (nat_cmp a.class b.class) (name_cmp (name a.owner) (name b.owner)) (ordering_then (nat_cmp (rtype a.content) (rtype b.content)) (by_data a.content b.content)) h)

  pub sets_parted : (rs : List (Record N D)) → IsStrictlySortedBy (record_canonical_cmp name rtype by_data) rs → IsPartition (of_one_set name rtype) rs (groups (of_one_set name rtype) rs)
  sets_parted = partition_sorted (of_one_set name rtype) (one_set_equivalence name rtype) (record_canonical_cmp name rtype by_data) by_set by_set_total set_ties (λ a b h. set_weaker (nat_cmp a.class b.class) (name_cmp (name a.owner) (name b.owner)) (nat_cmp (rtype a.content) (rtype b.content)) (by_data a.content b.content) h)

  -- what is not of one owner with the next record is not with a later one
  pub still_apart : (x y z : Record N D) → record_canonical_cmp name rtype by_data x y ≡ Less → record_canonical_cmp name rtype by_data y z ≡ Less → of_one_owner name x y ≡ false → of_one_owner name x z ≡ false
  still_apart = still_unlike (of_one_owner name) (one_owner_equivalence name) (record_canonical_cmp name rtype by_data) by_owner by_owner_total owner_ties (λ a b h. owner_weaker (nat_cmp a.class b.class) (name_cmp (name a.owner) (name b.owner)) (ordering_then (nat_cmp (rtype a.content) (rtype b.content)) (by_data a.content b.content)) h)
