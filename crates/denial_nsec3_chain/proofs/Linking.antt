-- Links of names and of their hashes.
use Rattle.std.proofs.Common.{◌≡◌, ℕ, Bool, true, false, List, [], ◌∷◌, ◌++◌, map, Some, refl, sym, ap, subst, ◌∙◌, inl, inr, append_assoc}
use Rattle.std.specs.Prelude.{if◌then◌else◌}
use Rattle.std.specs.Str.{bytes_eq}
use Rattle.std.specs.List.{AllByRecursion}
use Rattle.std.specs.declared.cmp.Ordering.{Ordering}
use Rattle.std.specs.declared.cmp.Ordering.TheVariants.{Less, Equal, Greater}
use Rattle.std.specs.Ordering.{is_lt, nat_cmp}
use Rattle.std.specs.Cmp.Lexicographic.{slice_cmp, bytes_decides}
use Rattle.std.proofs.lemmas.Cmp.{nat_list_cmp_total, tied_itself}
use Rattle.definitions.specs.Covering.{octets_before}
use Rattle.definitions.specs.Signing.{ascending}
use Rattle.definitions.specs.ZoneChain.{behind, links}
use Rattle.definitions.specs.Name.{Name}
use Rattle.definitions.proofs.Members.{In, Rises, contained, in_contained, in_map, in_append_right}
use Rattle.denial_chain_owners.specs.declared.error.SigningError.{SigningError}
use Rattle.denial_chain_owners.specs.declared.error.SigningError.TheVariants.{NoSingleSoa, MultipleTtlValues, HashFailed, HashTooLong, HashCollision, Memory}
use Rattle.denial_nsec3_names.specs.Chained.{spot_of}
use Rattle.denial_nsec3_names.specs.declared.hashed.HashedName.{HashedName}
use Rattle.definitions.specs.Bitmap.{bitmap}
use Rattle.denial_nsec3_chain.specs.Bits.{spot_types}
use Rattle.denial_nsec3_chain.specs.Linked.{linked, IsLinkFault, Making}
use Rattle.denial_nsec3_chain.specs.Made.{ended, IsBegun}
use Rattle.denial_nsec3_chain.specs.declared.links.Begun.{Begun}
use Rattle.denial_nsec3_chain.specs.Owner.{IsOwnerFault}

abbrev by_octets : List ℕ → List ℕ → Ordering
by_octets = slice_cmp nat_cmp

not_true : (b : Bool) → (b ≡ true → ⊥) → b ≡ false
not_true true f = absurd (f refl)
not_true false f = refl

less : (r : Ordering) → is_lt r ≡ true → r ≡ Less
less Less h = refl
less Equal h = absurd cc
less Greater h = absurd cc

-- ---- hashes that ascend

parts : (a b : List ℕ) (bs : List (List ℕ)) → ascending (a ∷ b ∷ bs) ≡ true → (by_octets a b ≡ Less) × (ascending (b ∷ bs) ≡ true)
parts a b bs h = go (octets_before a b) refl h
  where
    go : (t : Bool) → octets_before a b ≡ t → elim t as (λ _. Bool) [ true ↦ ascending (b ∷ bs) | false ↦ false ] ≡ true → (by_octets a b ≡ Less) × (ascending (b ∷ bs) ≡ true)
    go true e k = (less (by_octets a b) e, k)
    go false e k = absurd cc

before_all : (a : List ℕ) (bs : List (List ℕ)) → ascending (a ∷ bs) ≡ true → (x : List ℕ) → In x bs → by_octets a x ≡ Less
before_all a [] h x i = absurd i
before_all a (b ∷ bs) h x i =
    let p = parts a b bs h in
    elim i [
      | inl e ↦ ap (by_octets a) e ∙ p.0
      | inr j ↦ nat_list_cmp_total.trans a b x p.0 (before_all b bs p.1 x j)
    ]

pub octets_rise : (hs : List (List ℕ)) → ascending hs ≡ true → Rises by_octets nat_list_cmp_total hs
octets_rise [] h = tt
octets_rise (a ∷ []) h = ((λ x i. absurd i), tt)
octets_rise (a ∷ b ∷ bs) h = (before_all a (b ∷ bs) h, octets_rise (b ∷ bs) (parts a b bs h).1)

-- ---- what stands behind

later_unlike : (a x : List ℕ) → by_octets a x ≡ Less → bytes_eq x a ≡ false
later_unlike a x l = not_true (bytes_eq x a) (λ e.
    let n : Equal ≡ Less = sym (tied_itself nat_list_cmp_total a) ∙ ap (by_octets a) (sym ((bytes_decides x a).0 e)) ∙ l in cc)

module _ {A : Type 0} (f : A → List ℕ) where
  abbrev pair : A × A → List ℕ × List ℕ
  pair l = (f l.0, f l.1)

  pub links_map : (first : A) (xs : List A) → links (f first) (map f xs) ≡ map pair (links first xs)
  links_map first [] = refl
  links_map first (a ∷ []) = refl
  links_map first (a ∷ b ∷ bs) = ap (λ ls. (f a, f b) ∷ ls) (links_map first (b ∷ bs))

  pub firsts : (first : A) (xs : List A) → map (λ (l : A × A). l.0) (links first xs) ≡ xs
  firsts first [] = refl
  firsts first (a ∷ []) = refl
  firsts first (a ∷ b ∷ bs) = ap (λ ys. a ∷ ys) (firsts first (b ∷ bs))

  -- each link's next is what stands behind its hash
  abbrev IsBehind : List (List ℕ × List ℕ) → A × A → Type 0
  IsBehind ls m = behind bytes_eq [] (f m.0) ls ≡ f m.1

  skip_all : (first : A) (d : List ℕ × List ℕ) (ls : List (List ℕ × List ℕ)) (xs : List A) → ((x : A) → In x xs → bytes_eq (f x) d.0 ≡ false) → AllByRecursion (IsBehind ls) (links first xs) → AllByRecursion (IsBehind (d ∷ ls)) (links first xs)
  skip_all first d ls [] u h = tt
  skip_all first d ls (a ∷ []) u h = (ap (λ b. if b then d.1 else behind bytes_eq [] (f a) ls) (u a (inl refl)) ∙ h.0, tt)
  skip_all first d ls (a ∷ b ∷ bs) u h = (ap (λ t. if t then d.1 else behind bytes_eq [] (f a) ls) (u a (inl refl)) ∙ h.0, skip_all first d ls (b ∷ bs) (λ x i. u x (inr i)) h.1)

  here : (a next : A) (ls : List (List ℕ × List ℕ)) → behind bytes_eq [] (f a) ((f a, f next) ∷ ls) ≡ f next
  here a next ls = ap (λ b. if b then f next else behind bytes_eq [] (f a) ls) ((bytes_decides (f a) (f a)).1 refl)

  in_rise : (a : A) (xs : List A) → Rises by_octets nat_list_cmp_total (map f (a ∷ xs)) → (x : A) → In x xs → bytes_eq (f x) (f a) ≡ false
  in_rise a xs r x i = later_unlike (f a) (f x) (r.0 (f x) (Rattle.definitions.proofs.Members.in_map f xs x i))

  pub behind_each : (first : A) (xs : List A) → Rises by_octets nat_list_cmp_total (map f xs) → AllByRecursion (IsBehind (links (f first) (map f xs))) (links first xs)
  behind_each first [] r = tt
  behind_each first (a ∷ []) r = (here a first [], tt)
  behind_each first (a ∷ b ∷ bs) r = (
    here a b (links (f first) (map f (b ∷ bs))),
    skip_all first (f a, f b) (links (f first) (map f (b ∷ bs))) (b ∷ bs) (in_rise a (b ∷ bs) r) (behind_each first (b ∷ bs) r.1),
  )

  -- what is made of links is made of names
  pub made_each : {B : Type 0} (made : A × A → B) (of : A → B) (ls : List (A × A)) → AllByRecursion (λ m. made m ≡ of m.0) ls → map made ls ≡ map of (map (λ (l : A × A). l.0) ls)
  made_each made of [] h = refl
  made_each made of (l ∷ ls) h = λ i. h.0 i ∷ made_each made of ls h.1 i

-- those of some items that are not among the last ones are so
pub record Fitting {A : Type 0} (P : A → Type 0) (all left : List A) : Type 0 where
  pub done : List A
  pub parts : all ≡ done ++ left
  pub are : AllByRecursion P done

module _ {A : Type 0} (P : A → Type 0) where
  all_append : (xs : List A) (x : A) → AllByRecursion P xs → P x → AllByRecursion P (xs ++ x ∷ [])
  all_append [] x h p = (p, tt)
  all_append (y ∷ xs) x h p = (h.0, all_append xs x h.1 p)

  -- one more
  pub fitting_more : (all left : List A) (x : A) → Fitting P all (x ∷ left) → P x → Fitting P all left
  fitting_more all left x f p = record { done = f.done ++ x ∷ []; parts = f.parts ∙ sym (append_assoc f.done (x ∷ []) left); are = all_append f.done x f.are p }

  pub fitting_in : (all left : List A) (x : A) → Fitting P all left → In x left → In x all
  fitting_in all left x f i = subst (In x) (sym f.parts) (in_append_right f.done left x i)

-- a link more
pub link_more : {A B : Type 0} (made : A × A → B) (first owner next : A) (left rest : List A) (records new all : List B) → left ≡ next ∷ rest → new ≡ records ++ made (owner, next) ∷ []
    → records ++ map made (links first (owner ∷ left)) ≡ all → new ++ map made (links first (next ∷ rest)) ≡ all
link_more made first owner next left rest records new all l n h =
    ap (λ r. r ++ map made (links first (next ∷ rest))) n
    ∙ append_assoc records (made (owner, next) ∷ []) (map made (links first (next ∷ rest)))
    ∙ ap (λ r. records ++ map made (links first (owner ∷ r))) (sym l) ∙ h

-- a record that was begun ends as the link of its name
pub ended_linked : {N D : Type 0} (name : N → Name) (rtype : D → ℕ) (apex : Name) (m : Making) (h next : HashedName N D) (b : Begun N D) → IsBegun apex h b
    → ended name rtype apex m b next.hash.items ≡ linked name rtype apex m (h, next)
ended_linked name rtype apex m h next b is = λ i. record {
  owner = is.owner i;
  class = 1;
  ttl = m.ttl;
  content = record { params = m.params; next_owner = next.hash.items; types = bitmap (spot_types name rtype apex m.dnskey (spot_of (is.name i))) };
}

-- why a hash is no owner is why its link is refused
pub owner_links : (apex : Name) (hash : List ℕ) (e : SigningError) → IsOwnerFault apex (Some hash) e → IsLinkFault apex (hash ∷ []) e
owner_links apex hash HashTooLong f = (hash, (contained (hash ∷ []) hash (inl refl), f))
owner_links apex hash Memory f = tt
owner_links apex hash HashFailed f = cc
owner_links apex hash NoSingleSoa f = absurd f
owner_links apex hash MultipleTtlValues f = absurd f
owner_links apex hash HashCollision f = absurd f

-- what fits no name is one of more hashes
pub wider_fault : {A : Type 0} (hash : A → List ℕ) (apex : Name) (all : List A) (a : A) (e : SigningError) → In a all → IsLinkFault apex (hash a ∷ []) e → IsLinkFault apex (map hash all) e
wider_fault hash apex all a HashTooLong i f =
    (f.0, (contained (map hash all) f.0 (go (in_contained (hash a ∷ []) f.0 f.1.0.0 f.1.0.1 f.1.0.2)), f.1.1))
  where
    go : In f.0 (hash a ∷ []) → In f.0 (map hash all)
    go k = elim k [
      | inl e ↦ let Q : List ℕ → Type 0 = λ h. In h (map hash all) in subst Q (sym e) (in_map hash all a i)
      | inr m ↦ absurd m
    ]
wider_fault hash apex all a Memory i f = tt
wider_fault hash apex all a NoSingleSoa i f = absurd f
wider_fault hash apex all a MultipleTtlValues i f = absurd f
wider_fault hash apex all a HashFailed i f = absurd f
wider_fault hash apex all a HashCollision i f = absurd f
