-- Few names are hashed for a question, its own and ancestors of it each once.
use Rattle.std.proofs.Common.{◌≡◌, ℕ, ◌+◌, ◌-◌, ◌<◌, ◌≤◌, Bool, true, false, ◌&&◌, not, List, [], ◌∷◌, ◌++◌, length, map, Option, Some, None, refl, ap, arith}
use Rattle.std.specs.List.{AllByRecursion, list_any}
use Rattle.std.proofs.lemmas.Bool.{and_from, or_from, or_right, not_from_false, false_from_ne_true}
use Rattle.definitions.specs.Name.{Name, low, same, labels_eq, at_or_above}
use Rattle.definitions.specs.Zone.{Verdict, star_under}
use Rattle.definitions.proofs.ZoneNames.{above_itself, same-length}
use Rattle.denial_laws.specs.Facts.{Rrset, HashLink, is_expanded}
use Rattle.denial_laws.specs.NsecRules.{first_some}
use Rattle.denial_laws.specs.Nsec3Rules.{last_labels, is_matched, cut_above, encloses, asks_star, hashed_enclosed, hashed_climbing, hashed_denied}
use Rattle.denial_laws.specs.Deciding.{hashed_by_chain, hashed_by_wildcard, hashed_inside, hashed}
use Rattle.denial_laws.specs.Laws.{each_once, WildcardUnderLast, FewHashes}
use Rattle.denial_laws.proofs.Nsec3Wildcard.{drop_above}

-- names above a name, or itself, that are shorter than another
abbrev Beneath : Name → List Name → Type 0
Beneath n ns = AllByRecursion (λ m. (length m < length n) × (at_or_above m n ≡ true)) ns

-- ancestors of a name, each once, and no more than its labels; behind them at most the wildcard under the last
record Fine (n : Name) (ns : List Name) : Type 0 where
  up : List Name
  wildcard : List Name
  parts : ns ≡ up ++ wildcard
  beneath : Beneath n up
  once : each_once (map low up) ≡ true
  under : WildcardUnderLast up wildcard
  few : length ns ≤ length n + 1

none : (n : Name) → Fine n []
none n = record { up = []; wildcard = []; parts = refl; beneath = tt; once = refl; under = tt; few = omega arith }

unlike_shorter : (n m : Name) → length m < length n → same n m ≡ false
unlike_shorter n m h = false_from_ne_true (same n m) (λ e. let even : length n ≡ length m = same-length n m e in omega arith)

unlike_any : (n : Name) (ns : List Name) → Beneath n ns → list_any (labels_eq (low n)) (map low ns) ≡ false
unlike_any n [] h = refl
unlike_any n (m ∷ ns) h = or_from (same n m) (list_any (labels_eq (low n)) (map low ns)) (unlike_shorter n m h.0.0) (unlike_any n ns h.1)

once_more : (n : Name) (ns : List Name) → Beneath n ns → each_once (map low ns) ≡ true → each_once (map low (n ∷ ns)) ≡ true
once_more n ns b h = and_from (not (list_any (labels_eq (low n)) (map low ns))) (each_once (map low ns)) (not_from_false _ (unlike_any n ns b)) h

above_child : (l : List ℕ) (p m : Name) → at_or_above m p ≡ true → at_or_above m (l ∷ p) ≡ true
above_child l p m h = or_right (same m (l ∷ p)) (at_or_above m p) h

-- what is beneath a name is beneath the names below it
lifted : (l : List ℕ) (p : Name) (ns : List Name) → Beneath p ns → Beneath (l ∷ p) ns
lifted l p [] h = tt
lifted l p (m ∷ ns) h =
    let short : length m < length p = h.0.0 in
    ((omega arith, above_child l p m h.0.1), lifted l p ns h.1)

parent_beneath : (l : List ℕ) (p : Name) (ns : List Name) → Beneath p ns → Beneath (l ∷ p) (p ∷ ns)
parent_beneath l p ns h = ((omega arith, above_child l p p (above_itself p)), lifted l p ns h)

-- a name in front of others changes nothing of what stands under the last
under_behind : (n : Name) (ns ws : List Name) → WildcardUnderLast ns ws → WildcardUnderLast (n ∷ ns) ws
under_behind n ns [] h = tt
under_behind n ns (s ∷ more) (end, before, last, parts, is) = (end, n ∷ before, last, ap (λ x. n ∷ x) parts, is)

module _ (apex : Name) (hash : Name → List ℕ) (fs : List HashLink) where
  parent_alone : (l : List ℕ) (p : Name) → Fine (l ∷ p) (p ∷ [])
  parent_alone l p = record {
    up = p ∷ [];
    wildcard = [];
    parts = refl;
    beneath = parent_beneath l p [] tt;
    once = refl;
    under = tt;
    few = omega arith;
  }

  parent_and_star : (l : List ℕ) (p : Name) → Fine (l ∷ p) (p ∷ star_under p ∷ [])
  parent_and_star l p = record {
    up = p ∷ [];
    wildcard = star_under p ∷ [];
    parts = refl;
    beneath = parent_beneath l p [] tt;
    once = refl;
    under = (refl, [], p, refl, refl);
    few = omega arith;
  }

  with_star : (l : List ℕ) (p : Name) → Fine (l ∷ p) (p ∷ hashed_enclosed apex hash (l ∷ p) p fs)
  with_star l p = go (first_some (cut_above apex p (hash (low p))) fs)
    where
      inner : (b : Bool) → Fine (l ∷ p) (p ∷ (elim b as (λ _. List Name) [ true ↦ star_under p ∷ [] | false ↦ [] ]))
      inner true = parent_and_star l p
      inner false = parent_alone l p

      go : (o : Option Verdict) → Fine (l ∷ p) (p ∷ (elim o as (λ _. List Name) [
        | Some v ↦ []
        | None ↦ elim (list_any (encloses (hash (low p))) fs && asks_star (hash (low (l ∷ p))) fs) [ true ↦ star_under p ∷ [] | false ↦ [] ]
      ]))
      go (Some v) = parent_alone l p
      go None = inner (list_any (encloses (hash (low p))) fs && asks_star (hash (low (l ∷ p))) fs)

  further : (l : List ℕ) (p : Name) (ns : List Name) → Fine p ns → Fine (l ∷ p) (p ∷ ns)
  further l p ns k =
      let few : length ns ≤ length p + 1 = k.few in
      record {
        up = p ∷ k.up;
        wildcard = k.wildcard;
        parts = ap (λ x. p ∷ x) k.parts;
        beneath = parent_beneath l p k.up k.beneath;
        once = once_more p k.up k.beneath k.once;
        under = under_behind p k.up k.wildcard k.under;
        few = omega arith;
      }

  climbing : (q : Name) → Fine q (hashed_climbing apex hash q fs)
  climbing [] = none []
  climbing (l ∷ p) = go (same (l ∷ p) apex) (is_matched fs (hash (low p))) (climbing p)
    where
      go : (a m : Bool) → Fine p (hashed_climbing apex hash p fs)
          → Fine (l ∷ p) (elim a as (λ _. List Name) [ true ↦ [] | false ↦ p ∷ elim m [ true ↦ hashed_enclosed apex hash (l ∷ p) p fs | false ↦ hashed_climbing apex hash p fs ] ])
      go true m k = none (l ∷ p)
      go false true k = with_star l p
      go false false k = further l p (hashed_climbing apex hash p fs) k

-- ---- of facts

-- a name and ancestors of it, each once, and behind them at most the wildcard under the last
record Few (q : Name) (ns : List Name) : Type 0 where
  few : length ns ≤ length q + 2
  up : List Name
  wildcard : List Name
  parts : ns ≡ up ++ wildcard
  above : AllByRecursion (λ n. at_or_above n q ≡ true) up
  once : each_once (map low up) ≡ true
  under : WildcardUnderLast up wildcard

no_name : (q : Name) → Few q []
no_name q = record { few = omega arith; up = []; wildcard = []; parts = refl; above = tt; once = refl; under = tt }

one_name : (q n : Name) → at_or_above n q ≡ true → Few q (n ∷ [])
one_name q n h = record { few = omega arith; up = n ∷ []; wildcard = []; parts = refl; above = (h, tt); once = refl; under = tt }

all_above : (q : Name) (ns : List Name) → Beneath q ns → AllByRecursion (λ n. at_or_above n q ≡ true) ns
all_above q [] h = tt
all_above q (m ∷ ns) h = (h.0.1, all_above q ns h.1)

-- the name itself, then what is beneath it
name_first : (q : Name) (ns : List Name) → Fine q ns → Few q (q ∷ ns)
name_first q ns k =
    let few : length ns ≤ length q + 1 = k.few in
    record {
      few = omega arith;
      up = q ∷ k.up;
      wildcard = k.wildcard;
      parts = ap (λ x. q ∷ x) k.parts;
      above = (above_itself q, all_above q k.up k.beneath);
      once = once_more q k.up k.beneath k.once;
      under = under_behind q k.up k.wildcard k.under;
    }

of_chain : (apex : Name) (hash : Name → List ℕ) (fs : List HashLink) (q : Name) → Few q (hashed_denied apex hash q fs)
of_chain apex hash fs q = go (is_matched fs (hash (low q)))
  where
    go : (m : Bool) → Few q (q ∷ (elim m as (λ _. List Name) [ true ↦ [] | false ↦ hashed_climbing apex hash q fs ]))
    go true = name_first q [] (none q)
    go false = name_first q (hashed_climbing apex hash q fs) (climbing apex hash fs q)

by_chain : (apex : Name) (hash : Name → List ℕ) (fs : List HashLink) (q : Name) → Few q (hashed_by_chain apex hash fs q)
by_chain apex hash [] q = no_name q
by_chain apex hash (f ∷ fs) q = of_chain apex hash (f ∷ fs) q

by_wildcard : (fs : List HashLink) (r : Rrset) (q : Name) → Few q (hashed_by_wildcard fs r q)
by_wildcard [] r q = no_name q
by_wildcard (f ∷ fs) r q = one_name q (last_labels (r.labels + 1) q) (drop_above (length q - (r.labels + 1)) q)

expanded_or_not : (fs : List HashLink) (r : Rrset) (q : Name) (b : Bool) → Few q (elim b as (λ _. List Name) [ false ↦ [] | true ↦ hashed_by_wildcard fs r q ])
expanded_or_not fs r q false = no_name q
expanded_or_not fs r q true = by_wildcard fs r q

inside : (apex : Name) (hash : Name → List ℕ) (fs : List HashLink) (q : Name) (o : Option Rrset)
    → Few q (elim o as (λ _. List Name) [ None ↦ hashed_by_chain apex hash fs q | Some r ↦ elim (is_expanded r q) [ false ↦ [] | true ↦ hashed_by_wildcard fs r q ] ])
inside apex hash fs q None = by_chain apex hash fs q
inside apex hash fs q (Some r) = expanded_or_not fs r q (is_expanded r q)

inside_or_not : (b : Bool) (q : Name) (ns : List Name) → Few q ns → Few q (elim b as (λ _. List Name) [ true ↦ ns | false ↦ [] ])
inside_or_not true q ns h = h
inside_or_not false q ns h = no_name q

pub few_hashes : FewHashes
few_hashes apex hash f q =
    let all : Few q (hashed apex hash f q) = inside_or_not (at_or_above apex q) q (hashed_inside apex hash f q) (inside apex hash f.hash_links q f.rrset) in
    record { few = all.few; up = all.up; wildcard = all.wildcard; parts = all.parts; above = all.above; once = all.once; under = all.under }
