-- The data, types and owners of a zone whose records are in order.
use Rattle.std.proofs.Common.{◌≡◌, ℕ, ◌+◌, Bool, true, false, ◌&&◌, cond, List, [], ◌∷◌, map, inr, refl, sym, ap, ◌∙◌, eqb, Ordering, length, arith}
use Rattle.std.specs.declared.cmp.Ordering.TheVariants.{Less, Equal, Greater}
use Rattle.std.specs.List.{list_any, AllByRecursion, filter}
use Rattle.std.specs.List.Sorted.{IsStrictlySortedBy}
use Rattle.std.specs.Prelude.{if◌then◌else◌, IfOk, Result, Ok, Err}
use lib.Pointwise.{bytes_decides}
use Rattle.std.proofs.lemmas.List.{length-map}
use Rattle.std.specs.Ordering.{ordering_then, nat_cmp}
use Rattle.std.specs.Cmp.Lexicographic.{slice_cmp}
use Rattle.std.specs.Str.{bytes_eq, str_to_ascii_lowercase}
use Rattle.std.specs.Char.{to_ascii_lowercase}
use Rattle.std.proofs.lemmas.Cmp.{tied_itself, nat_cmp_total, nat_list_cmp_total}
use Rattle.std.proofs.lemmas.Bool.{and_parts, or_parts}
use Rattle.definitions.specs.Name.{Name, low, labels_eq, same, name_cmp}
use Rattle.definitions.specs.Signing.{label_count}
use Rattle.definitions.specs.Zone.{Rr, owner_of, data_at, sorted_data}
use Rattle.messages.specs.HandedRr.{HandedRr}
use Rattle.answer_terms.specs.Accepting.{record_cmp, rr_of, soas, zone_with}
use Rattle.answer_terms.specs.Served.{owner_among, spelled_among}
use Rattle.answer_terms.specs.ZoneView.{is_of}
use Rattle.answer_terms.proofs.Climbing.{Climbs, less_back, sort_by_climbing, tidy}
use Rattle.messages.proofs.ZoneNames.{low-low, name_cmp-same, same_labels}
use Rattle.messages.proofs.Lists.{both_ways, map-map}

eq_from : (a b : ℕ) → eqb a b ≡ true → a ≡ b
eq_from a b e = grind arith

pub filter-map : {A B : Type 0} (p : B → Bool) (f : A → B) (xs : List A) → filter p (map f xs) ≡ map f (filter (λ x. p (f x)) xs)
filter-map p f [] = refl
filter-map {A} {B} p f (x ∷ xs) =
    let rest : List A = filter (λ y. p (f y)) xs in
    ap (λ ys. cond (p (f x)) (f x ∷ ys) ys) (filter-map p f xs)
    ∙ elim (p (f x)) as (λ b. cond b (f x ∷ map f rest) (map f rest) ≡ map f (cond b (x ∷ rest) rest)) [ true ↦ refl | false ↦ refl ]

-- the types at an owner
-- two records of one RRset differ in their data
later_data : (q : Name) (t : ℕ) (r s : HandedRr) → is_of q t r ≡ true → is_of q t s ≡ true → record_cmp r s ≡ Less → slice_cmp nat_cmp r.bytes s.bytes ≡ Less
later_data q t r s a b e =
    let p = and_parts (same r.owner q) (eqb r.rtype t) a in
    let o = and_parts (same s.owner q) (eqb s.rtype t) b in
    let names : name_cmp r.owner s.owner ≡ Equal = name_cmp-same r.owner s.owner (same_labels (low r.owner) (low q) p.0 ∙ sym (same_labels (low s.owner) (low q) o.0)) in
    let types : nat_cmp r.rtype s.rtype ≡ Equal = ap (λ n. nat_cmp r.rtype n) (eq_from s.rtype t o.1 ∙ sym (eq_from r.rtype t p.1)) ∙ tied_itself nat_cmp_total r.rtype in
    sym (ap (λ x. ordering_then x (ordering_then (nat_cmp r.rtype s.rtype) (slice_cmp nat_cmp r.bytes s.bytes))) names
    ∙ ap (λ x. ordering_then x (slice_cmp nat_cmp r.bytes s.bytes)) types) ∙ e

-- each datum is above those before it
pub Rises : List (List ℕ) → Type 0
Rises [] = Unit {0}
Rises (d ∷ ds) = AllByRecursion (λ e. slice_cmp nat_cmp d e ≡ Less) ds × Rises ds

all_later : (q : Name) (t : ℕ) (r : HandedRr) (xs : List HandedRr) → is_of q t r ≡ true → AllByRecursion (λ y. record_cmp r y ≡ Less) xs → AllByRecursion (λ e. slice_cmp nat_cmp r.bytes e ≡ Less) (map (λ s. s.bytes) (filter (is_of q t) xs))
all_later q t r [] a h = tt
all_later q t r (x ∷ xs) a h =
    let rest : List HandedRr = filter (is_of q t) xs in
    let more = all_later q t r xs a h.1 in
    let go : (b : Bool) → is_of q t x ≡ b → AllByRecursion (λ e. slice_cmp nat_cmp r.bytes e ≡ Less) (map (λ s. s.bytes) (cond b (x ∷ rest) rest)) =
    λ b. elim b as (λ b. is_of q t x ≡ b → AllByRecursion (λ e. slice_cmp nat_cmp r.bytes e ≡ Less) (map (λ s. s.bytes) (cond b (x ∷ rest) rest))) [
      | true ↦ λ e. (later_data q t r x a e h.0, more)
      | false ↦ λ e. more
    ] in
    go (is_of q t x) refl

sorted_parts : (x : HandedRr) (xs : List HandedRr) → IsStrictlySortedBy record_cmp (x ∷ xs) → AllByRecursion (λ y. record_cmp x y ≡ Less) xs × IsStrictlySortedBy record_cmp xs
unfolding IsStrictlySortedBy
sorted_parts x xs s = s

pub data_rise : (q : Name) (t : ℕ) (xs : List HandedRr) → IsStrictlySortedBy record_cmp xs → Rises (map (λ s. s.bytes) (filter (is_of q t) xs))
unfolding Rises
data_rise q t [] h = tt
data_rise q t (x ∷ xs) h =
    let p = sorted_parts x xs h in
    let rest : List HandedRr = filter (is_of q t) xs in
    let more = data_rise q t xs p.1 in
    let go : (b : Bool) → is_of q t x ≡ b → Rises (map (λ s. s.bytes) (cond b (x ∷ rest) rest)) =
    λ b. elim b as (λ b. is_of q t x ≡ b → Rises (map (λ s. s.bytes) (cond b (x ∷ rest) rest))) [
      | true ↦ λ e. (all_later q t x xs e p.0, more)
      | false ↦ λ e. more
    ] in
    go (is_of q t x) refl

rises_tidy : (d : List ℕ) (ds : List (List ℕ)) → Rises (d ∷ ds) → Climbs (slice_cmp nat_cmp) d ds × (tidy (slice_cmp nat_cmp) d ds ≡ d ∷ ds)
unfolding Rises
rises_tidy d [] h = (tt, refl)
rises_tidy d (e ∷ ds) h =
    let above : slice_cmp nat_cmp e d ≡ Greater = less_back (slice_cmp nat_cmp) nat_list_cmp_total d e h.0.0 in
    let more = rises_tidy e ds h.1 in (
      (inr above, more.0),
      ap (λ (o : Ordering). elim o [ Less ↦ tidy (slice_cmp nat_cmp) d ds | Equal ↦ tidy (slice_cmp nat_cmp) d ds | Greater ↦ d ∷ tidy (slice_cmp nat_cmp) e ds ]) above ∙ ap (λ ys. d ∷ ys) more.1,
    )

pub already_sorted : (ds : List (List ℕ)) → Rises ds → sorted_data ds ≡ ds
already_sorted [] h = refl
already_sorted (d ∷ ds) h = let p = rises_tidy d ds h in sort_by_climbing (slice_cmp nat_cmp) nat_list_cmp_total d ds p.0 ∙ p.1

-- the data of an owner and a type stand in order already
pub data_are : (apex : Name) (rs : List HandedRr) → IsStrictlySortedBy record_cmp rs → (q : Name) (t : ℕ) → map (λ r. r.bytes) (filter (is_of q t) rs) ≡ data_at (zone_with apex rs) (low q) t
data_are apex rs h q t =
    sym (already_sorted (map (λ r. r.bytes) (filter (is_of q t) rs)) (data_rise q t rs h))
    ∙ sym (ap sorted_data (ap (map (λ (r : Rr). r.bytes)) (filter-map (λ (r : Rr). labels_eq (owner_of r) (low q) && eqb r.rtype t) rr_of rs)
    ∙ map-map (λ (r : Rr). r.bytes) rr_of (filter (is_of q t) rs)))

-- owners up to case
pub low-owner_among : (rs : List HandedRr) (q : Name) (t : ℕ) → low (owner_among rs (low q) t) ≡ low q
low-owner_among [] q t = low-low q
low-owner_among (r ∷ rs) q t =
    let go : (b : Bool) → is_of q t r ≡ b → low (cond b r.owner (owner_among rs (low q) t)) ≡ low q =
    λ b. elim b as (λ b. is_of q t r ≡ b → low (cond b r.owner (owner_among rs (low q) t)) ≡ low q) [
      | true ↦ λ e. same_labels (low r.owner) (low q) (and_parts (same r.owner q) (eqb r.rtype t) e).0
      | false ↦ λ e. low-owner_among rs q t
    ] in
    go (is_of q t r) refl

pub low-spelled_among : (rs : List HandedRr) (q : Name) → low (spelled_among rs (low q)) ≡ low q
low-spelled_among [] q = low-low q
low-spelled_among (r ∷ rs) q =
    let go : (b : Bool) → same r.owner q ≡ b → low (cond b r.owner (spelled_among rs (low q))) ≡ low q =
    λ b. elim b as (λ b. same r.owner q ≡ b → low (cond b r.owner (spelled_among rs (low q))) ≡ low q) [
      | true ↦ λ e. same_labels (low r.owner) (low q) e
      | false ↦ λ e. low-spelled_among rs q
    ] in
    go (same r.owner q) refl

lower_star : (c : ℕ) → to_ascii_lowercase c ≡ 42 → c ≡ 42
lower_star c e = grind arith

star_from : (l : List ℕ) → str_to_ascii_lowercase l ≡ 42 ∷ [] → l ≡ 42 ∷ []
star_from [] e = cc
star_from (c ∷ []) e = let h : to_ascii_lowercase c ≡ 42 = cc in ap (λ x. x ∷ []) (lower_star c h)
star_from (c ∷ d ∷ l) e = cc

star_low : (l : List ℕ) → bytes_eq (str_to_ascii_lowercase l) (42 ∷ []) ≡ bytes_eq l (42 ∷ [])
star_low l =
    let p = bytes_decides (str_to_ascii_lowercase l) (42 ∷ []) in
    let q = bytes_decides l (42 ∷ []) in
    both_ways _ _ (λ e. q.1 (star_from l (p.0 e))) (λ e. p.1 (ap str_to_ascii_lowercase (q.0 e)))

-- letters' case is no part of a label count
pub label_count-low : (n : Name) → label_count (low n) ≡ label_count n
label_count-low [] = refl
label_count-low (l ∷ n) =
    ap (λ b. if b then length (low n) else length (low n) + 1) (star_low l)
    ∙ ap (λ k. if bytes_eq l (42 ∷ []) then k else k + 1) (length-map n str_to_ascii_lowercase)

pub if_ok_map : {T E : Type 0} (P Q : T → Type 0) (r : Result T E) → ((x : T) → P x → Q x) → IfOk r P → IfOk r Q
if_ok_map P Q (Ok x) f h = f x h
if_ok_map P Q (Err e) f h = tt

none_filtered : {A : Type 0} (p : A → Bool) (xs : List A) → list_any p xs ≡ false → filter p xs ≡ []
none_filtered p [] e = refl
none_filtered p (x ∷ xs) e = let h = or_parts (p x) (list_any p xs) e in ap (λ b. cond b (x ∷ filter p xs) (filter p xs)) h.0 ∙ none_filtered p xs h.1

-- an SOA record stands at the apex
pub soa_there : (apex : Name) (rs : List HandedRr) → length (soas apex rs) ≡ 1 → list_any (is_of apex 6) rs ≡ false → ⊥
soa_there apex rs h e = let n : length (soas apex rs) ≡ 0 = ap length (none_filtered (is_of apex 6) rs e) in omega arith
