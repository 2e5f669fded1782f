-- Items that pass, found by the places at which groups begin.
use Rattle.std.proofs.Common.{◌≡◌, ◌≢◌, ℕ, zero, suc, ◌+◌, ◌-◌, ◌<◌, ◌≤◌, Bool, true, false, ◌&&◌, nat_eq, if◌then◌else◌, List, [], ◌∷◌, ◌++◌, length, take, drop, get_or, refl, sym, ap, ◌∙◌, subst, Some, None, arith, length-drop}
use Rattle.std.proofs.lemmas.Bool.{both_ways}
use Rattle.std.proofs.lemmas.List.{drop-drop, length-take-le, take-append-drop}
use Rattle.std.proofs.lemmas.Cmp.{on_total, then_total}
use Rattle.std.proofs.lemmas.Map.Keys.{sorted_head, sorted_tail}
use Rattle.std.specs.Cmp.{IsEquivalence, IsTotalOrder, and_equiv, nat_cmp_total, nat_eq_equiv, on_equiv, unsigned_ties, both_tied}
use Rattle.std.specs.declared.cmp.Ordering.{Ordering}
use Rattle.std.specs.declared.cmp.Ordering.TheVariants.{Less, Equal, Greater}
use Rattle.std.specs.List.{AllByRecursion, flat_map}
use Rattle.std.specs.List.Sorted.{IsStrictlySortedBy}
use Rattle.std.specs.Ordering.{is_eq, is_lt, nat_cmp, ordering_then}
use Rattle.definitions.specs.Name.{Name, name_cmp, same}
use Rattle.names_labels.specs.Laws.{name_cmp_ties, name_cmp_total, same_equivalence}
use Rattle.plain.specs.Records.{record_canonical_cmp}
use Rattle.plain.specs.declared.record.Record.{Record}
use Rattle.denial_sorted.specs.declared.search.Span.{Span}
use Rattle.denial_rrsets.specs.GroupLaws.{one_owner_equivalence}
use Rattle.denial_rrsets.specs.Groups.{IsGroup, groups, of_one_owner}
use Rattle.denial_sorted.specs.Owned.{is_before, is_owned}
use Rattle.denial_rrsets.specs.Partitions.{AreApart, AreUnlike}
use Rattle.denial_sorted.specs.Spans.{IsSpan}
use Rattle.denial_rrsets.specs.Starts.{later_starts, starts_in}
use Rattle.denial_sorted.proofs.Parted.{owner_ties, owner_weaker, owners_parted, joined}
use Rattle.denial_rrsets.proofs.Grouped.{all_more}
use Rattle.denial_sorted.proofs.Putting.{turned}
use Rattle.denial_rrsets.proofs.Started.{few_more, first_is, more, next_is, start_at}

pub all_taken : {A : Type 0} (P : A → Type 0) (n k r : ℕ) (xs : List A) → n ≡ k + r → AllByRecursion P (take k xs) → AllByRecursion P (take r (drop k xs)) → AllByRecursion P (take n xs)
all_taken P n zero r xs e f h = let e' : r ≡ n = omega arith in let Q : ℕ → Type 0 = λ m. AllByRecursion P (take m xs) in subst Q e' h
all_taken P zero (suc k) r xs e f h = absurd (omega arith)
all_taken P (suc n) (suc k) r [] e f h = tt
all_taken P (suc n) (suc k) r (x ∷ xs) e f h = (f.0, all_taken P n k r xs (omega arith) f.1 h)

pub all_dropped : {A : Type 0} (P : A → Type 0) (k : ℕ) (xs : List A) → AllByRecursion P xs → AllByRecursion P (drop k xs)
all_dropped P zero xs h = h
all_dropped P (suc k) [] h = h
all_dropped P (suc k) (x ∷ xs) h = all_dropped P k xs h.1

all_both : {A : Type 0} (P : A → Type 0) (xs ys : List A) → AllByRecursion P xs → AllByRecursion P ys → AllByRecursion P (xs ++ ys)
all_both P [] ys a b = b
all_both P (x ∷ xs) ys a b = (a.0, all_both P xs ys a.1 b)

all_flat : {A : Type 0} (P : A → Type 0) (gs : List (List A)) → AllByRecursion (λ g. AllByRecursion P g) gs → AllByRecursion P (flat_map (λ g. g) gs)
all_flat P [] h = tt
all_flat P (g ∷ gs) h = all_both P g (flat_map (λ g. g) gs) h.0 (all_flat P gs h.1)

-- an item behind a place, and those behind it
pub record ItemAt {A : Type 0} (xs : List A) (k : ℕ) : Type 0 where
  pub item : A
  pub rest : List A
  pub is : drop k xs ≡ item ∷ rest
  pub got : (d : A) → get_or xs k d ≡ item
  pub count : length xs ≡ k + suc (length rest)

pub item_at : {A : Type 0} (xs : List A) (k : ℕ) → k < length xs → ItemAt xs k
item_at [] k l = absurd (omega arith)
item_at (x ∷ xs) zero l = record { item = x; rest = xs; is = refl; got = λ d. refl; count = omega arith }
item_at (x ∷ xs) (suc k) l = let r = item_at xs k (omega arith) in let e = r.count in record { item = r.item; rest = r.rest; is = r.is; got = r.got; count = omega arith }

module _ {A : Type 0} (p : A → Bool) where
  -- once an item fails, all behind it do
  abbrev pub Falling : List A → Type 0
  Falling [] = Unit {0}
  Falling (x ∷ xs) = (p x ≡ false → AllByRecursion (λ y. p y ≡ false) xs) × Falling xs

  pub falling_sorted : (cmp : A → A → Ordering) → ((x y : A) → cmp x y ≡ Less → p x ≡ false → p y ≡ false) → (xs : List A) → IsStrictlySortedBy cmp xs → Falling xs
  falling_sorted cmp f [] h = tt
  falling_sorted cmp f (x ∷ xs) h =
      (λ e. all_more (λ y. cmp x y ≡ Less) (λ y. p y ≡ false) xs (λ y l. f x y l e) (sorted_head cmp x xs h), falling_sorted cmp f xs (sorted_tail cmp x xs h))

  falling_dropped : (k : ℕ) (xs : List A) → Falling xs → Falling (drop k xs)
  falling_dropped zero xs h = h
  falling_dropped (suc k) [] h = h
  falling_dropped (suc k) (x ∷ xs) h = falling_dropped k xs h.1

  pub pass_before : (k : ℕ) (xs : List A) (y : A) (ys : List A) → Falling xs → drop k xs ≡ y ∷ ys → p y ≡ true → AllByRecursion (λ x. p x ≡ true) (take k xs)
  pass_before zero xs y ys f e t = tt
  pass_before (suc k) [] y ys f e t = tt
  pass_before (suc k) (x ∷ xs) y ys f e t = (first (p x) refl, pass_before k xs y ys f.1 e t)
    where
      first : (s : Bool) → p x ≡ s → p x ≡ true
      first true q = q
      first false q =
          let P : List A → Type 0 = λ zs. AllByRecursion (λ z. p z ≡ false) zs in
          let later : AllByRecursion (λ z. p z ≡ false) (y ∷ ys) = subst P e (all_dropped (λ z. p z ≡ false) k xs (f.0 q)) in
          absurd (both_ways (p y) later.0 t)

  pub fail_behind : (k : ℕ) (xs : List A) (y : A) (ys : List A) → Falling xs → drop k xs ≡ y ∷ ys → p y ≡ false → AllByRecursion (λ x. p x ≡ false) (drop k xs)
  fail_behind k xs y ys f e t =
      let there : Falling (y ∷ ys) = subst Falling e (falling_dropped k xs f) in
      let P : List A → Type 0 = λ zs. AllByRecursion (λ z. p z ≡ false) zs in
      subst P (sym e) (t, there.0 t)

  pub group_passes : (alike : A → A → Bool) → ((a b : A) → alike a b ≡ true → p a ≡ p b) → (t : Bool) (y : A) (ys : List A) → p y ≡ t → AllByRecursion (λ x. p x ≡ t) (y ∷ take (more alike y ys) ys)
  group_passes alike same t y [] e = (e, tt)
  group_passes alike same t y (z ∷ zs) e = go (alike y z) refl (λ b. group_passes alike same t z zs b)
    where
      go : (s : Bool) → alike y z ≡ s → (p z ≡ t → AllByRecursion (λ x. p x ≡ t) (z ∷ take (more alike z zs) zs)) → AllByRecursion (λ x. p x ≡ t) (y ∷ take (if s then suc (more alike z zs) else 0) (z ∷ zs))
      go true a h = (e, h (sym (same y z a) ∙ e))
      go false a h = (e, tt)

-- the group that begins at one of the places
pub record GroupAt {A : Type 0} (alike : A → A → Bool) (xs : List A) (m : ℕ) : Type 0 where
  pub place : ℕ
  pub is : (d : ℕ) → get_or (starts_in alike xs) m d ≡ place
  pub within : place < length xs
  pub item : A
  pub rest : List A
  pub at : drop place xs ≡ item ∷ rest
  pub got : (d : A) → get_or xs place d ≡ item
  pub next : get_or (starts_in alike xs) (m + 1) (length xs) ≡ place + suc (more alike item rest)

get_dropped : (ss : List ℕ) (m d : ℕ) → get_or (drop m ss) 0 d ≡ get_or ss m d
get_dropped [] zero d = refl
get_dropped [] (suc m) d = refl
get_dropped (s ∷ ss) zero d = refl
get_dropped (s ∷ ss) (suc m) d = get_dropped ss m d

module _ {A : Type 0} (alike : A → A → Bool) where
  pub group_at : (xs : List A) (m : ℕ) → m < length (starts_in alike xs) → GroupAt alike xs m
  group_at xs m l =
      let s = start_at alike None 0 xs m l in
      let i = item_at xs s.place s.within in
      let none : 0 + s.place ≡ s.place = omega arith in
      let ss = starts_in alike xs in
      let later : drop (suc m) ss ≡ later_starts alike (0 + s.place) (i.item ∷ i.rest) = s.behind ∙ ap (later_starts alike (0 + s.place)) i.is in
      let count : length xs ≡ 0 + s.place + length (i.item ∷ i.rest) = let e = i.count in omega arith in
      let after : get_or ss (suc m) (length xs) ≡ 0 + s.place + suc (more alike i.item i.rest) = sym (get_dropped ss (suc m) (length xs)) ∙ ap (λ zs. get_or zs 0 (length xs)) later ∙ next_is alike (0 + s.place) i.item i.rest (length xs) count in
      let one : m + 1 ≡ suc m = omega arith in
      record {
        place = s.place;
        is = λ d. s.is d ∙ none;
        within = s.within;
        item = i.item;
        rest = i.rest;
        at = i.is;
        got = i.got;
        next = ap (λ k. get_or ss k (length xs)) one ∙ after ∙ omega arith;
      }

  pub none_before : (P : A → Type 0) (xs : List A) → AllByRecursion P (take (get_or (starts_in alike xs) 0 (length xs)) xs)
  none_before P [] = tt
  none_before P (x ∷ xs) = tt

  past : (ss : List ℕ) (m d : ℕ) → length ss ≤ m → get_or ss m d ≡ d
  past [] m d l = refl
  past (s ∷ ss) zero d l = absurd (omega arith)
  past (s ∷ ss) (suc m) d l = past ss m d (omega arith)

  none_left : (xs : List A) → drop (length xs) xs ≡ []
  none_left [] = refl
  none_left (x ∷ xs) = none_left xs

  all_left : (xs : List A) → take (length xs) xs ≡ xs
  all_left [] = refl
  all_left (x ∷ xs) = ap (λ ys. x ∷ ys) (all_left xs)

  pub none_behind_all : (P : A → Type 0) (xs : List A) (m : ℕ) → length (starts_in alike xs) ≤ m → AllByRecursion P (drop (get_or (starts_in alike xs) m (length xs)) xs)
  none_behind_all P xs m l =
      let Q : List A → Type 0 = λ ys. AllByRecursion P ys in
      let e : drop (get_or (starts_in alike xs) m (length xs)) xs ≡ [] = ap (λ k. drop k xs) (past (starts_in alike xs) m (length xs) l) ∙ none_left xs in
      subst Q (sym e) tt

  pub all_before_all : (P : A → Type 0) (xs : List A) (m : ℕ) → length (starts_in alike xs) ≤ m → AllByRecursion P (take (get_or (starts_in alike xs) m (length xs)) xs) → AllByRecursion P xs
  all_before_all P xs m l h =
      let Q : List A → Type 0 = λ ys. AllByRecursion P ys in
      let e : take (get_or (starts_in alike xs) m (length xs)) xs ≡ xs = ap (λ k. take k xs) (past (starts_in alike xs) m (length xs) l) ∙ all_left xs in
      subst Q e h

  -- what a look at the middle group tells
  module _ (p : A → Bool) (same : (a b : A) → alike a b ≡ true → p a ≡ p b) (xs : List A) (f : Falling p xs) (m : ℕ) (l : m < length (starts_in alike xs)) where
    pub group_before : (g : GroupAt alike xs m) → p g.item ≡ true → AllByRecursion (λ x. p x ≡ true) (take (get_or (starts_in alike xs) (m + 1) (length xs)) xs)
    group_before g t =
        let front = pass_before p g.place xs g.item g.rest f g.at t in
        let mine = group_passes p alike same true g.item g.rest t in
        let P : List A → Type 0 = λ ys. AllByRecursion (λ x. p x ≡ true) (take (suc (more alike g.item g.rest)) ys) in
        all_taken (λ x. p x ≡ true) (get_or (starts_in alike xs) (m + 1) (length xs)) g.place (suc (more alike g.item g.rest)) xs g.next front (subst P (sym g.at) mine)

    pub group_behind : (g : GroupAt alike xs m) → p g.item ≡ false → AllByRecursion (λ x. p x ≡ false) (drop (get_or (starts_in alike xs) m (length xs)) xs)
    group_behind g t =
        let P : ℕ → Type 0 = λ k. AllByRecursion (λ x. p x ≡ false) (drop k xs) in
        subst P (sym (g.is (length xs))) (fail_behind p g.place xs g.item g.rest f g.at t)

module _ {K : Type 0} (R : K → K → Ordering) (o : IsTotalOrder R) where
  less_before : (x y k : K) → R x y ≢ Greater → R y k ≡ Less → R x k ≡ Less
  less_before x y k n l = go (R x y) refl
    where
      go : (r : Ordering) → R x y ≡ r → R x k ≡ Less
      go Less e = o.trans x y k e l
      go Equal e = o.congr x y k e ∙ l
      go Greater e = absurd (n e)

  greater_behind : (x y k : K) → R x y ≢ Greater → R x k ≡ Greater → R y k ≡ Greater
  greater_behind x y k n g = go (R x y) refl
    where
      go : (r : Ordering) → R x y ≡ r → R y k ≡ Greater
      go Less e = turned R o k y Less (o.trans k x y (turned R o x k Greater g) e)
      go Equal e = sym (o.congr x y k e) ∙ g
      go Greater e = absurd (n e)

  not_less_behind : (x y k : K) → R x y ≢ Greater → is_lt (R x k) ≡ false → is_lt (R y k) ≡ false
  not_less_behind x y k n f = go (R y k) refl
    where
      go : (r : Ordering) → R y k ≡ r → is_lt (R y k) ≡ false
      go Less e = let no : true ≡ false = sym (ap is_lt (less_before x y k n e)) ∙ f in absurd cc
      go Equal e = ap is_lt e
      go Greater e = ap is_lt e

less_is_no_tie : (r : Ordering) → is_lt r ≡ true → is_eq r ≡ false
less_is_no_tie Less e = refl
less_is_no_tie Equal e = absurd cc
less_is_no_tie Greater e = absurd cc

neither_is_greater : (r : Ordering) → is_lt r ≡ false → is_eq r ≡ false → r ≡ Greater
neither_is_greater Less e f = absurd cc
neither_is_greater Equal e f = absurd cc
neither_is_greater Greater e f = refl

tie_is_equal : (r : Ordering) → is_eq r ≡ true → r ≡ Equal
tie_is_equal Less e = absurd cc
tie_is_equal Equal e = refl
tie_is_equal Greater e = absurd cc

abbrev by_key : ℕ × Name → ℕ × Name → Ordering
by_key a b = ordering_then (nat_cmp a.0 b.0) (name_cmp a.1 b.1)

by_key_total : IsTotalOrder by_key
by_key_total = then_total (on_total (λ (p : ℕ × Name). p.0) nat_cmp_total) (on_total (λ (p : ℕ × Name). p.1) name_cmp_total)

abbrev one_key : ℕ × Name → ℕ × Name → Bool
one_key a b = nat_eq a.0 b.0 && same a.1 b.1

one_key_equivalence : IsEquivalence one_key
one_key_equivalence = and_equiv (on_equiv (λ (p : ℕ × Name). p.0) nat_eq_equiv) (on_equiv (λ (p : ℕ × Name). p.1) same_equivalence)

module _ {N D : Type 0} (name : N → Name) (rtype : D → ℕ) (by_data : D → D → Ordering) (class : ℕ) (owner : Name) where
  abbrev key : Record N D → ℕ × Name
  key r = (r.class, name r.owner)

  abbrev pub Sorted : List (Record N D) → Type 0
  Sorted rs = IsStrictlySortedBy (record_canonical_cmp name rtype by_data) rs

  abbrev alike : Record N D → Record N D → Bool
  alike = of_one_owner name

  rising : (a b : Record N D) → record_canonical_cmp name rtype by_data a b ≡ Less → by_key (key a) (key b) ≢ Greater
  rising a b h = owner_weaker name rtype by_data (nat_cmp a.class b.class) (name_cmp (name a.owner) (name b.owner)) (ordering_then (nat_cmp (rtype a.content) (rtype b.content)) (by_data a.content b.content)) h

  owned_is : (r : Record N D) → is_owned name class owner r ≡ is_eq (by_key (key r) (class, owner))
  owned_is r = both_tied (nat_eq r.class class) (same (name r.owner) owner) (nat_cmp r.class class) (name_cmp (name r.owner) owner) (unsigned_ties r.class class) (name_cmp_ties (name r.owner) owner)

  pub before_falls : (rs : List (Record N D)) → Sorted rs → Falling (is_before name class owner) rs
  before_falls rs h = falling_sorted (is_before name class owner) (record_canonical_cmp name rtype by_data) (λ a b l f. not_less_behind by_key by_key_total (key a) (key b) (class, owner) (rising a b l) f) rs h

  pub before_alike : (a b : Record N D) → alike a b ≡ true → is_before name class owner a ≡ is_before name class owner b
  before_alike a b e = ap is_lt (by_key_total.congr (key a) (key b) (class, owner) (tie_is_equal (by_key (key a) (key b)) (sym (owner_ties name rtype by_data a b) ∙ e)))

  before_is_not_owned : (r : Record N D) → is_before name class owner r ≡ true → is_owned name class owner r ≡ false
  before_is_not_owned r e = owned_is r ∙ less_is_no_tie (by_key (key r) (class, owner)) e

  owned_alike : (a b : Record N D) → alike a b ≡ true → is_owned name class owner a ≡ is_owned name class owner b
  owned_alike a b e = one_key_equivalence.congr (key a) (key b) (class, owner) e

  alike_owned : (a b : Record N D) → is_owned name class owner a ≡ true → is_owned name class owner b ≡ true → alike a b ≡ true
  alike_owned a b e f = one_key_equivalence.congr (key a) (class, owner) (key b) e ∙ one_key_equivalence.symm (class, owner) (key b) ∙ f

  -- what a class and an owner have is a group
  owned_group : (rs : List (Record N D)) → 0 < length rs → AllByRecursion (λ r. is_owned name class owner r ≡ true) rs → IsGroup (of_one_owner name) rs
  owned_group [] l h = absurd (omega arith)
  owned_group (x ∷ xs) l h = all_more (λ r. is_owned name class owner r ≡ true) (λ r. of_one_owner name x r ≡ true) xs (λ r t. alike_owned x r h.0 t) h.1

  pub span_group : (rs : List (Record N D)) (s : Span) → IsSpan (is_owned name class owner) rs (Some s) → IsGroup (of_one_owner name) (take (s.end - s.start) (drop s.start rs))
  span_group rs s h =
      let left = length-drop s.start rs in
      let few : s.end - s.start ≤ length (drop s.start rs) = omega (arith, h.0, h.1) in
      let size : length (take (s.end - s.start) (drop s.start rs)) ≡ s.end - s.start = length-take-le (s.end - s.start) (drop s.start rs) few in
      owned_group (take (s.end - s.start) (drop s.start rs)) (omega (arith, h.0)) h.3

  -- no owner comes behind
  pub none_owned_at_end : (rs : List (Record N D)) (m : ℕ) → length (starts_in alike rs) ≤ m → AllByRecursion (λ r. is_before name class owner r ≡ true) (take (get_or (starts_in alike rs) m (length rs)) rs) → AllByRecursion (λ r. is_owned name class owner r ≡ false) rs
  none_owned_at_end rs m l h = all_more (λ r. is_before name class owner r ≡ true) (λ r. is_owned name class owner r ≡ false) rs before_is_not_owned (all_before_all alike (λ r. is_before name class owner r ≡ true) rs m l h)

  -- the first that comes behind is another's
  module _ (rs : List (Record N D)) (s : Sorted rs) (m : ℕ) (g : GroupAt (of_one_owner name) rs m) where
    front_not_owned : AllByRecursion (λ r. is_before name class owner r ≡ true) (take (get_or (starts_in alike rs) m (length rs)) rs) → AllByRecursion (λ r. is_owned name class owner r ≡ false) (take g.place rs)
    front_not_owned h =
        let P : ℕ → Type 0 = λ k. AllByRecursion (λ r. is_before name class owner r ≡ true) (take k rs) in
        all_more (λ r. is_before name class owner r ≡ true) (λ r. is_owned name class owner r ≡ false) (take g.place rs) before_is_not_owned (subst P (g.is (length rs)) h)

    front_behind : AllByRecursion (λ r. is_before name class owner r ≡ false) (drop (get_or (starts_in alike rs) m (length rs)) rs) → is_before name class owner g.item ≡ false
    front_behind h =
        let P : ℕ → Type 0 = λ k. AllByRecursion (λ r. is_before name class owner r ≡ false) (drop k rs) in
        let Q : List (Record N D) → Type 0 = λ ys. AllByRecursion (λ r. is_before name class owner r ≡ false) ys in
        let there : AllByRecursion (λ r. is_before name class owner r ≡ false) (g.item ∷ g.rest) = subst Q g.at (subst P (g.is (length rs)) h) in
        there.0

    sorted_there : Sorted (g.item ∷ g.rest)
    sorted_there = subst Sorted g.at (sorted_dropped g.place rs s)
      where
        sorted_dropped : (k : ℕ) (xs : List (Record N D)) → Sorted xs → Sorted (drop k xs)
        sorted_dropped zero xs h = h
        sorted_dropped (suc k) [] h = h
        sorted_dropped (suc k) (x ∷ xs) h = sorted_dropped k xs (sorted_tail (record_canonical_cmp name rtype by_data) x xs h)

    pub none_owned_there : AllByRecursion (λ r. is_before name class owner r ≡ true) (take (get_or (starts_in alike rs) m (length rs)) rs) → AllByRecursion (λ r. is_before name class owner r ≡ false) (drop (get_or (starts_in alike rs) m (length rs)) rs) → is_owned name class owner g.item ≡ false → AllByRecursion (λ r. is_owned name class owner r ≡ false) rs
    none_owned_there h b n =
        let above : by_key (key g.item) (class, owner) ≡ Greater = neither_is_greater (by_key (key g.item) (class, owner)) (front_behind b) (sym (owned_is g.item) ∙ n) in
        let later = all_more (λ r. record_canonical_cmp name rtype by_data g.item r ≡ Less) (λ r. is_owned name class owner r ≡ false) g.rest
        (λ r l. owned_is r ∙ ap is_eq (greater_behind by_key by_key_total (key g.item) (key r) (class, owner) (rising g.item r l) above))
        (sorted_head (record_canonical_cmp name rtype by_data) g.item g.rest sorted_there) in
        let P : List (Record N D) → Type 0 = λ ys. AllByRecursion (λ r. is_owned name class owner r ≡ false) ys in
        let Q : List (Record N D) → Type 0 = λ ys. AllByRecursion (λ r. is_owned name class owner r ≡ false) ys in
        subst Q (take-append-drop g.place rs) (all_both (λ r. is_owned name class owner r ≡ false) (take g.place rs) (drop g.place rs) (front_not_owned h) (subst P (sym g.at) (n, later)))

    pub span_there : AllByRecursion (λ r. is_before name class owner r ≡ true) (take (get_or (starts_in alike rs) m (length rs)) rs) → is_owned name class owner g.item ≡ true → (start end : ℕ) → start ≡ g.place → end ≡ get_or (starts_in alike rs) (m + 1) (length rs) → IsSpan (is_owned name class owner) rs (Some (record { start = start; end = end }))
    span_there h t start end a b =
        let count = more alike g.item g.rest in
        let few = few_more alike g.item g.rest in
        let e : end ≡ start + suc count = b ∙ g.next ∙ omega arith in
        let size : suc count ≡ end - start = omega arith in
        let long : length (drop g.place rs) ≡ suc (length g.rest) = ap length g.at in
        let short = length-drop g.place rs in
        let P : ℕ → Type 0 = λ k. AllByRecursion (λ r. is_owned name class owner r ≡ false) (take k rs) in
        let mine = group_passes (is_owned name class owner) alike owned_alike true g.item g.rest t in
        let Q : List (Record N D) → Type 0 = λ ys. AllByRecursion (λ r. is_owned name class owner r ≡ true) (take (suc count) ys) in
        let R : ℕ → Type 0 = λ k. AllByRecursion (λ r. is_owned name class owner r ≡ true) (take k (drop start rs)) in
        let S : ℕ → Type 0 = λ k. AllByRecursion (λ r. is_owned name class owner r ≡ true) (take (suc count) (drop k rs)) in
        let T : List (Record N D) → Type 0 = λ ys. AllByRecursion (λ r. is_owned name class owner r ≡ false) (drop (suc count) ys) in
        let U : ℕ → Type 0 = λ k. AllByRecursion (λ r. is_owned name class owner r ≡ false) (drop k rs) in
        let V : List (Record N D) → Type 0 = λ ys. AllByRecursion (λ r. is_owned name class owner r ≡ false) ys in (
          omega arith,
          omega arith,
          subst P (sym a) (front_not_owned h),
          subst R size (subst S (sym a) (subst Q (sym g.at) mine)),
          subst U (sym e) (subst V (dropped_on g.place start (suc count) rs a) (subst T (sym g.at) others)),
        )
      where
        dropped_on : (k start n : ℕ) (xs : List (Record N D)) → start ≡ k → drop n (drop k xs) ≡ drop (start + n) xs
        dropped_on k start n xs a = let e : k + n ≡ start + n = omega arith in drop-drop n k xs ∙ ap (λ i. drop i xs) e

        others : AllByRecursion (λ r. is_owned name class owner r ≡ false) (drop (more alike g.item g.rest) g.rest)
        others =
            let rest = drop (more alike g.item g.rest) g.rest in
            let apart = (owners_parted name rtype by_data (g.item ∷ g.rest) sorted_there).2 in
            let A : List (List (Record N D)) → Type 0 = λ gs. AreApart alike gs in
            let split : AreApart alike ((g.item ∷ take (more alike g.item g.rest) g.rest) ∷ groups alike rest) = subst A (first_is alike g.item g.rest) apart in
            let unlike = all_more (AreUnlike alike (g.item ∷ take (more alike g.item g.rest) g.rest)) (λ h. AllByRecursion (λ r. alike g.item r ≡ false) h) (groups alike rest) (λ h u. u.0) split.0 in
            let V : List (Record N D) → Type 0 = λ ys. AllByRecursion (λ r. alike g.item r ≡ false) ys in
            let flat : AllByRecursion (λ r. alike g.item r ≡ false) rest = subst V (joined alike (one_owner_equivalence name) rest) (all_flat (λ r. alike g.item r ≡ false) (groups alike rest) unlike) in
            all_more (λ r. alike g.item r ≡ false) (λ r. is_owned name class owner r ≡ false) rest (λ r u. not_owned r u (is_owned name class owner r) refl) flat
          where
            not_owned : (r : Record N D) → alike g.item r ≡ false → (b : Bool) → is_owned name class owner r ≡ b → is_owned name class owner r ≡ false
            not_owned r u true e = absurd (both_ways (alike g.item r) u (alike_owned g.item r t e))
            not_owned r u false e = e

-- the search, by places that are those at which owners begin
module _ {N D : Type 0} (name : N → Name) (rtype : D → ℕ) (by_data : D → D → Ordering) (class : ℕ) (owner : Name) (rs : List (Record N D)) (ss : List ℕ) (e : ss ≡ starts_in (of_one_owner name) rs) where
  abbrev Front : ℕ → Type 0
  Front k = AllByRecursion (λ r. is_before name class owner r ≡ true) (take k rs)

  abbrev Back : ℕ → Type 0
  Back k = AllByRecursion (λ r. is_before name class owner r ≡ false) (drop k rs)

  pub search_begins : Front (get_or ss 0 (length rs)) × Back (get_or ss (length ss) (length rs))
  search_begins =
      let P : List ℕ → Type 0 = λ zs. Front (get_or zs 0 (length rs)) × Back (get_or zs (length zs) (length rs)) in
      subst P (sym e) (none_before (of_one_owner name) (λ r. is_before name class owner r ≡ true) rs, none_behind_all (of_one_owner name) (λ r. is_before name class owner r ≡ false) rs (length (starts_in (of_one_owner name) rs)) (omega arith))

  begins : (m : ℕ) → m < length ss → GroupAt (of_one_owner name) rs m
  begins m l = let P : List ℕ → Type 0 = λ zs. m < length zs in group_at (of_one_owner name) rs m (subst P e l)

  at_place : (m : ℕ) (l : m < length ss) (d : ℕ) → get_or ss m d ≡ (begins m l).place
  at_place m l d = ap (λ zs. get_or zs m d) e ∙ (begins m l).is d

  pub search_place : (m : ℕ) → m < length ss → get_or ss m 0 < length rs
  search_place m l = let a = at_place m l 0 in let b = (begins m l).within in omega arith

  at_item : (m : ℕ) (l : m < length ss) (x : Record N D) → x ≡ get_or rs (get_or ss m 0) x → x ≡ (begins m l).item
  at_item m l x h = h ∙ ap (λ k. get_or rs k x) (at_place m l 0) ∙ (begins m l).got x

  pub search_up : IsStrictlySortedBy (record_canonical_cmp name rtype by_data) rs → (m : ℕ) → m < length ss → (x : Record N D) → x ≡ get_or rs (get_or ss m 0) x → is_before name class owner x ≡ true → Front (get_or ss (m + 1) (length rs))
  search_up s m l x h t =
      let p = is_before name class owner in
      let there : p (begins m l).item ≡ true = ap p (sym (at_item m l x h)) ∙ t in
      let P : List ℕ → Type 0 = λ zs. Front (get_or zs (m + 1) (length rs)) in
      let Q : List ℕ → Type 0 = λ zs. m < length zs in
      subst P (sym e) (group_before (of_one_owner name) p (before_alike name rtype by_data class owner) rs (before_falls name rtype by_data class owner rs s) m (subst Q e l) (begins m l) there)

  pub search_down : IsStrictlySortedBy (record_canonical_cmp name rtype by_data) rs → (m : ℕ) → m < length ss → (x : Record N D) → x ≡ get_or rs (get_or ss m 0) x → is_before name class owner x ≡ false → Back (get_or ss m (length rs))
  search_down s m l x h t =
      let p = is_before name class owner in
      let there : p (begins m l).item ≡ false = ap p (sym (at_item m l x h)) ∙ t in
      let P : List ℕ → Type 0 = λ zs. Back (get_or zs m (length rs)) in
      let Q : List ℕ → Type 0 = λ zs. m < length zs in
      subst P (sym e) (group_behind (of_one_owner name) p (before_alike name rtype by_data class owner) rs (before_falls name rtype by_data class owner rs s) m (subst Q e l) (begins m l) there)

  front_by : (m : ℕ) → Front (get_or ss m (length rs)) → Front (get_or (starts_in (of_one_owner name) rs) m (length rs))
  front_by m h = let P : List ℕ → Type 0 = λ zs. Front (get_or zs m (length rs)) in subst P e h

  back_by : (m : ℕ) → Back (get_or ss m (length rs)) → Back (get_or (starts_in (of_one_owner name) rs) m (length rs))
  back_by m h = let P : List ℕ → Type 0 = λ zs. Back (get_or zs m (length rs)) in subst P e h

  pub nowhere_at_end : (m : ℕ) → length ss ≤ m → Front (get_or ss m (length rs)) → AllByRecursion (λ r. is_owned name class owner r ≡ false) rs
  nowhere_at_end m l h = let P : List ℕ → Type 0 = λ zs. length zs ≤ m in none_owned_at_end name rtype by_data class owner rs m (subst P e l) (front_by m h)

  pub nowhere_there : IsStrictlySortedBy (record_canonical_cmp name rtype by_data) rs → (m : ℕ) → m < length ss → Front (get_or ss m (length rs)) → Back (get_or ss m (length rs)) → (x : Record N D) → x ≡ get_or rs (get_or ss m 0) x → is_owned name class owner x ≡ false → AllByRecursion (λ r. is_owned name class owner r ≡ false) rs
  nowhere_there s m l f b x h n = none_owned_there name rtype by_data class owner rs s m (begins m l) (front_by m f) (back_by m b) (ap (is_owned name class owner) (sym (at_item m l x h)) ∙ n)

  pub spans_there : IsStrictlySortedBy (record_canonical_cmp name rtype by_data) rs → (m : ℕ) → m < length ss → Front (get_or ss m (length rs)) → (x : Record N D) → x ≡ get_or rs (get_or ss m 0) x → is_owned name class owner x ≡ true → (start end : ℕ) → start ≡ get_or ss m 0 → end ≡ get_or ss (m + 1) (length rs) → IsSpan (is_owned name class owner) rs (Some (record { start = start; end = end }))
  spans_there s m l f x h t start end a b =
      span_there name rtype by_data class owner rs s m (begins m l) (front_by m f) (ap (is_owned name class owner) (sym (at_item m l x h)) ∙ t) start end (a ∙ at_place m l 0) (b ∙ ap (λ zs. get_or zs (m + 1) (length rs)) e)
