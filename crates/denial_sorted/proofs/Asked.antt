-- Records that are asked for, among those of a class and an owner.
use Rattle.std.proofs.Common.{◌≡◌, ℕ, zero, suc, ◌+◌, ◌-◌, ◌<◌, ◌≤◌, Bool, true, false, ◌&&◌, nat_eq, List, [], ◌∷◌, length, take, drop, get_or, filter, refl, sym, ap, ◌∙◌, subst, Option, Some, None, arith}
use Rattle.std.proofs.lemmas.Bool.{eq-eqb}
use Rattle.std.specs.List.{AllByRecursion, list_any}
use Rattle.definitions.specs.Name.{Name, same}
use Rattle.plain.specs.declared.record.Record.{Record}
use Rattle.denial_sorted.specs.declared.search.Span.{Span}
use Rattle.denial_sorted.specs.Owned.{is_owned}
use Rattle.denial_sorted.specs.Removing.{is_asked, is_wanted}
use Rattle.denial_sorted.specs.Spans.{HoldsAll, IsSpan}
use Rattle.denial_rrsets.proofs.Grouped.{all_more}
use Rattle.denial_sorted.proofs.Spanned.{all_dropped}

in_front : {A : Type 0} (P : A → Type 0) (s : ℕ) (xs : List A) → AllByRecursion P (take s xs) → (k : ℕ) (d : A) → k < s → k < length xs → P (get_or xs k d)
in_front P zero xs h k d l m = absurd (omega arith)
in_front P (suc s) [] h k d l m = absurd (omega arith)
in_front P (suc s) (x ∷ xs) h zero d l m = h.0
in_front P (suc s) (x ∷ xs) h (suc k) d l m = in_front P s xs h.1 k d (omega arith) (omega arith)

in_back : {A : Type 0} (P : A → Type 0) (e : ℕ) (xs : List A) → AllByRecursion P (drop e xs) → (k : ℕ) (d : A) → e ≤ k → k < length xs → P (get_or xs k d)
in_back P zero [] h k d l m = absurd (omega arith)
in_back P zero (x ∷ xs) h zero d l m = h.0
in_back P zero (x ∷ xs) h (suc k) d l m = in_back P zero xs h.1 k d (omega arith) (omega arith)
in_back P (suc e) [] h k d l m = absurd (omega arith)
in_back P (suc e) (x ∷ xs) h zero d l m = absurd (omega arith)
in_back P (suc e) (x ∷ xs) h (suc k) d l m = in_back P e xs h k d (omega arith) (omega arith)

pub all_front : {A : Type 0} (P : A → Type 0) (k : ℕ) (xs : List A) → AllByRecursion P xs → AllByRecursion P (take k xs)
all_front P zero xs h = tt
all_front P (suc k) [] h = tt
all_front P (suc k) (x ∷ xs) h = (h.0, all_front P k xs h.1)

pub none_any : {A : Type 0} (p : A → Bool) (xs : List A) → AllByRecursion (λ x. p x ≡ false) xs → list_any p xs ≡ false
none_any p [] h = refl
none_any p (x ∷ xs) h = rw h.0 (none_any p xs h.1)

module _ {N D : Type 0} (name : N → Name) (rtype : D → ℕ) (owner : Name) (class type : Option ℕ) where
  -- what isn't asked for without a type isn't with one
  pub not_asked : (r : Record N D) → is_asked name rtype owner class None r ≡ false → is_asked name rtype owner class type r ≡ false
  not_asked r h = go (is_wanted class r.class) (same (name r.owner) owner) (is_wanted type (rtype r.content)) h
    where
      go : (c s t : Bool) → (c && s) ≡ false → (c && (t && s)) ≡ false
      go false s t e = refl
      go true false true e = refl
      go true false false e = refl
      go true true t e = absurd cc

  pub unasked_before : (rs : List (Record N D)) (s : Span) → HoldsAll (is_asked name rtype owner class None) rs (Some s) → (k : ℕ) (d : Record N D) → k < s.start → k < length rs → is_asked name rtype owner class type (get_or rs k d) ≡ false
  unasked_before rs s h k d l m = not_asked (get_or rs k d) (in_front (λ r. is_asked name rtype owner class None r ≡ false) s.start rs h.2 k d l m)

  pub unasked_behind : (rs : List (Record N D)) (s : Span) → HoldsAll (is_asked name rtype owner class None) rs (Some s) → (k : ℕ) (d : Record N D) → s.end ≤ k → k < length rs → is_asked name rtype owner class type (get_or rs k d) ≡ false
  unasked_behind rs s h k d l m = not_asked (get_or rs k d) (in_back (λ r. is_asked name rtype owner class None r ≡ false) s.end rs h.3 k d l m)

  pub unasked_all : (rs : List (Record N D)) → AllByRecursion (λ r. is_asked name rtype owner class None r ≡ false) rs → list_any (is_asked name rtype owner class type) rs ≡ false
  unasked_all rs h = none_any (is_asked name rtype owner class type) rs (all_more (λ r. is_asked name rtype owner class None r ≡ false) (λ r. is_asked name rtype owner class type r ≡ false) rs not_asked h)

-- what a class and an owner don't have isn't asked for
module _ {N D : Type 0} (name : N → Name) (rtype : D → ℕ) (owner : Name) where
  abbrev Owned : ℕ → Record N D → Type 0
  Owned c r = is_owned name c owner r ≡ false

  of_class : (c : ℕ) (r : Record N D) → is_owned name c owner r ≡ false → is_asked name rtype owner (Some c) None r ≡ false
  of_class c r h = h

  of_any_class : (c : ℕ) (r : Record N D) → r.class ≡ c → is_owned name c owner r ≡ false → is_asked name rtype owner None None r ≡ false
  of_any_class c r e h = go (nat_eq r.class c) (eq-eqb r.class c e) (same (name r.owner) owner) h
    where
      go : (t : Bool) → t ≡ true → (s : Bool) → (t && s) ≡ false → s ≡ false
      go true f s g = g
      go false f s g = absurd cc

  pub spans_class : (c : ℕ) (rs : List (Record N D)) (s : Option Span) → IsSpan (is_owned name c owner) rs s → HoldsAll (is_asked name rtype owner (Some c) None) rs s
  spans_class c rs None h = h
  spans_class c rs (Some s) h = (omega (arith, h.0), h.1, h.2, h.4)

  zipped : (c : ℕ) (xs : List (Record N D)) → AllByRecursion (λ r. r.class ≡ c) xs → AllByRecursion (λ r. is_owned name c owner r ≡ false) xs → AllByRecursion (λ r. is_asked name rtype owner None None r ≡ false) xs
  zipped c [] e h = tt
  zipped c (x ∷ xs) e h = (of_any_class c x e.0 h.0, zipped c xs e.1 h.1)

  pub spans_only_class : (c : ℕ) (rs : List (Record N D)) (s : Option Span) → AllByRecursion (λ r. r.class ≡ c) rs → IsSpan (is_owned name c owner) rs s → HoldsAll (is_asked name rtype owner None None) rs s
  spans_only_class c rs None e h = zipped c rs e h
  spans_only_class c rs (Some s) e h = (
    omega (arith, h.0),
    h.1,
    zipped c (take s.start rs) (all_front (λ r. r.class ≡ c) s.start rs e) h.2,
    zipped c (drop s.end rs) (all_dropped (λ r. r.class ≡ c) s.end rs e) h.4,
  )

-- the items that pass are those of the span
module _ {A : Type 0} (p : A → Bool) where
  filter_none : (xs : List A) → AllByRecursion (λ x. p x ≡ false) xs → filter p xs ≡ []
  filter_none [] h = refl
  filter_none (x ∷ xs) h = rw h.0 (filter_none xs h.1)

  filter_all : (xs : List A) → AllByRecursion (λ x. p x ≡ true) xs → filter p xs ≡ xs
  filter_all [] h = refl
  filter_all (x ∷ xs) h = rw h.0 (ap (λ ys. x ∷ ys) (filter_all xs h.1))

  filter_mid : (n : ℕ) (xs : List A) → AllByRecursion (λ x. p x ≡ true) (take n xs) → AllByRecursion (λ x. p x ≡ false) (drop n xs) → filter p xs ≡ take n xs
  filter_mid zero xs m b = filter_none xs b
  filter_mid (suc n) [] m b = refl
  filter_mid (suc n) (x ∷ xs) m b = rw m.0 (ap (λ ys. x ∷ ys) (filter_mid n xs m.1 b))

  filter_front : (s n e : ℕ) (xs : List A) → e ≡ s + n → AllByRecursion (λ x. p x ≡ false) (take s xs) → AllByRecursion (λ x. p x ≡ true) (take n (drop s xs)) → AllByRecursion (λ x. p x ≡ false) (drop e xs) → filter p xs ≡ take n (drop s xs)
  filter_front zero n e xs l f m b =
      let same : e ≡ n = omega arith in
      let P : ℕ → Type 0 = λ k. AllByRecursion (λ x. p x ≡ false) (drop k xs) in
      filter_mid n xs m (subst P same b)
  filter_front (suc s) n zero xs l f m b = absurd (omega arith)
  filter_front (suc s) n (suc e) [] l f m b = take_none n
    where
      take_none : (n : ℕ) → filter p [] ≡ take n []
      take_none zero = refl
      take_none (suc n) = refl
  filter_front (suc s) n (suc e) (x ∷ xs) l f m b = rw f.0 (filter_front s n e xs (omega arith) f.1 m b)

  pub filter_span : (xs : List A) (s : Span) → IsSpan p xs (Some s) → filter p xs ≡ take (s.end - s.start) (drop s.start xs)
  filter_span xs s h = filter_front s.start (s.end - s.start) s.end xs (omega (arith, h.0)) h.2 h.3 h.4

  pub filter_no_span : (xs : List A) → IsSpan p xs None → filter p xs ≡ []
  filter_no_span xs h = filter_none xs h

none_behind : {A : Type 0} (xs : List A) → drop (length xs) xs ≡ []
none_behind [] = refl
none_behind (x ∷ xs) = none_behind xs

-- all items hold those that pass
pub all_hold : {A : Type 0} (p : A → Bool) (xs : List A) (end : ℕ) → end ≡ length xs → HoldsAll p xs (Some (record { start = 0; end = end }))
all_hold {A} p xs end e =
    let P : List A → Type 0 = λ ys. AllByRecursion (λ x. p x ≡ false) ys in
    let none : drop end xs ≡ [] = ap (λ n. drop n xs) e ∙ none_behind xs in
    (omega arith, omega arith, tt, subst P (sym none) tt)
