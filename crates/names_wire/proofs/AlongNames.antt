-- The labels along a row and its pointers are those of the name that stands there.
use Rattle.std.proofs.Common.{◌≡◌, ◌⊎◌, inl, inr, ℕ, zero, suc, ◌+◌, ◌-◌, ◌*◌, ◌<◌, ◌≤◌, Bool, true, false, cond, List, [], ◌∷◌, ◌++◌, length, take, drop, refl, sym, ap, subst, ◌∙◌, arith, Option, Some, None, Result, Ok, Err, nat_le, nat_lt, length-append, length-drop, length-take-le}
use Rattle.std.specs.Prelude.{slice_get, slice_range}
use Rattle.std.proofs.lemmas.Bool.{le-leb, lt-leb, leb-true, lt-ltb, ltb-true, ltb-false, le-ltb}
use Rattle.std.proofs.lemmas.List.{drop-drop}
use Rattle.std.proofs.lemmas.Option.{slice_get_within}
use Rattle.definitions.specs.Name.{Name, Label}
use Rattle.definitions.specs.Reading.{Reads, root, label, pointer}
use Rattle.names_wire.specs.Label.{split, no_length, pointer_to}
use Rattle.names_wire.specs.declared.label.SplitLabelError.{SplitLabelError}
use Rattle.names_wire.specs.declared.label.SplitLabelError.TheVariants.{Pointer, BadType, ShortInput}
use Rattle.names_wire.specs.declared.label.LabelTypeError.TheVariants.{Undefined, Extended}
use Rattle.names_wire.specs.Slices.{Row, leads_to, row_behind, labels_along, AlongNames}
use Rattle.names_wire.proofs.Along.{along_root, along_label, row_err, onto}

-- ---- octets from a place on

-- where an octet stands, the octets from there on begin with it
pub drop_at : (m : List ℕ) (p b : ℕ) → slice_get m p ≡ Some b → drop p m ≡ b ∷ drop (p + 1) m
drop_at [] p b h = cc
drop_at (x ∷ m) zero b h = let e : x ≡ b = cc in ap (λ y. y ∷ m) e
drop_at (x ∷ m) (suc p) b h = let e : suc (p + 1) ≡ suc p + 1 = omega arith in drop_at m p b h ∙ ap (λ q. b ∷ drop q (x ∷ m)) e

-- and the other way round
pub at_drop : (m : List ℕ) (p b : ℕ) (rest : List ℕ) → drop p m ≡ b ∷ rest → (slice_get m p ≡ Some b) × (rest ≡ drop (p + 1) m)
at_drop [] zero b rest h = cc
at_drop [] (suc p) b rest h = cc
at_drop (x ∷ m) zero b rest h = let e : x ≡ b = cc in let f : m ≡ rest = cc in (ap Some e, sym f)
at_drop (x ∷ m) (suc p) b rest h =
    let r = at_drop m p b rest h in
    let e : suc (p + 1) ≡ suc p + 1 = omega arith in
    (r.0, r.1 ∙ ap (λ q. drop q (x ∷ m)) e)

range_drop : (m : List ℕ) (p n : ℕ) → slice_range m (p + 1) (p + 1 + n) ≡ take n (drop (p + 1) m)
range_drop m p n = let e : p + 1 + n - (p + 1) ≡ n = omega arith in ap (λ k. take k (drop (p + 1) m)) e

-- ---- what is split off there

abbrev Found : Type 0
Found = Result (List ℕ × List ℕ) SplitLabelError

-- a head and what stands behind it, where it is known whether it is a length and whether so many octets are there
abbrev found : ℕ → List ℕ → Bool → Bool → Found
found n bs short fits = cond short (cond fits (Ok (take n bs, drop n bs)) (Err ShortInput)) (Err (no_length n bs))

pub split_label : (m : List ℕ) (p n : ℕ) → slice_get m p ≡ Some n → n ≤ 63 → p + 1 + n ≤ length m → split (drop p m) ≡ Ok (slice_range m (p + 1) (p + 1 + n), drop (p + 1 + n) m)
split_label m p n h short inside =
    let bs : List ℕ = drop (p + 1) m in
    let room : n ≤ length bs = omega (arith, length-drop (p + 1) m) in
    ap split (drop_at m p n h)
    ∙ (λ i. found n bs (le-leb n 63 short i) (le-leb n (length bs) room i))
    ∙ (λ i. Ok (sym (range_drop m p n) i, drop-drop n (p + 1) m i))

pub split_root : (m : List ℕ) (p : ℕ) → slice_get m p ≡ Some 0 → split (drop p m) ≡ Ok ([], drop (p + 1) m)
split_root m p h =
    let bs : List ℕ = drop (p + 1) m in
    ap split (drop_at m p 0 h) ∙ (λ i. found 0 bs (le-leb 0 63 (omega arith) i) (le-leb 0 (length bs) (omega arith) i))

-- why a head is no length, where it is known how large it is
abbrev unlike : ℕ → List ℕ → Bool → Bool → SplitLabelError
unlike n bs extended undefined = cond extended (BadType (Extended n)) (cond undefined (BadType Undefined) (pointer_to n bs))

pub split_pointer : (m : List ℕ) (p high low : ℕ) → slice_get m p ≡ Some high → 192 ≤ high → slice_get m (p + 1) ≡ Some low → split (drop p m) ≡ Err (Pointer ((high - 192) * 256 + low))
split_pointer m p high low h some g =
    let bs : List ℕ = drop (p + 1) m in
    ap split (drop_at m p high h)
    ∙ (λ i. found high bs (lt-leb high 63 (omega arith) i) (nat_le high (length bs)))
    ∙ (λ i. Err (unlike high bs (le-ltb high 128 (omega arith) i) (le-ltb high 192 some i)))
    ∙ ap (λ xs. Err (pointer_to high xs)) (drop_at m (p + 1) low g)

-- ---- what stands there is along the row

inside_of : (m : List ℕ) (p b : ℕ) → slice_get m p ≡ Some b → p < length m
inside_of m p b h = slice_get_within m p b h

leads : (m : List ℕ) (p to : ℕ) → to < p → p < length m → leads_to (length m) (length (drop p m)) (Pointer to) ≡ Some to
leads m p to lt inside = ap (λ t. cond t (Some to) None) (lt-ltb (to + length (drop p m)) (length m) (omega (arith, length-drop p m)))

-- a pointer that is followed
along_pointer : (k : ℕ) (m : List ℕ) (p to : ℕ) → split (drop p m) ≡ Err (Pointer to) → leads_to (length m) (length (drop p m)) (Pointer to) ≡ Some to → labels_along (suc k) m p ≡ labels_along k m to
along_pointer k m p to h l =
    ap (onto k m) (row_err (length m) (drop p m) (Pointer to) h)
    ∙ ap (λ (o : Option ℕ). onto k m (record { labels = []; onward = o })) l

length-range : (m : List ℕ) (p n : ℕ) → p + 1 + n ≤ length m → length (slice_range m (p + 1) (p + 1 + n)) ≡ n
length-range m p n h = ap length (range_drop m p n) ∙ length-take-le n (drop (p + 1) m) (omega (arith, length-drop (p + 1) m))

along_some : (k : ℕ) (m : List ℕ) (p q : ℕ) (label rest : List ℕ) → 0 < length label → split (drop p m) ≡ Ok (label, rest) → rest ≡ drop q m → labels_along k m p ≡ label ∷ labels_along k m q
along_some k m p q [] rest some h e = absurd (omega arith)
along_some k m p q (l ∷ ls) rest some h e = along_label k m p q l ls rest h e

along_reads : {m : List ℕ} {p k e : ℕ} {n : Name} → Reads m p k n e → labels_along k m p ≡ n ++ [] ∷ []
along_reads {m} {p} {k} (root h e) = along_root k m p (drop (p + 1) m) (split_root m p h)
along_reads {m} {p} {k} (label {n = n} {e = e} {l = l} {ls = ls} h a b c d f r) =
    let inside : p + 1 + n ≤ length m = omega (arith, c, d) in
    let here : slice_range m (p + 1) (p + 1 + n) ≡ l = sym (f ∙ ap (slice_range m (p + 1)) c) in
    along_some k m p e (slice_range m (p + 1) (p + 1 + n)) (drop (p + 1 + n) m) (omega (arith, length-range m p n inside)) (split_label m p n h b inside) (ap (λ x. drop x m) (sym c))
    ∙ (λ i. here i ∷ along_reads r i)
along_reads {m} {p} (pointer {k = k} {high = high} {low = low} {to = to} h a b c d e r) =
    along_pointer k m p to (split_pointer m p high low h a b ∙ (λ i. Err (Pointer (sym c i)))) (leads m p to d (inside_of m p high h))
    ∙ along_reads r

-- ---- what is along the row stands there

-- a label that was split off there
pub record Cut (m : List ℕ) (p : ℕ) (l rest : List ℕ) : Type 0 where
  pub head : slice_get m p ≡ Some (length l)
  pub short : length l ≤ 63
  pub inside : p + 1 + length l ≤ length m
  pub octets : l ≡ slice_range m (p + 1) (p + 1 + length l)
  pub behind : rest ≡ drop (p + 1 + length l) m

cut_here : (m : List ℕ) (p n : ℕ) (bs l rest : List ℕ) → drop p m ≡ n ∷ bs → n ≤ 63 → n ≤ length bs → l ≡ take n bs → rest ≡ drop n bs → Cut m p l rest
cut_here m p n bs l rest e short room is after =
    let there = at_drop m p n bs e in
    let count : length l ≡ n = ap length is ∙ length-take-le n bs room in
    let within : p < length m = inside_of m p n there.0 in
    let all : length bs ≡ length m - (p + 1) = ap length there.1 ∙ length-drop (p + 1) m in
    record {
      head = there.0 ∙ ap Some (sym count);
      short = omega (arith, count, short);
      inside = omega (arith, count, within, all, room);
      octets = is ∙ ap (take n) there.1 ∙ sym (range_drop m p n) ∙ ap (λ k. slice_range m (p + 1) (p + 1 + k)) (sym count);
      behind = after ∙ ap (drop n) there.1 ∙ drop-drop n (p + 1) m ∙ ap (λ k. drop (p + 1 + k) m) (sym count);
    }

first_part : (r s : Found) (d : List ℕ × List ℕ) → r ≡ s → elim r as (λ _. List ℕ) [ Ok x ↦ x.0 | Err e ↦ d.0 ] ≡ elim s as (λ _. List ℕ) [ Ok x ↦ x.0 | Err e ↦ d.0 ]
first_part r s d h i = elim (h i) as (λ _. List ℕ) [ Ok x ↦ x.0 | Err e ↦ d.0 ]

last_part : (r s : Found) (d : List ℕ × List ℕ) → r ≡ s → elim r as (λ _. List ℕ) [ Ok x ↦ x.1 | Err e ↦ d.1 ] ≡ elim s as (λ _. List ℕ) [ Ok x ↦ x.1 | Err e ↦ d.1 ]
last_part r s d h i = elim (h i) as (λ _. List ℕ) [ Ok x ↦ x.1 | Err e ↦ d.1 ]

pub cut_of : (m : List ℕ) (p : ℕ) (l rest : List ℕ) → split (drop p m) ≡ Ok (l, rest) → Cut m p l rest
cut_of m p l rest h = go (drop p m) refl h
  where
    known : (n : ℕ) (bs : List ℕ) (s t : Bool) → drop p m ≡ n ∷ bs → nat_le n 63 ≡ s → nat_le n (length bs) ≡ t → found n bs s t ≡ Ok (l, rest) → Cut m p l rest
    known n bs true true e f g k =
        cut_here m p n bs l rest e (leb-true n 63 f) (leb-true n (length bs) g)
        (sym (first_part (Ok (take n bs, drop n bs)) (Ok (l, rest)) (l, rest) k)) (sym (last_part (Ok (take n bs, drop n bs)) (Ok (l, rest)) (l, rest) k))
    known n bs true false e f g k = cc
    known n bs false t e f g k = cc

    go : (xs : List ℕ) → drop p m ≡ xs → split xs ≡ Ok (l, rest) → Cut m p l rest
    go [] e k = cc
    go (n ∷ bs) e k = known n bs (nat_le n 63) (nat_le n (length bs)) e refl refl k

-- a pointer that stands there
pub record Points (m : List ℕ) (p to : ℕ) : Type 0 where
  pub high : ℕ
  pub low : ℕ
  pub first : slice_get m p ≡ Some high
  pub large : 192 ≤ high
  pub second : slice_get m (p + 1) ≡ Some low
  pub leads : to ≡ (high - 192) * 256 + low

pub points_of : (m : List ℕ) (p to : ℕ) → split (drop p m) ≡ Err (Pointer to) → Points m p to
points_of m p to h = go (drop p m) refl h
  where
    pointed : (n : ℕ) (bs xs : List ℕ) → drop p m ≡ n ∷ bs → 192 ≤ n → bs ≡ xs → (let e : Found = Err (pointer_to n xs) in e) ≡ Err (Pointer to) → Points m p to
    pointed n bs [] e large f k = cc
    pointed n bs (low ∷ xs) e large f k =
        let there = at_drop m p n bs e in
        let next = at_drop m (p + 1) low xs (sym there.1 ∙ f) in
        let same : to ≡ (n - 192) * 256 + low = cc in
        record { high = n; low = low; first = there.0; large = large; second = next.0; leads = same }

    typed : (n : ℕ) (bs : List ℕ) (s t : Bool) → drop p m ≡ n ∷ bs → nat_lt n 128 ≡ s → nat_lt n 192 ≡ t → (let e : Found = Err (unlike n bs s t) in e) ≡ Err (Pointer to) → Points m p to
    typed n bs true t e f g k = cc
    typed n bs false true e f g k = cc
    typed n bs false false e f g k = pointed n bs bs e (ltb-false n 192 g) refl k

    known : (n : ℕ) (bs : List ℕ) (s t : Bool) → drop p m ≡ n ∷ bs → found n bs s t ≡ Err (Pointer to) → Points m p to
    known n bs true true e k = cc
    known n bs true false e k = cc
    known n bs false t e k = typed n bs (nat_lt n 128) (nat_lt n 192) e refl refl k

    go : (xs : List ℕ) → drop p m ≡ xs → split xs ≡ Err (Pointer to) → Points m p to
    go [] e k = cc
    go (n ∷ bs) e k = known n bs (nat_le n 63) (nat_le n (length bs)) e k

-- a name and the place behind it
abbrev Stands : ℕ → List ℕ → ℕ → Name → Type 0
Stands k m p n = (e : ℕ) × Reads m p k n e

-- what is known of places that a pointer leads to
abbrev Onward : ℕ → List ℕ → Type 0
Onward zero m = Unit {0}
Onward (suc k) m = (p : ℕ) (n : Name) → labels_along k m p ≡ n ++ [] ∷ [] → Stands k m p n

ends_some : (n : Name) → n ++ [] ∷ [] ≡ [] → ⊥
ends_some n h = omega (arith, ap length h, length-append n ([] ∷ []))

stands_root : (k : ℕ) (m : List ℕ) (p : ℕ) (n : Name) (rest : List ℕ) → Cut m p [] rest → [] ∷ [] ≡ n ++ [] ∷ [] → Stands k m p n
stands_root k m p [] rest c h = (p + 1, root c.head refl)
stands_root k m p (l ∷ n) rest c h = absurd (omega (arith, ap length h, length-append n ([] ∷ [])))

stands_pointer : (k : ℕ) (m : List ℕ) (p to : ℕ) (n : Name) → Onward k m → Points m p to → (o : Option ℕ) → leads_to (length m) (length (drop p m)) (Pointer to) ≡ o → split (drop p m) ≡ Err (Pointer to) → labels_along k m p ≡ n ++ [] ∷ [] → Stands k m p n
stands_pointer zero m p to n on c o l s h = absurd (ends_some n (sym h ∙ ap (λ (r : Row). r.labels) (row_err (length m) (drop p m) (Pointer to) s)))
stands_pointer (suc k) m p to n on c None l s h =
    absurd (ends_some n (sym h ∙ ap (onto k m) (row_err (length m) (drop p m) (Pointer to) s) ∙ ap (λ (o : Option ℕ). onto k m (record { labels = []; onward = o })) l))
stands_pointer (suc k) m p to n on c (Some q) l s h = go (nat_lt (to + length (drop p m)) (length m)) refl l
  where
    go : (t : Bool) → nat_lt (to + length (drop p m)) (length m) ≡ t → cond t (Some to) None ≡ Some q → Stands (suc k) m p n
    go true e f =
        let before : to < p = omega (arith, ltb-true (to + length (drop p m)) (length m) e, length-drop p m) in
        let r = on to n (sym (along_pointer k m p to s (ap (λ t. cond t (Some to) None) e)) ∙ h) in
        (p + 2, pointer c.first c.large c.second c.leads before refl r.1)
    go false e f = cc

-- what is known of the labels behind the first
abbrev Later : ℕ → List ℕ → Name → Type 0
Later k m n = (x : Label) (xs : Name) → n ≡ x ∷ xs → (q : ℕ) → labels_along k m q ≡ xs ++ [] ∷ [] → Stands k m q xs

stands_label : (k : ℕ) (m : List ℕ) (n ns : Name) (p : ℕ) (l : ℕ) (ls rest : List ℕ) → Later k m n → ns ≡ n → Cut m p (l ∷ ls) rest → split (drop p m) ≡ Ok (l ∷ ls, rest) → labels_along k m p ≡ ns ++ [] ∷ [] → Stands k m p n
stands_label k m n [] p l ls rest later e c s h =
    let x : (l ∷ ls) ∷ labels_along k m (p + 1 + length (l ∷ ls)) ≡ [] ∷ [] = sym (along_label k m p (p + 1 + length (l ∷ ls)) l ls rest s c.behind) ∙ h in
    let y : l ∷ ls ≡ [] = cc in
    absurd (omega (arith, ap length y))
stands_label k m n (x ∷ xs) p l ls rest later e c s h =
    let q : ℕ = p + 1 + length (l ∷ ls) in
    let both : (l ∷ ls) ∷ labels_along k m q ≡ x ∷ (xs ++ [] ∷ []) = sym (along_label k m p q l ls rest s c.behind) ∙ h in
    let first : l ∷ ls ≡ x = cc in
    let others : labels_along k m q ≡ xs ++ [] ∷ [] = cc in
    let r : Stands k m q xs = later x xs (sym e) q others in
    let read : Reads m p k ((l ∷ ls) ∷ xs) r.0 = label c.head (omega arith) c.short refl c.inside c.octets r.1 in
    let P : Name → Type 0 = λ y. Reads m p k y r.0 in
    (r.0, subst P (ap (λ y. y ∷ xs) first ∙ e) read)

stands_step : (k : ℕ) (m : List ℕ) → Onward k m → (n : Name) (p : ℕ) → Later k m n → labels_along k m p ≡ n ++ [] ∷ [] → Stands k m p n
stands_step k m on n p later h = go (split (drop p m)) refl
  where
    stopped : (e : SplitLabelError) → split (drop p m) ≡ Err e → leads_to (length m) (length (drop p m)) e ≡ None → Stands k m p n
    stopped e s l = absurd (ends_some n (sym h ∙ none k))
      where
        none : (j : ℕ) → labels_along j m p ≡ []
        none zero = ap (λ (r : Row). r.labels) (row_err (length m) (drop p m) e s)
        none (suc j) = ap (onto j m) (row_err (length m) (drop p m) e s) ∙ ap (λ (o : Option ℕ). onto j m (record { labels = []; onward = o })) l

    split_off : (l rest : List ℕ) → split (drop p m) ≡ Ok (l, rest) → Stands k m p n
    split_off [] rest s = stands_root k m p n rest (cut_of m p [] rest s) (sym (along_root k m p rest s) ∙ h)
    split_off (l ∷ ls) rest s = stands_label k m n n p l ls rest later refl (cut_of m p (l ∷ ls) rest s) s h

    go : (r : Found) → split (drop p m) ≡ r → Stands k m p n
    go (Err ShortInput) s = stopped ShortInput s refl
    go (Err (BadType t)) s = stopped (BadType t) s refl
    go (Err (Pointer to)) s = stands_pointer k m p to n on (points_of m p to s) (leads_to (length m) (length (drop p m)) (Pointer to)) refl s h
    go (Ok found) s = split_off found.0 found.1 s

later_of : (k : ℕ) (m : List ℕ) (y : Label) (ys : Name) → ((q : ℕ) → labels_along k m q ≡ ys ++ [] ∷ [] → Stands k m q ys) → Later k m (y ∷ ys)
later_of k m y ys h x xs e q l =
    let f : ys ≡ xs = cc in
    let P : Name → Type 0 = λ z. Stands k m q z in
    subst P f (h q (l ∙ ap (λ z. z ++ [] ∷ []) (sym f)))

stands_inner : (k : ℕ) (m : List ℕ) → Onward k m → (n : Name) (p : ℕ) → labels_along k m p ≡ n ++ [] ∷ [] → Stands k m p n
stands_inner k m on [] p h = stands_step k m on [] p (λ x xs e q l. absurd (omega (arith, ap length e))) h
stands_inner k m on (y ∷ ys) p h = stands_step k m on (y ∷ ys) p (later_of k m y ys (λ q l. stands_inner k m on ys q l)) h

stands : (k : ℕ) (m : List ℕ) (n : Name) (p : ℕ) → labels_along k m p ≡ n ++ [] ∷ [] → Stands k m p n
stands zero m n p h = stands_inner zero m tt n p h
stands (suc k) m n p h = stands_inner (suc k) m (λ q o e. stands k m o q e) n p h

pub along_names : AlongNames
along_names m p k n = ((λ h. stands k m n p h), (λ r. along_reads r.1))
