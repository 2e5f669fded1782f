-- What is read of a message by looking at one head after another is what stands there.
use Rattle.std.proofs.Common.{◌≡◌, ℕ, zero, suc, ◌+◌, ◌-◌, ◌*◌, ◌<◌, ◌≤◌, Bool, true, false, List, [], ◌∷◌, length, Option, Some, None, Result, Ok, Err, refl, sym, ap, subst, ◌∙◌, eqb, leb, ltb, arith}
use Rattle.std.specs.Prelude.{slice_get, slice_range}
use Rattle.std.proofs.lemmas.Bool.{ne_eqb, eqb-true, le-leb, leb-true, lt-leb, lt-ltb, ltb-true}
use Rattle.std.proofs.lemmas.List.{length-take-le, length-drop}
use Rattle.std.proofs.lemmas.Option.{slice_get_within}
use Rattle.std.proofs.lemmas.List.Sums.{sum_by-cons}
use Rattle.definitions.specs.Name.{Name, Label, wire_len}
use Rattle.definitions.specs.Reading.{Reads, root, label, pointer, heads_of, pointers_of, ReadFault, Short, Malformed, End, AtRoot, To, Run, with_label, pointer_at, run_at, behind_labels, most_heads, labels_at, end_at, name_at}
use Rattle.definitions.specs.Limits.{pointer_limit}
use Rattle.definitions.specs.Laws.{ReadsExactly, ReadingIsShort, EndsOnce}
use Rattle.definitions.proofs.PlainReading.{at_head, at_place, run_at-label}

-- ---- sizes

pub wire_len-cons : (l : Label) (n : Name) → wire_len (l ∷ n) ≡ length l + 1 + wire_len n
wire_len-cons l n = omega (arith, sum_by-cons (λ k. length k + 1) l n)

pub wire_len_some : (n : Name) → 1 ≤ wire_len n
wire_len_some n = omega arith

pub length-range : (m : List ℕ) (p n : ℕ) → p + n ≤ length m → length (slice_range m p (p + n)) ≡ n
length-range m p n h = let e : p + n - p ≡ n = omega arith in rw e (length-take-le n _ (omega (arith, length-drop p m)))

-- each label takes two octets at least
pub labels_short : {m : List ℕ} {p k b : ℕ} {ls : Name} → Reads m p k ls b → 2 * length ls + 1 ≤ wire_len ls
labels_short (root h e) = omega arith
labels_short {m} {p} (label {n = n} {e = e} {l = l} {ls = ls} h a b c d f r) =
    let inside : p + 1 + n ≤ length m = omega (arith, c, d) in
    let len : length l ≡ n = ap length f ∙ ap (λ x. length (slice_range m (p + 1) x)) c ∙ length-range m (p + 1) n inside in
    omega (arith, wire_len-cons l ls, labels_short r)
labels_short (pointer h a b c d e r) = labels_short r

pub pointers_few : {m : List ℕ} {p k b : ℕ} {ls : Name} → (r : Reads m p k ls b) → pointers_of r ≤ k
pointers_few (root h e) = omega arith
pointers_few (label h a b c d e r) = pointers_few r
pointers_few (pointer h a b c d e r) = omega (arith, pointers_few r)

heads-are : {m : List ℕ} {p k b : ℕ} {ls : Name} → (r : Reads m p k ls b) → heads_of r ≡ length ls + 1 + pointers_of r
heads-are (root h e) = refl
heads-are (label h a b c d e r) = omega (arith, heads-are r)
heads-are (pointer h a b c d e r) = omega (arith, heads-are r)

pub reading_is_short : ReadingIsShort
unfolding pointer_limit
reading_is_short m p n e r short = record {
  pointers = pointers_few r;
  heads = omega (arith, heads-are r, pointers_few r, labels_short r);
}

-- ---- a run and what a pointer leads to

-- with the place behind it
abbrev pub beyond : ℕ → Result Name ReadFault → Result (Name × ℕ) ReadFault
beyond b (Ok n) = Ok (n, b)
beyond b (Err f) = Err f

abbrev pub finish_at : ℕ → List ℕ → Name → End → ℕ → ℕ → Result (Name × ℕ) ReadFault
finish_at zero m ls e b room = elim e [ AtRoot ↦ Ok (ls, b) | To to ↦ Err Malformed ]
finish_at (suc k) m ls e b room = elim e [ AtRoot ↦ Ok (ls, b) | To to ↦ beyond b (behind_labels ls (labels_at k room m to)) ]

abbrev pub finish : ℕ → List ℕ → Result Run ReadFault → Result (Name × ℕ) ReadFault
finish k m (Err f) = Err f
finish k m (Ok r) = finish_at k m r.labels r.end r.behind r.room

abbrev pub labels_of : Result (Name × ℕ) ReadFault → Result Name ReadFault
labels_of (Ok r) = Ok r.0
labels_of (Err f) = Err f

pub labels_beyond : (b : ℕ) (r : Result Name ReadFault) → labels_of (beyond b r) ≡ r
labels_beyond b (Ok n) = refl
labels_beyond b (Err f) = refl

pub labels_at-finish : (k room : ℕ) (m : List ℕ) (p : ℕ) → labels_at k room m p ≡ labels_of (finish k m (run_at most_heads k room m p))
labels_at-finish zero room m p = go (run_at most_heads 0 room m p)
  where
    at_end : (ls : Name) (e : End) (b room : ℕ) → elim e as (λ _. Result Name ReadFault) [ AtRoot ↦ Ok ls | To to ↦ Err Malformed ] ≡ labels_of (finish_at 0 m ls e b room)
    at_end ls AtRoot b room = refl
    at_end ls (To to) b room = refl

    go : (o : Result Run ReadFault) → elim o [ Err f ↦ Err f | Ok r ↦ elim r.end [ AtRoot ↦ Ok r.labels | To to ↦ Err Malformed ] ] ≡ labels_of (finish 0 m o)
    go (Ok r) = at_end r.labels r.end r.behind r.room
    go (Err f) = refl
labels_at-finish (suc k) room m p = go (run_at most_heads (suc k) room m p)
  where
    at_end : (ls : Name) (e : End) (b room : ℕ) → elim e as (λ _. Result Name ReadFault) [ AtRoot ↦ Ok ls | To to ↦ behind_labels ls (labels_at k room m to) ] ≡ labels_of (finish_at (suc k) m ls e b room)
    at_end ls AtRoot b room = refl
    at_end ls (To to) b room = sym (labels_beyond b (behind_labels ls (labels_at k room m to)))

    go : (o : Result Run ReadFault) → elim o [ Err f ↦ Err f | Ok r ↦ elim r.end [ AtRoot ↦ Ok r.labels | To to ↦ behind_labels r.labels (labels_at k r.room m to) ] ] ≡ labels_of (finish (suc k) m o)
    go (Ok r) = at_end r.labels r.end r.behind r.room
    go (Err f) = refl

abbrev pub in_front : Label → Result (Name × ℕ) ReadFault → Result (Name × ℕ) ReadFault
in_front l (Ok n) = Ok (l ∷ n.0, n.1)
in_front l (Err f) = Err f

behind_front : (l : Label) (ls : Name) (b : ℕ) (r : Result Name ReadFault) → beyond b (behind_labels (l ∷ ls) r) ≡ in_front l (beyond b (behind_labels ls r))
behind_front l ls b (Ok n) = refl
behind_front l ls b (Err f) = refl

finish_front : (k : ℕ) (m : List ℕ) (l : Label) (ls : Name) (e : End) (b room : ℕ) → finish_at k m (l ∷ ls) e b room ≡ in_front l (finish_at k m ls e b room)
finish_front zero m l ls AtRoot b room = refl
finish_front zero m l ls (To to) b room = refl
finish_front (suc k) m l ls AtRoot b room = refl
finish_front (suc k) m l ls (To to) b room = behind_front l ls b (labels_at k room m to)

pub finish-with_label : (k : ℕ) (m : List ℕ) (l : Label) (o : Result Run ReadFault) → finish k m (with_label l o) ≡ in_front l (finish k m o)
finish-with_label k m l (Ok r) = finish_front k m l r.labels r.end r.behind r.room
finish-with_label k m l (Err f) = refl

-- ---- what stands there is read

pub run_at-root : (heads k room : ℕ) (m : List ℕ) (p : ℕ) → slice_get m p ≡ Some 0 → run_at (suc heads) k room m p ≡ Ok (record { labels = []; end = AtRoot; behind = p + 1; room = room })
run_at-root heads k room m p g = ap (at_place heads k room m p) g

pub run_at-pointer : (heads k room : ℕ) (m : List ℕ) (p high : ℕ) → slice_get m p ≡ Some high → 192 ≤ high → run_at (suc heads) k room m p ≡ pointer_at k room m p high
run_at-pointer heads k room m p high g h =
    let near : leb high 63 ≡ false = lt-leb high 63 (omega (arith, h)) in
    ap (at_place heads k room m p) g
    ∙ (λ i. at_head heads k room m p high (ne_eqb high 0 (λ e. omega (arith, e, h)) i) (near i) (leb (p + 1 + high) (length m)) (leb (high + 2) room))
    ∙ ap (λ b. elim b as (λ _. Result Run ReadFault) [ true ↦ pointer_at k room m p high | false ↦ Err Malformed ]) (le-leb 192 high h)

abbrev pub pointed : ℕ → List ℕ → ℕ → ℕ → Option ℕ → Result Run ReadFault
pointed room m p high o = elim o [
  | None ↦ Err Short
  | Some b ↦ elim (ltb ((high - 192) * 256 + b) p) [
    | true ↦ Ok (record { labels = []; end = To ((high - 192) * 256 + b); behind = p + 2; room = room })
    | false ↦ Err Malformed
  ]
]

pub pointer_at-back : (k room : ℕ) (m : List ℕ) (p high low to : ℕ) → slice_get m (p + 1) ≡ Some low → to ≡ (high - 192) * 256 + low → to < p → pointer_at (suc k) room m p high ≡ Ok (record { labels = []; end = To to; behind = p + 2; room = room })
pointer_at-back k room m p high low to g e lt =
    ap (pointed room m p high) g
    ∙ (λ i. elim (ltb (sym e i) p) as (λ _. Result Run ReadFault) [ true ↦ Ok (record { labels = []; end = To (sym e i); behind = p + 2; room = room }) | false ↦ Err Malformed ])
    ∙ ap (λ b. elim b as (λ _. Result Run ReadFault) [ true ↦ Ok (record { labels = []; end = To to; behind = p + 2; room = room }) | false ↦ Err Malformed ]) (lt-ltb to p lt)

pub finish_root : (k : ℕ) (m : List ℕ) (b room : ℕ) → finish_at k m [] AtRoot b room ≡ Ok ([], b)
finish_root zero m b room = refl
finish_root (suc k) m b room = refl

pub behind_nothing : (r : Result Name ReadFault) → behind_labels [] r ≡ r
behind_nothing (Ok n) = refl
behind_nothing (Err f) = refl

pub heads_there : most_heads ≡ 128
unfolding most_heads
heads_there = refl

found : {m : List ℕ} {p k b : ℕ} {ls : Name} → Reads m p k ls b → (heads room : ℕ) → wire_len ls ≤ room → room ≤ 255 → room < 2 * heads → finish k m (run_at heads k room m p) ≡ Ok (ls, b)
found {m} {p} {k} (root h end) zero room fits small far = absurd (omega arith)
found {m} {p} {k} (root h end) (suc heads) room fits small far =
    ap (finish k m) (run_at-root heads k room m p h) ∙ finish_root k m (p + 1) room ∙ (λ i. Ok ([], sym end i))
found (label h a b c d e r) zero room fits small far = absurd (omega arith)
found {m} {p} {k} {b = at} (label {n = n} {e = e} {l = l} {ls = ls} h a b c d f r) (suc heads) room fits small far =
    let inside : p + 1 + n ≤ length m = omega (arith, c, d) in
    let here : l ≡ slice_range m (p + 1) (p + 1 + n) = f ∙ ap (slice_range m (p + 1)) c in
    let len : length l ≡ n = ap length here ∙ length-range m (p + 1) n inside in
    let whole : wire_len (l ∷ ls) ≡ length l + 1 + wire_len ls = wire_len-cons l ls in
    let some : 1 ≤ wire_len ls = wire_len_some ls in
    let rest : finish k m (run_at heads k (room - (n + 1)) m e) ≡ Ok (ls, at) = found r heads (room - (n + 1)) (omega (arith, whole, len)) (omega arith) (omega (arith, whole, len, some)) in
    ap (finish k m) (run_at-label heads k room m p n h a b inside (omega (arith, whole, len, some)))
    ∙ finish-with_label k m (slice_range m (p + 1) (p + 1 + n)) (run_at heads k (room - (n + 1)) m (p + 1 + n))
    ∙ (λ i. in_front (sym here i) (finish k m (run_at heads k (room - (n + 1)) m (sym c i))))
    ∙ ap (in_front l) rest
found (pointer h a b c d e r) zero room fits small far = absurd (omega arith)
found {m} {p} (pointer {k = k} {high = high} {low = low} {to = to} {far = x} {ls = ls} h a b c d e r) (suc heads) room fits small far =
    let rest : finish k m (run_at most_heads k room m to) ≡ Ok (ls, x) = found r most_heads room fits small (omega (arith, heads_there)) in
    ap (finish (suc k) m) (run_at-pointer heads (suc k) room m p high h a ∙ pointer_at-back k room m p high low to b c d)
    ∙ ap (beyond (p + 2)) (behind_nothing (labels_at k room m to) ∙ labels_at-finish k room m to ∙ ap labels_of rest)
    ∙ (λ i. Ok (ls, sym e i))

-- ---- what is read stands there

-- a name that stands at a place, ends at another, and has room
pub record Stands (m : List ℕ) (p k : ℕ) (ls : Name) (b room : ℕ) : Type 0 where
  pub reads : Reads m p k ls b
  pub fits : wire_len ls ≤ room

-- what is known of places that a pointer leads to
abbrev Behind : ℕ → List ℕ → Type 0
Behind zero m = Unit {0}
Behind (suc k) m = (room p : ℕ) (ls : Name) → 1 ≤ room → labels_at k room m p ≡ Ok ls → (b : ℕ) × Stands m p k ls b room

abbrev ok_name : Name × ℕ → Result (Name × ℕ) ReadFault
ok_name n = Ok n

not_zero : (n : ℕ) → eqb n 0 ≡ false → 0 < n
not_zero zero h = cc
not_zero (suc n) h = omega arith

abbrev read_or : Name × ℕ → Result (Name × ℕ) ReadFault → Name × ℕ
read_or d (Ok r) = r
read_or d (Err f) = d

named_back : (a b : Name × ℕ) → ok_name a ≡ ok_name b → a ≡ b
named_back a b e = ap (read_or a) e

-- a label was put before what was read
pub record Fronted (l : Label) (r : Result (Name × ℕ) ReadFault) (ls : Name) (b : ℕ) : Type 0 where
  pub rest : Name
  pub reads : r ≡ Ok (rest, b)
  pub are : ls ≡ l ∷ rest

fronted : (l : Label) (r : Result (Name × ℕ) ReadFault) (ls : Name) (b : ℕ) → in_front l r ≡ Ok (ls, b) → Fronted l r ls b
fronted l (Ok n) ls b h =
    let e : (l ∷ n.0, n.1) ≡ (ls, b) = named_back (l ∷ n.0, n.1) (ls, b) h in
    record { rest = n.0; reads = λ i. Ok (n.0, (e i).1); are = λ i. (sym e i).0 }
fronted l (Err f) ls b h = cc

stands_at_root : (m : List ℕ) (p k room : ℕ) (ls : Name) (b : ℕ) → slice_get m p ≡ Some 0 → 1 ≤ room → [] ≡ ls → b ≡ p + 1 → Stands m p k ls b room
stands_at_root m p k room ls b g some e f =
    let P : Name → Type 0 = λ x. Stands m p k x b room in
    subst P e (record { reads = root g f; fits = omega arith })

stands_root : (k room : ℕ) (m : List ℕ) (p n : ℕ) (ls : Name) (b : ℕ) → slice_get m p ≡ Some n → n ≡ 0 → 1 ≤ room → finish_at k m [] AtRoot (p + 1) room ≡ Ok (ls, b) → Stands m p k ls b room
stands_root k room m p n ls b g z some h =
    let e : ([], p + 1) ≡ (ls, b) = named_back ([], p + 1) (ls, b) (sym (finish_root k m (p + 1) room) ∙ h) in
    stands_at_root m p k room ls b (g ∙ ap Some z) some (λ i. (e i).0) (λ i. (sym e i).1)

stands_label : (k room : ℕ) (m : List ℕ) (p n : ℕ) (rest ls : Name) (b : ℕ) → slice_get m p ≡ Some n → 0 < n → n ≤ 63 → p + 1 + n ≤ length m → n + 2 ≤ room → ls ≡ slice_range m (p + 1) (p + 1 + n) ∷ rest → Stands m (p + 1 + n) k rest b (room - (n + 1)) → Stands m p k ls b room
stands_label k room m p n rest ls b g some short inside fits e s =
    let l : Label = slice_range m (p + 1) (p + 1 + n) in
    let len : length l ≡ n = length-range m (p + 1) n inside in
    let P : Name → Type 0 = λ x. Stands m p k x b room in
    subst P (sym e) (record { reads = label g some short refl inside refl s.reads; fits = omega (arith, wire_len-cons l rest, len, s.fits) })

-- what a pointer leads to was read
pub record Led (at : ℕ) (r : Result Name ReadFault) (ls : Name) (b : ℕ) : Type 0 where
  pub reads : r ≡ Ok ls
  pub here : b ≡ at

led : (at : ℕ) (r : Result Name ReadFault) (ls : Name) (b : ℕ) → beyond at r ≡ Ok (ls, b) → Led at r ls b
led at (Ok n) ls b h =
    let e : (n, at) ≡ (ls, b) = named_back (n, at) (ls, b) h in
    record { reads = λ i. Ok ((e i).0); here = λ i. (sym e i).1 }
led at (Err f) ls b h = cc

stands_pointer : (k room : ℕ) (m : List ℕ) (p high : ℕ) (ls : Name) (b : ℕ) → Behind k m → slice_get m p ≡ Some high → 192 ≤ high → 1 ≤ room → finish k m (pointer_at k room m p high) ≡ Ok (ls, b) → Stands m p k ls b room
stands_pointer zero room m p high ls b ih g h some e = cc
stands_pointer (suc k) room m p high ls b ih g h some e = go (slice_get m (p + 1)) refl e
  where
    back : (low : ℕ) → slice_get m (p + 1) ≡ Some low → (t : Bool) → ltb ((high - 192) * 256 + low) p ≡ t → finish (suc k) m (elim t as (λ _. Result Run ReadFault) [ true ↦ Ok (record { labels = []; end = To ((high - 192) * 256 + low); behind = p + 2; room = room }) | false ↦ Err Malformed ]) ≡ Ok (ls, b) → Stands m p (suc k) ls b room
    back low l true t f =
        let to : ℕ = (high - 192) * 256 + low in
        let x : Led (p + 2) (behind_labels [] (labels_at k room m to)) ls b = led (p + 2) (behind_labels [] (labels_at k room m to)) ls b f in
        let s : (far : ℕ) × Stands m to k ls far room = ih room to ls some (sym (behind_nothing (labels_at k room m to)) ∙ x.reads) in
        record { reads = pointer g h l refl (ltb-true to p t) x.here s.1.reads; fits = s.1.fits }
    back low l false t f = cc

    go : (o : Option ℕ) → slice_get m (p + 1) ≡ o → finish (suc k) m (pointed room m p high o) ≡ Ok (ls, b) → Stands m p (suc k) ls b room
    go None l f = cc
    go (Some low) l f = back low l (ltb ((high - 192) * 256 + low) p) refl f

abbrev Run_stands : ℕ → ℕ → List ℕ → Type 0
Run_stands heads k m = (room p : ℕ) (ls : Name) (b : ℕ) → 1 ≤ room → finish k m (run_at heads k room m p) ≡ Ok (ls, b) → Stands m p k ls b room

-- one head, where it is known what stands behind it
stands_head : (heads k room : ℕ) (m : List ℕ) (p n : ℕ) (ls : Name) (at : ℕ) → Behind k m → Run_stands heads k m → slice_get m p ≡ Some n → 1 ≤ room → (a b c d : Bool) → eqb n 0 ≡ a → leb n 63 ≡ b → leb (p + 1 + n) (length m) ≡ c → leb (n + 2) room ≡ d → finish k m (at_head heads k room m p n a b c d) ≡ Ok (ls, at) → Stands m p k ls at room
stands_head heads k room m p n ls at ih on g some true b c d ea eb ec ed h = stands_root k room m p n ls at g (eqb-true n 0 ea) some h
stands_head heads k room m p n ls at ih on g some false true true true ea eb ec ed h =
    let next : Result Run ReadFault = run_at heads k (room - (n + 1)) m (p + 1 + n) in
    let l : Label = slice_range m (p + 1) (p + 1 + n) in
    let f : Fronted l (finish k m next) ls at = fronted l (finish k m next) ls at (sym (finish-with_label k m l next) ∙ h) in
    let fits : n + 2 ≤ room = leb-true (n + 2) room ed in
    stands_label k room m p n f.rest ls at g (not_zero n ea) (leb-true n 63 eb) (leb-true (p + 1 + n) (length m) ec) fits f.are
    (on (room - (n + 1)) (p + 1 + n) f.rest at (omega (arith, fits)) f.reads)
stands_head heads k room m p n ls at ih on g some false true true false ea eb ec ed h = cc
stands_head heads k room m p n ls at ih on g some false true false d ea eb ec ed h = cc
stands_head heads k room m p n ls at ih on g some false false c d ea eb ec ed h = go (leb 192 n) refl h
  where
    go : (t : Bool) → leb 192 n ≡ t → finish k m (elim t as (λ _. Result Run ReadFault) [ true ↦ pointer_at k room m p n | false ↦ Err Malformed ]) ≡ Ok (ls, at) → Stands m p k ls at room
    go true e f = stands_pointer k room m p n ls at ih g (leb-true 192 n e) some f
    go false e f = cc

stands_run : (heads k : ℕ) (m : List ℕ) → Behind k m → Run_stands heads k m
stands_run zero k m ih room p ls b some h = cc
stands_run (suc heads) k m ih room p ls b some h = go (slice_get m p) refl h (stands_run heads k m ih)
  where
    go : (o : Option ℕ) → slice_get m p ≡ o → finish k m (at_place heads k room m p o) ≡ Ok (ls, b) → Run_stands heads k m → Stands m p k ls b room
    go None g f on = cc
    go (Some n) g f on = stands_head heads k room m p n ls b ih on g some (eqb n 0) (leb n 63) (leb (p + 1 + n) (length m)) (leb (n + 2) room) refl refl refl refl f

-- a name that was read, with the place behind it
there : (r : Result (Name × ℕ) ReadFault) (ls : Name) → labels_of r ≡ Ok ls → (b : ℕ) × (r ≡ Ok (ls, b))
there (Ok n) ls h =
    let names : Name → Result Name ReadFault → Name = λ d r. elim r [ Ok x ↦ x | Err f ↦ d ] in
    (n.1, λ i. Ok (names ls (h i), n.1))
there (Err f) ls h = cc

stands_all : (k : ℕ) (m : List ℕ) (room p : ℕ) (ls : Name) → 1 ≤ room → labels_at k room m p ≡ Ok ls → (b : ℕ) × Stands m p k ls b room
stands_all zero m room p ls some h =
    let r : (b : ℕ) × (finish 0 m (run_at most_heads 0 room m p) ≡ Ok (ls, b)) = there (finish 0 m (run_at most_heads 0 room m p)) ls (sym (labels_at-finish 0 room m p) ∙ h) in
    (r.0, stands_run most_heads 0 m tt room p ls r.0 some r.1)
stands_all (suc k) m room p ls some h =
    let r : (b : ℕ) × (finish (suc k) m (run_at most_heads (suc k) room m p) ≡ Ok (ls, b)) = there (finish (suc k) m (run_at most_heads (suc k) room m p)) ls (sym (labels_at-finish (suc k) room m p) ∙ h) in
    (r.0, stands_run most_heads (suc k) m (λ q o ns s e. stands_all k m q o ns s e) room p ls r.0 some r.1)

behind_all : (k : ℕ) (m : List ℕ) → Behind k m
behind_all zero m = tt
behind_all (suc k) m = λ room p ls some h. stands_all k m room p ls some h

-- ---- a name and the place behind it

abbrev ended : Name → Result ℕ ReadFault → Result (Name × ℕ) ReadFault
ended n (Ok e) = Ok (n, e)
ended n (Err f) = Err f

abbrev both : Result Name ReadFault → Result ℕ ReadFault → Result (Name × ℕ) ReadFault
both (Ok n) e = ended n e
both (Err f) e = Err f

name_at-both : (k : ℕ) (m : List ℕ) (p : ℕ) → name_at k m p ≡ both (labels_at k 255 m p) (end_at k m p)
name_at-both k m p = go (labels_at k 255 m p) (end_at k m p)
  where
    go : (a : Result Name ReadFault) (b : Result ℕ ReadFault) → elim a [ Err f ↦ Err f | Ok n ↦ elim b [ Err f ↦ Err f | Ok e ↦ Ok (n, e) ] ] ≡ both a b
    go (Ok n) (Ok e) = refl
    go (Ok n) (Err f) = refl
    go (Err f) b = refl

abbrev ends : Result Run ReadFault → Result ℕ ReadFault
ends o = elim o [ Err f ↦ Err f | Ok r ↦ Ok r.behind ]

both_beyond : (b : ℕ) (r : Result Name ReadFault) → both (labels_of (beyond b r)) (Ok b) ≡ beyond b r
both_beyond b (Ok n) = refl
both_beyond b (Err f) = refl

both_at : (k : ℕ) (m : List ℕ) (ls : Name) (e : End) (b room : ℕ) → both (labels_of (finish_at k m ls e b room)) (Ok b) ≡ finish_at k m ls e b room
both_at zero m ls AtRoot b room = refl
both_at zero m ls (To to) b room = refl
both_at (suc k) m ls AtRoot b room = refl
both_at (suc k) m ls (To to) b room = both_beyond b (behind_labels ls (labels_at k room m to))

both_run : (k : ℕ) (m : List ℕ) (o : Result Run ReadFault) → both (labels_of (finish k m o)) (ends o) ≡ finish k m o
both_run k m (Ok r) = both_at k m r.labels r.end r.behind r.room
both_run k m (Err f) = refl

pub name_at-finish : (k : ℕ) (m : List ℕ) (p : ℕ) → name_at k m p ≡ finish k m (run_at most_heads k 255 m p)
name_at-finish k m p =
    name_at-both k m p ∙ ap (λ l. both l (end_at k m p)) (labels_at-finish k 255 m p) ∙ both_run k m (run_at most_heads k 255 m p)

pub reads_exactly : ReadsExactly
reads_exactly m p k n e = (
  (λ h. let s : Stands m p k n e 255 = stands_run most_heads k m (behind_all k m) 255 p n e (omega arith) (sym (name_at-finish k m p) ∙ h) in
      (s.reads, s.fits)),
  (λ h. name_at-finish k m p ∙ found h.0 most_heads 255 h.1 (omega arith) (omega (arith, heads_there))),
)

-- ---- one place behind a name

some_back : (a b : ℕ) → Some a ≡ Some b → a ≡ b
some_back a b e = cc

-- one octet stands at one place
pub one_head : (m : List ℕ) (p q a b : ℕ) → q ≡ p → slice_get m p ≡ Some a → slice_get m q ≡ Some b → a ≡ b
one_head m p q a b e h g = some_back a b (sym h ∙ ap (slice_get m) (sym e) ∙ g)

-- what stands at one place is one name, which ends at one place
pub one_name : {m : List ℕ} {p k j e f : ℕ} {n o : Name} → Reads m p k n e → (q : ℕ) → q ≡ p → Reads m q j o f → (n ≡ o) × (e ≡ f)
one_name {m} {p} (root h e) q at (root g f) = (refl, omega arith)
one_name {m} {p} (root h e) q at (label {n = x} g y z c d f r) = absurd (omega (arith, one_head m p q 0 x at h g))
one_name {m} {p} (root h e) q at (pointer {high = x} g y z c d f r) = absurd (omega (arith, one_head m p q 0 x at h g))
one_name {m} {p} (label {n = n} h a b c d e r) q at (root g f) = absurd (omega (arith, one_head m p q n 0 at h g))
one_name {m} {p} (label {n = n} {e = e} {l = l} {ls = ls} h a b c d f r) q at (label {n = x} {e = y} {l = o} {ls = os} g t u v w z s) =
    let same : n ≡ x = one_head m p q n x at h g in
    let end : y ≡ e = omega arith in
    let rest : (ls ≡ os) × (_ ≡ _) = one_name r y end s in
    let here : l ≡ o = f ∙ (λ i. slice_range m (sym at i + 1) (sym end i)) ∙ sym z in
    ((λ i. here i ∷ rest.0 i), rest.1)
one_name {m} {p} (label {n = n} h a b c d e r) q at (pointer {high = x} g t u v w z s) = absurd (omega (arith, one_head m p q n x at h g))
one_name {m} {p} (pointer {high = x} h a b c d e r) q at (root g f) = absurd (omega (arith, one_head m p q x 0 at h g))
one_name {m} {p} (pointer {high = x} h a b c d e r) q at (label {n = n} g t u v w z s) = absurd (omega (arith, one_head m p q x n at h g))
one_name {m} {p} (pointer {high = x} {low = y} {to = to} h a b c d e r) q at (pointer {high = n} {low = o} {to = other} g t u v w z s) =
    let same : x ≡ n = one_head m p q x n at h g in
    let after : y ≡ o = one_head m (p + 1) (q + 1) y o (omega arith) b u in
    let alike : other ≡ to = v ∙ (λ i. (sym same i - 192) * 256 + sym after i) ∙ sym c in
    ((one_name r other alike s).0, omega arith)

-- and through as many pointers
one_count : {m : List ℕ} {p k j e f : ℕ} {n o : Name} → (r : Reads m p k n e) → (q : ℕ) → q ≡ p → (s : Reads m q j o f) → pointers_of r ≡ pointers_of s
one_count {m} {p} (root h e) q at (root g f) = refl
one_count {m} {p} (root h e) q at (label {n = x} g y z c d f r) = absurd (omega (arith, one_head m p q 0 x at h g))
one_count {m} {p} (root h e) q at (pointer {high = x} g y z c d f r) = absurd (omega (arith, one_head m p q 0 x at h g))
one_count {m} {p} (label {n = n} h a b c d e r) q at (root g f) = absurd (omega (arith, one_head m p q n 0 at h g))
one_count {m} {p} (label {n = n} {e = e} h a b c d f r) q at (label {n = x} {e = y} g t u v w z s) =
    let same : n ≡ x = one_head m p q n x at h g in
    one_count r y (omega arith) s
one_count {m} {p} (label {n = n} h a b c d e r) q at (pointer {high = x} g t u v w z s) = absurd (omega (arith, one_head m p q n x at h g))
one_count {m} {p} (pointer {high = x} h a b c d e r) q at (root g f) = absurd (omega (arith, one_head m p q x 0 at h g))
one_count {m} {p} (pointer {high = x} h a b c d e r) q at (label {n = n} g t u v w z s) = absurd (omega (arith, one_head m p q x n at h g))
one_count {m} {p} (pointer {high = x} {low = y} {to = to} h a b c d e r) q at (pointer {high = n} {low = o} {to = other} g t u v w z s) =
    let same : x ≡ n = one_head m p q x n at h g in
    let after : y ≡ o = one_head m (p + 1) (q + 1) y o (omega arith) b u in
    let alike : other ≡ to = v ∙ (λ i. (sym same i - 192) * 256 + sym after i) ∙ sym c in
    omega (arith, one_count r other alike s)

-- a name ends behind its place, and within the octets
pub ends_within : {m : List ℕ} {p k e : ℕ} {n : Name} → Reads m p k n e → (p < e) × (e ≤ length m)
ends_within {m} {p} (root h e) = (omega arith, omega (arith, slice_get_within m p 0 h))
ends_within {m} {p} (label h a b c d f r) = (omega (arith, (ends_within r).0), (ends_within r).1)
ends_within {m} {p} (pointer {low = low} h a b c d e r) = (omega arith, omega (arith, slice_get_within m (p + 1) low b))

pub ends_once : (m : List ℕ) → EndsOnce m
ends_once m = record {
  one = λ p k j n o e f r s. one_name r p refl s;
  pointers = λ p k j n o e f r s. one_count r p refl s;
  within = λ p k n e r. ends_within r;
}
