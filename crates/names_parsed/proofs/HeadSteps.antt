-- What is read from a place on, by the head that stands there.
use Rattle.std.proofs.Common.{◌≡◌, ℕ, zero, suc, ◌+◌, ◌-◌, ◌*◌, ◌<◌, ◌≤◌, Bool, true, false, List, [], ◌∷◌, ◌++◌, length, refl, sym, ap, ◌∙◌, arith, Option, Some, None, Result, Ok, Err, eqb, leb, append_assoc}
use Rattle.std.specs.Prelude.{slice_get, slice_range}
use Rattle.std.proofs.lemmas.Option.{slice_get_past}
use Rattle.std.proofs.lemmas.Bool.{ne_eqb, le-leb, lt-leb, le-ltb, leb-true}
use Rattle.definitions.specs.Name.{Name, Label}
use Rattle.definitions.specs.Limits.{pointer_limit}
use Rattle.definitions.specs.Reading.{ReadFault, Short, Malformed, To, Run, with_label, pointer_at, run_at, most_heads, labels_at, name_at, behind_labels}
use Rattle.definitions.proofs.PlainReading.{at_head, at_place}
use Rattle.definitions.proofs.ReadingLaws.{finish, finish_root, in_front, beyond, labels_of, pointed, finish-with_label, run_at-pointer, pointer_at-back, behind_nothing, labels_at-finish, name_at-finish, heads_there}
use Rattle.names_parser.specs.Errors.{form_text}
use Rattle.names_parser.specs.declared.error.ParseError.{ParseError}
use Rattle.names_parser.specs.declared.error.ParseError.TheVariants.{ShortInput, Form}
use Rattle.names_parsed.specs.Heads.{rest_at, fault_of, LabelHead, PointerHead}

-- ---- one head more or less makes no difference

more_at_head : (heads k room : ℕ) (m : List ℕ) (p n : ℕ) → room < 2 * suc heads → ((r : ℕ) (q : ℕ) → r < 2 * heads → run_at (suc heads) k r m q ≡ run_at heads k r m q) → (a b c d : Bool) → eqb n 0 ≡ a → leb (n + 2) room ≡ d → at_head (suc heads) k room m p n a b c d ≡ at_head heads k room m p n a b c d
more_at_head heads k room m p n small ih true b c d ea ed = refl
more_at_head heads k room m p n small ih false true true true ea ed =
    let some : 0 < n = positive n ea in
    let fits : n + 2 ≤ room = leb-true (n + 2) room ed in
    ap (with_label (slice_range m (p + 1) (p + 1 + n))) (ih (room - (n + 1)) (p + 1 + n) (omega arith))
  where
    positive : (x : ℕ) → eqb x 0 ≡ false → 0 < x
    positive zero h = cc
    positive (suc x) h = omega arith
more_at_head heads k room m p n small ih false true true false ea ed = refl
more_at_head heads k room m p n small ih false true false d ea ed = refl
more_at_head heads k room m p n small ih false false c d ea ed = refl

more_heads : (heads k room : ℕ) (m : List ℕ) (p : ℕ) → room < 2 * heads → run_at (suc heads) k room m p ≡ run_at heads k room m p
more_heads zero k room m p small = absurd (omega arith)
more_heads (suc heads) k room m p small = go (slice_get m p) (λ r q lt. more_heads heads k r m q lt)
  where
    go : (o : Option ℕ) → ((r : ℕ) (q : ℕ) → r < 2 * heads → run_at (suc heads) k r m q ≡ run_at heads k r m q) → at_place (suc heads) k room m p o ≡ at_place heads k room m p o
    go None ih = refl
    go (Some n) ih = more_at_head heads k room m p n small ih (eqb n 0) (leb n 63) (leb (p + 1 + n) (length m)) (leb (n + 2) room) refl refl

-- ---- a head

abbrev far : ℕ
far = 127

opened : (k room : ℕ) (m : List ℕ) (p : ℕ) → rest_at k room m p ≡ finish k m (run_at (suc far) k room m p)
unfolding rest_at
opened k room m p = ap (λ h. finish k m (run_at h k room m p)) heads_there

by_head : (k room : ℕ) (m : List ℕ) (p : ℕ) (o : Option ℕ) → slice_get m p ≡ o → rest_at k room m p ≡ finish k m (at_place far k room m p o)
by_head k room m p o h = opened k room m p ∙ ap (λ x. finish k m (at_place far k room m p x)) h

pub step_short : (k room : ℕ) (m : List ℕ) (p : ℕ) → slice_get m p ≡ None → rest_at k room m p ≡ Err Short
step_short k room m p h = by_head k room m p None h

pub step_root : (k room : ℕ) (m : List ℕ) (p n : ℕ) → slice_get m p ≡ Some n → n ≡ 0 → rest_at k room m p ≡ Ok ([], p + 1)
step_root k room m p n h z = by_head k room m p (Some 0) (h ∙ ap Some z) ∙ finish_root k m (p + 1) room

-- where it is known what the tests on a head say
tested : (k room : ℕ) (m : List ℕ) (p n : ℕ) (a b c d : Bool) → slice_get m p ≡ Some n → eqb n 0 ≡ a → leb n 63 ≡ b → leb (p + 1 + n) (length m) ≡ c → leb (n + 2) room ≡ d → rest_at k room m p ≡ finish k m (at_head far k room m p n a b c d)
tested k room m p n a b c d h ea eb ec ed = by_head k room m p (Some n) h ∙ (λ i. finish k m (at_head far k room m p n (ea i) (eb i) (ec i) (ed i)))

not_zero : (n : ℕ) → 0 < n → eqb n 0 ≡ false
not_zero n h = ne_eqb n 0 (λ e. omega (arith, e, h))

pub step_label_short : (k room : ℕ) (m : List ℕ) (p n : ℕ) → slice_get m p ≡ Some n → 0 < n → n ≤ 63 → length m < p + 1 + n → rest_at k room m p ≡ Err Short
step_label_short k room m p n h some short out = tested k room m p n false true false (leb (n + 2) room) h (not_zero n some) (le-leb n 63 short) (lt-leb (p + 1 + n) (length m) out) refl

pub step_label_long : (k room : ℕ) (m : List ℕ) (p n : ℕ) → slice_get m p ≡ Some n → 0 < n → n ≤ 63 → p + 1 + n ≤ length m → room < n + 2 → rest_at k room m p ≡ Err Malformed
step_label_long k room m p n h some short inside full = tested k room m p n false true true false h (not_zero n some) (le-leb n 63 short) (le-leb (p + 1 + n) (length m) inside) (lt-leb (n + 2) room full)

pub step_label : (k room : ℕ) (m : List ℕ) (p n : ℕ) → slice_get m p ≡ Some n → 0 < n → n ≤ 63 → p + 1 + n ≤ length m → n + 2 ≤ room → room ≤ 255 → rest_at k room m p ≡ in_front (slice_range m (p + 1) (p + 1 + n)) (rest_at k (room - (n + 1)) m (p + 1 + n))
step_label k room m p n h some short inside fits small =
    let l : Label = slice_range m (p + 1) (p + 1 + n) in
    let r : ℕ = room - (n + 1) in
    let q : ℕ = p + 1 + n in
    tested k room m p n false true true true h (not_zero n some) (le-leb n 63 short) (le-leb (p + 1 + n) (length m) inside) (le-leb (n + 2) room fits)
    ∙ finish-with_label k m l (run_at far k r m q)
    ∙ ap (λ x. in_front l (finish k m x)) (sym (more_heads far k r m q (omega arith)))
    ∙ ap (in_front l) (sym (opened k r m q))

-- where no octet stands behind a label that fits
pub step_label_last : (k room : ℕ) (m : List ℕ) (p n : ℕ) → slice_get m p ≡ Some n → 0 < n → n ≤ 63 → length m ≡ p + 1 + n → n + 2 ≤ room → room ≤ 255 → rest_at k room m p ≡ Err Short
step_label_last k room m p n h some short last fits small =
    step_label k room m p n h some short (omega (arith, last)) fits small
    ∙ ap (in_front (slice_range m (p + 1) (p + 1 + n))) (step_short k (room - (n + 1)) m (p + 1 + n) (slice_get_past m (p + 1 + n) (omega (arith, last))))

pub step_type : (k room : ℕ) (m : List ℕ) (p n : ℕ) → slice_get m p ≡ Some n → 63 < n → n < 192 → rest_at k room m p ≡ Err Malformed
step_type k room m p n h large small =
    tested k room m p n false false (leb (p + 1 + n) (length m)) (leb (n + 2) room) h (not_zero n (omega arith)) (lt-leb n 63 large) refl refl
    ∙ ap (λ b. finish k m (elim b as (λ _. Result Run ReadFault) [ true ↦ pointer_at k room m p n | false ↦ Err Malformed ])) (lt-leb 192 n small)

at_pointer : (k room : ℕ) (m : List ℕ) (p n : ℕ) → slice_get m p ≡ Some n → 192 ≤ n → rest_at k room m p ≡ finish k m (pointer_at k room m p n)
at_pointer k room m p n h large = opened k room m p ∙ ap (finish k m) (run_at-pointer far k room m p n h large)

pub step_none_left : (room : ℕ) (m : List ℕ) (p n k : ℕ) → slice_get m p ≡ Some n → 192 ≤ n → k ≡ 0 → rest_at k room m p ≡ Err Malformed
step_none_left room m p n k h large z = ap (λ x. rest_at x room m p) z ∙ at_pointer 0 room m p n h large

suc_of : (k : ℕ) → 0 < k → suc (k - 1) ≡ k
suc_of k h = omega arith

pub step_half : (k room : ℕ) (m : List ℕ) (p n : ℕ) → slice_get m p ≡ Some n → 192 ≤ n → 0 < k → slice_get m (p + 1) ≡ None → rest_at k room m p ≡ Err Short
step_half k room m p n h large some g =
    ap (λ x. rest_at x room m p) (sym (suc_of k some)) ∙ at_pointer (suc (k - 1)) room m p n h large
    ∙ ap (λ o. finish (suc (k - 1)) m (pointed room m p n o)) g

pub step_forward : (k room : ℕ) (m : List ℕ) (p n low : ℕ) → slice_get m p ≡ Some n → 192 ≤ n → 0 < k → slice_get m (p + 1) ≡ Some low → p ≤ (n - 192) * 256 + low → rest_at k room m p ≡ Err Malformed
step_forward k room m p n low h large some g onward =
    let to : ℕ = (n - 192) * 256 + low in
    ap (λ x. rest_at x room m p) (sym (suc_of k some)) ∙ at_pointer (suc (k - 1)) room m p n h large
    ∙ ap (λ o. finish (suc (k - 1)) m (pointed room m p n o)) g
    ∙ ap (λ b. finish (suc (k - 1)) m (elim b as (λ _. Result Run ReadFault) [ true ↦ Ok (record { labels = []; end = To to; behind = p + 2; room = room }) | false ↦ Err Malformed ])) (le-ltb to p onward)

pub step_pointer : (k room : ℕ) (m : List ℕ) (p n low : ℕ) → slice_get m p ≡ Some n → 192 ≤ n → 0 < k → slice_get m (p + 1) ≡ Some low → (n - 192) * 256 + low < p → rest_at k room m p ≡ beyond (p + 2) (labels_of (rest_at (k - 1) room m ((n - 192) * 256 + low)))
unfolding rest_at
step_pointer k room m p n low h large some g back =
    let to : ℕ = (n - 192) * 256 + low in
    ap (λ x. rest_at x room m p) (sym (suc_of k some)) ∙ at_pointer (suc (k - 1)) room m p n h large
    ∙ ap (finish (suc (k - 1)) m) (pointer_at-back (k - 1) room m p n low to g refl back)
    ∙ ap (beyond (p + 2)) (behind_nothing (labels_at (k - 1) room m to) ∙ labels_at-finish (k - 1) room m to)

-- a fault that has a text is one of form
pub malformed : (e : ParseError) (t : List ℕ) → form_text e ≡ Some t → Malformed ≡ fault_of e
malformed ShortInput t h = cc
malformed (Form f) t h = refl

-- ---- labels that were read

-- labels that were read, and what is read behind them
abbrev pub onto : Name → Result (Name × ℕ) ReadFault → Result (Name × ℕ) ReadFault
onto done (Ok r) = Ok (done ++ r.0, r.1)
onto done (Err f) = Err f

pub onto_start : (m : List ℕ) (p : ℕ) → name_at pointer_limit m p ≡ onto [] (rest_at 255 255 m p)
unfolding rest_at pointer_limit
onto_start m p = name_at-finish 255 m p ∙ go (finish 255 m (run_at most_heads 255 255 m p))
  where
    go : (r : Result (Name × ℕ) ReadFault) → r ≡ onto [] r
    go (Ok r) = refl
    go (Err f) = refl

onto_label : (done : Name) (l : Label) (r : Result (Name × ℕ) ReadFault) → onto done (in_front l r) ≡ onto (done ++ l ∷ []) r
onto_label done l (Ok r) = ap (λ x. Ok (x, r.1)) (sym (append_assoc done (l ∷ []) r.0))
onto_label done l (Err f) = refl

labels_label : (done : Name) (l : Label) (r : Result (Name × ℕ) ReadFault) → behind_labels done (labels_of (in_front l r)) ≡ behind_labels (done ++ l ∷ []) (labels_of r)
labels_label done l (Ok r) = ap Ok (sym (append_assoc done (l ∷ []) r.0))
labels_label done l (Err f) = refl

-- what is read behind a label, by the octets that are left ahead of the root's
label_onward : (m : List ℕ) (p k room len : ℕ) → LabelHead k (room + 1) m p len → rest_at k (room + 1) m p ≡ in_front (slice_range m (p + 1) (p + 1 + len)) (rest_at k (room - (len + 1) + 1) m (p + (len + 1)))
label_onward m p k room len s =
    let left : room + 1 - (len + 1) ≡ room - (len + 1) + 1 = omega (arith, s.fits) in
    let place : p + 1 + len ≡ p + (len + 1) = omega arith in
    s.onward ∙ ap (λ r. in_front (slice_range m (p + 1) (p + 1 + len)) (rest_at k r m (p + 1 + len))) left
    ∙ ap (λ q. in_front (slice_range m (p + 1) (p + 1 + len)) (rest_at k (room - (len + 1) + 1) m q)) place

-- one label more of a name
pub label_more : (whole : Result (Name × ℕ) ReadFault) (m : List ℕ) (p k room len : ℕ) (done : Name) → whole ≡ onto done (rest_at k (room + 1) m p) → LabelHead k (room + 1) m p len → whole ≡ onto (done ++ slice_range m (p + 1) (p + 1 + len) ∷ []) (rest_at k (room - (len + 1) + 1) m (p + (len + 1)))
label_more whole m p k room len done h s =
    h ∙ ap (onto done) (label_onward m p k room len s)
    ∙ onto_label done (slice_range m (p + 1) (p + 1 + len)) (rest_at k (room - (len + 1) + 1) m (p + (len + 1)))

-- one label more of those beyond a pointer
pub labels_more : (whole : Result Name ReadFault) (m : List ℕ) (p k room len : ℕ) (done : Name) → whole ≡ behind_labels done (labels_of (rest_at k (room + 1) m p)) → LabelHead k (room + 1) m p len → whole ≡ behind_labels (done ++ slice_range m (p + 1) (p + 1 + len) ∷ []) (labels_of (rest_at k (room - (len + 1) + 1) m (p + (len + 1))))
labels_more whole m p k room len done h s =
    h ∙ ap (λ r. behind_labels done (labels_of r)) (label_onward m p k room len s)
    ∙ labels_label done (slice_range m (p + 1) (p + 1 + len)) (rest_at k (room - (len + 1) + 1) m (p + (len + 1)))

-- the name where its labels beyond a pointer are known, or why there is none
pub onto_pointer : (whole : Result (Name × ℕ) ReadFault) (m : List ℕ) (p room to : ℕ) (done : Name) (q : Result Name ReadFault) → whole ≡ onto done (rest_at 255 room m p) → PointerHead 255 room m p to → labels_of (rest_at 254 room m to) ≡ q → whole ≡ onto done (beyond (p + 2) q)
onto_pointer whole m p room to done q h s e = h ∙ ap (onto done) (s.onward ∙ ap (beyond (p + 2)) e)
