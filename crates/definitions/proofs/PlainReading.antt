-- A run of labels, label by label.
use Rattle.std.proofs.Common.{◌≡◌, ℕ, suc, ◌+◌, ◌-◌, ◌<◌, ◌≤◌, Bool, true, false, Option, Some, None, Result, Ok, Err, List, [], length, sym, ap, subst, ◌∙◌, eqb, leb, arith}
use Rattle.std.specs.Prelude.{slice_get, slice_range}
use Rattle.std.proofs.lemmas.Bool.{ne_eqb, le-leb}
use Rattle.definitions.specs.Name.{Label}
use Rattle.definitions.specs.Reading.{ReadFault, Short, Malformed, AtRoot, Run, with_label, pointer_at, run_at}
use Rattle.definitions.specs.declared.reference.reading.ReadError.{ReadError}
use Rattle.definitions.specs.declared.reference.reading.ReadError.TheVariants as read_error
use Rattle.definitions.specs.Reference.{IsReading, run_of}

-- a head that is a length
abbrev pub at_head : ℕ → ℕ → ℕ → List ℕ → ℕ → ℕ → Bool → Bool → Bool → Bool → Result Run ReadFault
at_head heads k room m p n empty label fits roomy = elim empty [
  | true ↦ Ok (record { labels = []; end = AtRoot; behind = p + 1; room = room })
  | false ↦ elim label [
    | true ↦ elim fits [
      | true ↦ elim roomy [
        | true ↦ with_label (slice_range m (p + 1) (p + 1 + n)) (run_at heads k (room - (n + 1)) m (p + 1 + n))
        | false ↦ Err Malformed
      ]
      | false ↦ Err Short
    ]
    | false ↦ elim (leb 192 n) [ true ↦ pointer_at k room m p n | false ↦ Err Malformed ]
  ]
]

abbrev pub at_place : ℕ → ℕ → ℕ → List ℕ → ℕ → Option ℕ → Result Run ReadFault
at_place heads k room m p o = elim o [ None ↦ Err Short | Some n ↦ at_head heads k room m p n (eqb n 0) (leb n 63) (leb (p + 1 + n) (length m)) (leb (n + 2) room) ]

-- a label that fits is put before the labels behind it
pub run_at-label : (heads k room : ℕ) (m : List ℕ) (p n : ℕ) → slice_get m p ≡ Some n → 0 < n → n ≤ 63 → p + 1 + n ≤ length m → n + 2 ≤ room → run_at (suc heads) k room m p ≡ with_label (slice_range m (p + 1) (p + 1 + n)) (run_at heads k (room - (n + 1)) m (p + 1 + n))
run_at-label heads k room m p n g some short inside fits =
    ap (at_place heads k room m p) g
    ∙ (λ i. at_head heads k room m p n (ne_eqb n 0 (λ e. omega (arith, e)) i) (le-leb n 63 short i) (le-leb (p + 1 + n) (length m) inside i) (le-leb (n + 2) room fits i))

-- the same, of a label that was copied
pub run_at-read : (heads k room : ℕ) (m : List ℕ) (p n : ℕ) (l : Label) → (heads ≡ 0 → ⊥) → slice_get m p ≡ Some n → 0 < n → n ≤ 63 → p + 1 + n ≤ length m → n + 2 ≤ room → l ≡ slice_range m (p + 1) (p + 1 + n) → run_at heads k room m p ≡ with_label l (run_at (heads - 1) k (room - (n + 1)) m (p + 1 + n))
run_at-read heads k room m p n l some g large short inside fits e =
    let one : heads ≡ suc (heads - 1) = omega (arith, some) in
    ap (λ h. run_at h k room m p) one ∙ run_at-label (heads - 1) k room m p n g large short inside fits
    ∙ ap (λ x. with_label x (run_at (heads - 1) k (room - (n + 1)) m (p + 1 + n))) (sym e)

-- what was read is as well what is the same
pub same_reading : {X : Type 0} (f : X → Run) (r : Result X ReadError) (a b : Result Run ReadFault) → IsReading f r a → b ≡ a → IsReading f r b
same_reading f r a b h e = let P : Result Run ReadFault → Type 0 = λ x. IsReading f r x in subst P (sym e) h

-- a fault behind a label is a fault of the run
passed_on : (l : Label) (e : ReadError) (r : Result Run ReadFault) → IsReading run_of (Err e) r → IsReading run_of (Err e) (with_label l r)
passed_on l read_error.Short r h = ap (with_label l) h
passed_on l read_error.Malformed r h = ap (with_label l) h
passed_on l read_error.Memory r h = tt

pub fault_behind : (l : Label) (e : ReadError) (a b : Result Run ReadFault) → IsReading run_of (Err e) a → b ≡ with_label l a → IsReading run_of (Err e) b
fault_behind l e a b h is = same_reading run_of (Err e) (with_label l a) b (passed_on l e a h) is
