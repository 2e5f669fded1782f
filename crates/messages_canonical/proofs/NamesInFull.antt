-- Names that stand in full, and names in lower case.
use Rattle.std.proofs.Common.{◌≡◌, ℕ, ◌+◌, ◌-◌, ◌<◌, ◌≤◌, Bool, true, false, List, [], ◌∷◌, ◌++◌, length, length-append, take, drop, Option, Some, None, Result, Ok, Err, refl, sym, ap, subst, ◌∙◌, append_assoc, append-nil, arith}
use Rattle.std.specs.Prelude.{IsOk, slice_get, slice_range, nat_le}
use Rattle.std.specs.List.{AllByRecursion}
use Rattle.std.specs.Str.{str_to_ascii_lowercase}
use Rattle.std.proofs.Math.Seq.{drop-append_seam, take-append_seam}
use Rattle.std.proofs.lemmas.Bool.{le-leb}
use Rattle.std.proofs.lemmas.List.Concat.{flat_map-append}
use Rattle.std.proofs.lemmas.Option.{slice_get_within}
use Rattle.definitions.specs.Limits.{pointer_limit}
use Rattle.definitions.specs.Name.{IsLabel, Name, low, wire, wire_len}
use Rattle.definitions.specs.Reading.{ReadFault, Reads, label, root}
use Rattle.definitions.proofs.ReadingLaws.{length-range, reads_exactly}
use Rattle.names_labels.specs.Flat.{spelled}
use Rattle.names_labels.proofs.Checks.{length-wire}
use Rattle.names_labels.proofs.Composed.{spelled-lowered}
use Rattle.names_labels.proofs.Lowered.{lower-spelled}
use Rattle.names_labels.proofs.Runs.{wire-spelled}
use Rattle.messages.specs.declared.error.MessageError.{MessageError}
use Rattle.messages.specs.Message.{fault_of, if_true, name_upto, owner_at}
use Rattle.messages.specs.View.{NameReads, name_read}
use Rattle.messages_canonical.specs.Walking.{PutsName, SpelledInFull, StandsInFull}
use Rattle.messages_canonical.proofs.InPlace.{range_join}
use Rattle.messages_canonical.proofs.NamesPut.{empty, label_range, range_more}
use Rattle.messages_canonical.proofs.NamesRead.{labels_read, owner_name}

-- ---- lower case

labels_short : (n : Name) → AllByRecursion IsLabel n → AllByRecursion (λ l. length l ≤ 63) (n ++ [] ∷ [])
labels_short [] h = (omega arith, tt)
labels_short (l ∷ n) h = (h.0.short, labels_short n h.1)

pub wire_lowered : (n : Name) → AllByRecursion IsLabel n → str_to_ascii_lowercase (wire n) ≡ wire (low n)
wire_lowered n h = ap str_to_ascii_lowercase (wire-spelled n) ∙ lower-spelled (n ++ [] ∷ []) (labels_short n h) ∙ spelled-lowered n

-- ---- names that stand in full

-- labels in a row from one place to another, in front of whatever reads there
pub record Row (m : List ℕ) (p q : ℕ) : Type 0 where
  pub labels : Name
  pub on : (rest : Name) (e : ℕ) → Reads m q pointer_limit rest e → Reads m p pointer_limit (labels ++ rest) e
  pub octets : slice_range m p q ≡ spelled labels

-- so far as the octets are there
abbrev pub RowTo : List ℕ → ℕ → ℕ → Type 0
RowTo m p q = (p ≤ q) × (q ≤ length m → Row m p q)

pub no_labels : (m : List ℕ) (p : ℕ) → RowTo m p p
no_labels m p = (omega arith, λ inside. record { labels = []; on = λ rest e r. r; octets = empty m p })

one_more : (m : List ℕ) (p q h : ℕ) → p ≤ q → Row m p q → slice_get m q ≡ Some h → 0 < h → h ≤ 63 → q + (h + 1) ≤ length m → Row m p (q + (h + 1))
one_more m p q h before row at some small inside =
    let l = slice_range m (q + 1) (q + (h + 1)) in record {
      labels = row.labels ++ l ∷ [];
      on = λ rest e r. subst (λ n. Reads m p pointer_limit n e) (sym (append_assoc row.labels (l ∷ []) rest)) (row.on (l ∷ rest) e (label {e = q + (h + 1)} at some small (omega arith) inside refl r));
      octets =
          range_join m p q (q + (h + 1)) before (omega arith)
          ∙ (λ i. row.octets i ++ label_range m q h at inside i)
          ∙ ap (λ (x : List ℕ). spelled row.labels ++ x) (sym (append-nil (length l ∷ l)))
          ∙ sym (flat_map-append (λ k. length k ∷ k) row.labels (l ∷ []));
    }

pub one_label_more : (m : List ℕ) (p q h : ℕ) → RowTo m p q → slice_get m q ≡ Some h → (h ≡ 0 → ⊥) → h ≤ 63 → RowTo m p (q + (h + 1))
one_label_more m p q h row at some small =
    (omega (arith, row.0), λ inside. one_more m p q h row.0 (row.1 (omega (arith, inside))) at (omega (arith, some)) small inside)

in_row : (m : List ℕ) (p q : ℕ) → p ≤ q → q < length m → Row m p q → slice_get m q ≡ Some 0 → q + 1 ≤ p + 255 → SpelledInFull m p (q + 1)
unfolding owner_at
in_row m p q before inside row at short =
    let n = row.labels in
    let reads : Reads m p pointer_limit n (q + 1) = subst (λ x. Reads m p pointer_limit x (q + 1)) (append-nil n) (row.on [] (q + 1) (root at refl)) in
    let last : slice_range m q (q + 1) ≡ 0 ∷ [] = range_more m q (q + 1) 0 at (omega arith) ∙ ap (λ (x : List ℕ). 0 ∷ x) (empty m (q + 1)) in
    let octets : slice_range m p (q + 1) ≡ wire n = range_join m p q (q + 1) before (omega arith) ∙ (λ i. row.octets i ++ last i) in
    let size : p + (q + 1 - p) ≡ q + 1 = omega (arith, before) in
    let long : length (slice_range m p (q + 1)) ≡ q + 1 - p = ap (λ e. length (slice_range m p e)) (sym size) ∙ length-range m p (q + 1 - p) (omega (arith, before, inside)) in
    let few : wire_len n ≤ 255 = omega (arith, length-wire n, ap length octets, long, short) in
    let is = (reads_exactly m p pointer_limit n (q + 1)).1 (reads, few) in record {
      name = n;
      read = ap (λ (r : Result (Name × ℕ) ReadFault). elim r as (λ _. Result (Name × ℕ) MessageError) [ Ok r ↦ Ok r | Err f ↦ Err (fault_of f) ]) is;
      spelled = octets;
      lowered = ap str_to_ascii_lowercase octets ∙ wire_lowered n (labels_read reads);
      onward = omega (arith, before);
    }

pub ends_in_full : (m : List ℕ) (p q : ℕ) → RowTo m p q → slice_get m q ≡ Some 0 → q + 1 ≤ p + 255 → SpelledInFull m p (q + 1)
ends_in_full m p q row at short =
    let inside = slice_get_within m q 0 at in
    in_row m p q row.0 inside (row.1 (omega (arith, inside))) at short

-- by a limit
pub within_limit : (m : List ℕ) (limit p e : ℕ) → SpelledInFull m p e → e ≤ limit → StandsInFull m limit p e
within_limit m limit p e s short = record {
  name = s.name;
  read = ap (λ (r : Result (Name × ℕ) MessageError). elim r as (λ _. Option (Name × ℕ)) [ Err f ↦ None | Ok n ↦ if_true (nat_le n.1 limit) n ]) s.read ∙ ap (λ b. if_true b (s.name, e)) (le-leb e limit short);
  spelled = s.spelled;
  lowered = s.lowered;
  onward = s.onward;
  short = short;
}

-- ---- names up to a limit

abbrev upto : ℕ → Result (Name × ℕ) MessageError → Option (Name × ℕ)
upto limit r = elim r [ Err e ↦ None | Ok n ↦ if_true (nat_le n.1 limit) n ]

abbrev got : Name × ℕ → Result (Name × ℕ) MessageError
got x = Ok x

by_test : (x n : Name × ℕ) (b : Bool) → if_true b x ≡ Some n → got x ≡ got n
by_test x n true e = let is : x ≡ n = cc in ap Ok is
by_test x n false e = cc

pub owner_upto : (m : List ℕ) (p limit : ℕ) (n : Name × ℕ) → name_upto pointer_limit m p limit ≡ Some n → owner_at pointer_limit m p ≡ got n
owner_upto m p limit n h = go (owner_at pointer_limit m p) h
  where
    go : (r : Result (Name × ℕ) MessageError) → upto limit r ≡ Some n → r ≡ got n
    go (Ok x) e = by_test x n (nat_le x.1 limit) e
    go (Err f) e = cc

-- a name that reads, and what is read
pub owner_of : (m : List ℕ) (p : ℕ) → NameReads m p → (e : ℕ) × (owner_at pointer_limit m p ≡ got (name_read m p, e))
owner_of m p h = go (owner_at pointer_limit m p) h
  where
    go : (r : Result (Name × ℕ) MessageError) → IsOk r → (e : ℕ) × (r ≡ got (elim r as (λ _. Name) [ Ok r ↦ r.0 | Err e ↦ [] ], e))
    go (Ok x) h = (x.1, refl)
    go (Err f) h = cc

pub reads_there : (m : List ℕ) (p : ℕ) (n : Name × ℕ) → owner_at pointer_limit m p ≡ got n → NameReads m p × (name_read m p ≡ n.0)
reads_there m p n h = (
  subst (λ (r : Result (Name × ℕ) MessageError). IsOk r) (sym h) refl,
  ap (λ (r : Result (Name × ℕ) MessageError). elim r as (λ _. Name) [ Ok r ↦ r.0 | Err e ↦ [] ]) h,
)

-- what was put behind others, in lower case
pub lowered_behind : (m : List ℕ) (p : ℕ) (old new last : List ℕ) → NameReads m p → PutsName m p old new → last ≡ take (length old) new ++ str_to_ascii_lowercase (drop (length old) new) → last ≡ old ++ wire (low (name_read m p))
lowered_behind m p old new last reads put is =
    let w = owner_of m p reads in
    let n = name_read m p in
    let whole : new ≡ old ++ wire n = put n w.0 w.1 in
    let front : take (length old) new ≡ old = ap (take (length old)) whole ∙ take-append_seam old (wire n) in
    let back : drop (length old) new ≡ wire n = ap (drop (length old)) whole ∙ drop-append_seam old (wire n) in
    is ∙ (λ i. front i ++ str_to_ascii_lowercase (back i)) ∙ ap (λ (l : List ℕ). old ++ l) (wire_lowered n (owner_name pointer_limit m p (n, w.0) w.1).labels)

pub grows : (m : List ℕ) (p : ℕ) (old new : List ℕ) → NameReads m p → PutsName m p old new → length old ≤ length new
grows m p old new reads put =
    let w = owner_of m p reads in
    omega (arith, ap length (put (name_read m p) w.0 w.1), length-append old (wire (name_read m p)))
