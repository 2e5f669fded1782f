-- What a name that stands in a message begins with, and the name behind that.
use Rattle.std.proofs.Common.{◌≡◌, ◌⊎◌, inl, inr, ℕ, zero, suc, ◌+◌, ◌<◌, ◌≤◌, Bool, true, false, List, [], ◌∷◌, length, drop, refl, sym, ap, ◌∙◌, arith, Result, Ok, Err}
use Rattle.std.specs.Prelude.{slice_range}
use Rattle.definitions.specs.Limits.{pointer_limit}
use Rattle.definitions.specs.Name.{Name, Label, wire_len}
use Rattle.definitions.specs.Reading.{Reads, root, label, pointer, pointers_of, ReadFault, name_at}
use Rattle.std.proofs.lemmas.Option.{slice_get_within}
use Rattle.definitions.proofs.ReadingLaws.{reads_exactly, length-range, wire_len-cons, labels_short, ends_within}
use Rattle.names_wire.specs.Label.{split}
use Rattle.names_wire.specs.declared.label.SplitLabelError.TheVariants.{Pointer}
use Rattle.names_wire.proofs.AlongNames.{split_label, split_root, split_pointer}
use Rattle.names_parsed.specs.Standing.{Stands, stands_at, name_from}

-- ---- the name that stands at a place

-- with more pointers left it is read as well
pub more_pointers : {m : List ℕ} {p k e : ℕ} {n : Name} → Reads m p k n e → (j : ℕ) → k ≤ j → Reads m p j n e
more_pointers (root h e) j le = root h e
more_pointers (label h a b c d f r) j le = label h a b c d f (more_pointers r j le)
more_pointers (pointer h a b c d e r) zero le = absurd (omega arith)
more_pointers (pointer h a b c d e r) (suc j) le = pointer h a b c d e (more_pointers r j (omega arith))

-- none are fewer than may be followed
pub limit_fits : 0 ≤ pointer_limit
unfolding pointer_limit
limit_fits = omega arith

-- a name that stands there is the one
pub standing : (m : List ℕ) (p : ℕ) (n : Name) (e : ℕ) → Stands m p n e → (stands_at m p ≡ true) × (name_from m p ≡ n)
unfolding stands_at name_from
standing m p n e s =
    let read : name_at pointer_limit m p ≡ Ok (n, e) = (reads_exactly m p pointer_limit n e).1 (s.reads, s.short) in (
      ap (λ (o : Result (Name × ℕ) ReadFault). elim o as (λ _. Bool) [ Ok r ↦ true | Err f ↦ false ]) read,
      ap (λ (o : Result (Name × ℕ) ReadFault). elim o as (λ _. Name) [ Ok r ↦ r.0 | Err f ↦ [] ]) read,
    )

-- and one does where it is said to
pub stood : (m : List ℕ) (p : ℕ) → stands_at m p ≡ true → (e : ℕ) × Stands m p (name_from m p) e
unfolding stands_at name_from
stood m p h = go (name_at pointer_limit m p) refl h
  where
    go : (o : Result (Name × ℕ) ReadFault) → name_at pointer_limit m p ≡ o → elim o as (λ _. Bool) [ Ok r ↦ true | Err f ↦ false ] ≡ true → (e : ℕ) × Stands m p (elim o as (λ _. Name) [ Ok r ↦ r.0 | Err f ↦ [] ]) e
    go (Ok r) e k = let s = (reads_exactly m p pointer_limit r.0 r.1).0 e in (r.1, record { reads = s.0; short = s.1 })
    go (Err f) e k = cc

-- ---- by what it begins with

pub record AtRoot (m : List ℕ) (p : ℕ) (n : Name) (e : ℕ) : Type 0 where
  pub none : n ≡ []
  pub splits : split (drop p m) ≡ Ok ([], drop (p + 1) m)
  pub inside : p < length m
  pub ends : e ≡ p + 1

pub record AtLabel (m : List ℕ) (p k : ℕ) (n : Name) (e : ℕ) (r : Reads m p k n e) : Type 0 where
  pub first : Label
  pub rest : Name
  pub behind : ℕ
  pub labels : n ≡ first ∷ rest
  pub some : 0 < length first
  pub place : behind ≡ p + 1 + length first
  pub inside : behind < length m
  pub splits : split (drop p m) ≡ Ok (first, drop behind m)
  pub onward : Reads m behind k rest e
  pub pointers : pointers_of r ≡ pointers_of onward

pub record AtPointer (m : List ℕ) (p k : ℕ) (n : Name) (e : ℕ) (r : Reads m p k n e) : Type 0 where
  pub to : ℕ
  pub far : ℕ
  pub splits : split (drop p m) ≡ Err (Pointer to)
  pub before : to < p
  pub inside : p < length m
  pub ends : e ≡ p + 2
  pub onward : Reads m to k n far
  pub pointers : 0 < pointers_of r

abbrev pub Inverted : (m : List ℕ) (p k : ℕ) (n : Name) (e : ℕ) → Reads m p k n e → Type 0
Inverted m p k n e r = (AtRoot m p n e × (pointers_of r ≡ 0)) ⊎ (AtLabel m p k n e r ⊎ AtPointer m p k n e r)

pub invert : {m : List ℕ} {p k e : ℕ} {n : Name} → (r : Reads m p k n e) → Inverted m p k n e r
invert {m} {p} (root h e) = inl (record { none = refl; splits = split_root m p h; inside = slice_get_within m p 0 h; ends = e }, refl)
invert {m} {p} {k} (label {n = n} {e = e} {l = l} {ls = ls} h a s c d f r) =
    let inside : p + 1 + n ≤ length m = omega (arith, c, d) in
    let here : l ≡ slice_range m (p + 1) (p + 1 + n) = f ∙ ap (slice_range m (p + 1)) c in
    let len : length l ≡ n = ap length here ∙ length-range m (p + 1) n inside in
    inr (inl (record {
      first = l;
      rest = ls;
      behind = e;
      labels = refl;
      some = omega (arith, len, a);
      place = c ∙ ap (λ x. p + 1 + x) (sym len);
      inside = omega (arith, (ends_within r).0, (ends_within r).1);
      splits = split_label m p n h s inside ∙ (λ i. Ok (sym here i, drop (sym c i) m));
      onward = r;
      pointers = refl;
    }))
invert {m} {p} (pointer {k = k} {high = high} {low = low} {to = to} {far = far} h a b c d e r) =
    inr (inr (record {
      to = to;
      far = far;
      splits = split_pointer m p high low h a b ∙ (λ i. Err (Pointer (sym c i)));
      before = d;
      inside = slice_get_within m p high h;
      ends = e;
      onward = more_pointers r (suc k) (omega arith);
      pointers = omega arith;
    }))

-- ---- short names

pub short_behind : (l : Label) (n : Name) → wire_len (l ∷ n) ≤ 255 → wire_len n ≤ 255
short_behind l n h = omega (arith, wire_len-cons l n)

-- a name of at most 255 octets has at most 127 labels
pub few_labels : {m : List ℕ} {p k e : ℕ} {n : Name} → Reads m p k n e → wire_len n ≤ 255 → length n ≤ 127
few_labels r h = omega (arith, labels_short r, h)
