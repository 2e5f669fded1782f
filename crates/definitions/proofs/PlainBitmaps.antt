-- Sets of types, window by window.
use Rattle.std.proofs.Common.{◌≡◌, ℕ, zero, suc, ◌/◌, ◌<◌, ◌≤◌, Bool, true, false, ◌&&◌, List, [], ◌∷◌, length, take, drop, Some, None, Option, refl, sym, ap, ◌∙◌, eqb, leb, cond, arith, length-drop}
use Rattle.std.specs.Option.{is_some}
use Rattle.std.proofs.lemmas.Bool.{ne_eqb}
use Rattle.definitions.specs.Bitmap.{windows_upto, windows, is_bitmap, bitmap_has, in_windows, bit_in}
use Rattle.definitions.specs.Windows.{Split, split, first_window}

abbrev pub Windows : Type 0
Windows = List (ℕ × List ℕ)

abbrev tests : ℕ → List ℕ → Bool
tests len bs = leb 1 len && leb len 32 && leb len (length bs)

abbrev pub behind_first : Split → Option Windows → Option Windows
behind_first s o = elim o [ None ↦ None | Some ws ↦ Some ((s.number, s.octets) ∷ ws) ]

abbrev onto : Bool → Split → Option Windows → Option Windows
onto b s o = elim b [ true ↦ behind_first s o | false ↦ None ]

-- as many steps as there are octets are enough
enough : (n m : ℕ) (bs : List ℕ) → length bs ≤ n → length bs ≤ m → windows_upto n bs ≡ windows_upto m bs
enough zero zero [] h k = refl
enough zero (suc m) [] h k = refl
enough (suc n) zero [] h k = refl
enough (suc n) (suc m) [] h k = refl
enough zero m (w ∷ bs) h k = absurd (omega arith)
enough (suc n) zero (w ∷ bs) h k = absurd (omega arith)
enough (suc n) (suc m) (w ∷ []) h k = refl
enough (suc n) (suc m) (w ∷ len ∷ bs) h k =
    ap (onto (tests len bs) (split w (take len bs) (drop len bs)))
    (enough n m (drop len bs) (omega (arith, length-drop len bs)) (omega (arith, length-drop len bs)))

abbrev front : Bool → Split → Option Split
front b s = elim b [ true ↦ Some s | false ↦ None ]

front_some : (b : Bool) (s r : Split) (o : Option Windows) → front b s ≡ Some r → onto b s o ≡ behind_first r o
front_some true s r o h = let e : s ≡ r = cc in ap (λ x. behind_first x o) e
front_some false s r o h = cc

front_rest : (b : Bool) (s r : Split) → front b s ≡ Some r → s ≡ r
front_rest true s r h = cc
front_rest false s r h = cc

front_none : (b : Bool) (s : Split) (o : Option Windows) → front b s ≡ None → onto b s o ≡ None
front_none true s o h = cc
front_none false s o h = refl

-- a window at the front, and the others
pub windows-first : (bs : List ℕ) (s : Split) → first_window bs ≡ Some s → windows bs ≡ behind_first s (windows s.rest)
windows-first [] s h = cc
windows-first (w ∷ []) s h = cc
windows-first (w ∷ len ∷ bs) s h =
    let first : Split = split w (take len bs) (drop len bs) in
    let same : first ≡ s = front_rest (tests len bs) first s h in
    ap (onto (tests len bs) first) (enough (suc (length bs)) (length (drop len bs)) (drop len bs) (omega (arith, length-drop len bs)) (omega arith))
    ∙ front_some (tests len bs) first s (windows first.rest) h ∙ ap (λ r. behind_first s (windows r.rest)) same

-- no window at the front
pub windows-none : (bs : List ℕ) → first_window bs ≡ None → 0 < length bs → windows bs ≡ None
windows-none [] h some = absurd (omega arith)
windows-none (w ∷ []) h some = refl
windows-none (w ∷ len ∷ bs) h some = front_none (tests len bs) (split w (take len bs) (drop len bs)) (windows_upto (suc (length bs)) (drop len bs)) h

some_behind : (s : Split) (o : Option Windows) → is_some (behind_first s o) ≡ is_some o
some_behind s None = refl
some_behind s (Some ws) = refl

pub is_bitmap-first : (bs : List ℕ) (s : Split) → first_window bs ≡ Some s → is_bitmap bs ≡ is_bitmap s.rest
is_bitmap-first bs s h = ap is_some (windows-first bs s h) ∙ some_behind s (windows s.rest)

pub is_bitmap-none : (bs : List ℕ) → first_window bs ≡ None → is_bitmap bs ≡ eqb (length bs) 0
is_bitmap-none [] h = refl
is_bitmap-none (b ∷ bs) h = ap is_some (windows-none (b ∷ bs) h (omega arith)) ∙ sym (ne_eqb (suc (length bs)) 0 (λ e. omega (arith, e)))

-- whether windows that were read have a type
abbrev found : Option Windows → ℕ → Bool
found o t = elim o [ None ↦ false | Some ws ↦ in_windows ws t ]

pub bitmap_has-none : (bs : List ℕ) (t : ℕ) → first_window bs ≡ None → bitmap_has bs t ≡ false
bitmap_has-none [] t h = refl
bitmap_has-none (b ∷ bs) t h = ap (λ o. found o t) (windows-none (b ∷ bs) h (omega arith))

found_behind : (s : Split) (o : Option Windows) (t : ℕ) → is_some o ≡ true → found (behind_first s o) t ≡ cond (eqb s.number (t / 256)) (bit_in s.octets t) (found o t)
found_behind s None t h = cc
found_behind s (Some ws) t h = refl

found_nothing : (s : Split) (o : Option Windows) (t : ℕ) → is_some o ≡ false → found (behind_first s o) t ≡ false
found_nothing s None t h = refl
found_nothing s (Some ws) t h = cc

pub bitmap_has-first : (bs : List ℕ) (s : Split) (t : ℕ) → first_window bs ≡ Some s → is_bitmap s.rest ≡ true → bitmap_has bs t ≡ cond (eqb s.number (t / 256)) (bit_in s.octets t) (bitmap_has s.rest t)
bitmap_has-first bs s t h some = ap (λ o. found o t) (windows-first bs s h) ∙ found_behind s (windows s.rest) t some

pub bitmap_has-broken : (bs : List ℕ) (s : Split) (t : ℕ) → first_window bs ≡ Some s → is_bitmap s.rest ≡ false → bitmap_has bs t ≡ false
bitmap_has-broken bs s t h broken = ap (λ o. found o t) (windows-first bs s h) ∙ found_nothing s (windows s.rest) t broken
