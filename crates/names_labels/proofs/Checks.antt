-- What has been read of the octets that may be a name.
use Rattle.std.proofs.Common.{◌≡◌, ℕ, zero, suc, ◌+◌, ◌<◌, ◌≤◌, ◌⊎◌, inl, inr, List, [], ◌∷◌, ◌++◌, length, take, drop, refl, sym, ap, ◌∙◌, append_assoc, length-append, arith}
use Rattle.std.specs.Prelude.{Result, Ok, Err, None, Some, sum_by, Bool, true, false}
use Rattle.std.proofs.lemmas.Bool.{le-leb, leb-true, eqb-true}
use Rattle.std.proofs.Common.{eqb, leb}
use Rattle.std.proofs.Math.Dec.{leb-zero}
use Rattle.std.specs.List.{AllByRecursion}
use Rattle.std.proofs.lemmas.List.{append-nil, drop_at, take-append-drop, length-take-le}
use Rattle.std.proofs.lemmas.List.Sums.{sum_by-cons}
use Rattle.names_wire.specs.Name.{Name, Label, wire, wire_len, IsLabel}
use Rattle.names_labels.specs.Flat.{spelled, name_in, IsFlat, SpellsName}
use Rattle.names_labels.specs.Refused.{head_fault, end_fault, StopsShort, RefusedName, fault_of}
use Rattle.names_labels.specs.declared.name_error.NameError.{NameError}
use Rattle.names_labels.specs.declared.name_error.NameError.TheVariants.{RelativeName, TrailingData}
use Rattle.names_wire.specs.Label.{split, no_length}
use Rattle.names_wire.specs.declared.label.SplitLabelError.{SplitLabelError}
use Rattle.names_wire.specs.declared.label.SplitLabelError.TheVariants.{ShortInput as Short}
use Rattle.names_labels.proofs.Runs.{spelled-append, name_in-wire}

-- a label stands first, and the rest behind it
pub record BeginsWith (bs : List ℕ) (label : Label) (rest : List ℕ) : Type 0 where
  pub octets : bs ≡ (length label ∷ label) ++ rest
  pub short : length label ≤ 63

-- what is split off stands first
pub splits_off : (bs rest : List ℕ) (label : Label) → split bs ≡ Ok (label, rest) → BeginsWith bs label rest
splits_off [] rest label e = cc
splits_off (n ∷ bs) rest label e = go (leb n 63) refl (leb n (length bs)) refl
  where
    go : (s : Bool) → leb n 63 ≡ s → (t : Bool) → leb n (length bs) ≡ t → BeginsWith (n ∷ bs) label rest
    go false f t g = let x : split (n ∷ bs) ≡ Err (no_length n bs) = rw f refl in cc
    go true f false g = let x : split (n ∷ bs) ≡ Err Short = rw (f, g) refl in cc
    go true f true g =
        let x : split (n ∷ bs) ≡ Ok (take n bs, drop n bs) = rw (f, g) refl in
        let y = sym x ∙ e in
        let p : take n bs ≡ label = ap (λ (r : Result (List ℕ × List ℕ) SplitLabelError). elim r [ Ok found ↦ found.0 | Err e ↦ [] ]) y in
        let q : drop n bs ≡ rest = ap (λ (r : Result (List ℕ × List ℕ) SplitLabelError). elim r [ Ok found ↦ found.1 | Err e ↦ [] ]) y in
        let l : length label ≡ n = ap length (sym p) ∙ length-take-le n bs (leb-true n (length bs) g) in
        record {
          octets = (λ t. sym l t ∷ (sym (take-append-drop n bs) ∙ (λ u. p u ++ q u)) t);
          short = omega (arith, l, leb-true n 63 f);
        }

-- Labels stand before the rest. Where none do or none is left, the rest is all of the octets.
pub record HasRead (bs : List ℕ) (rest : List ℕ) : Type 0 where
  pub labels : Name
  pub plain : AllByRecursion IsLabel labels
  pub octets : bs ≡ spelled labels ++ rest
  pub more : (0 < length rest) ⊎ (labels ≡ [])

pub plain_push : (ls : Name) (l : Label) → AllByRecursion IsLabel ls → IsLabel l → AllByRecursion IsLabel (ls ++ l ∷ [])
plain_push [] l a p = (p, tt)
plain_push (k ∷ ls) l a p = (a.0, plain_push ls l a.1 p)

pub spelled-push : (ls : Name) (l : Label) → spelled (ls ++ l ∷ []) ≡ spelled ls ++ (length l ∷ l)
spelled-push ls l = spelled-append ls (l ∷ []) ∙ ap (λ s. spelled ls ++ s) (append-nil (length l ∷ l))

pub octets_push : (bs rest behind : List ℕ) (ls : Name) (l : Label) → bs ≡ spelled ls ++ rest → rest ≡ (length l ∷ l) ++ behind → bs ≡ spelled (ls ++ l ∷ []) ++ behind
octets_push bs rest behind ls l e h =
    e ∙ ap (λ s. spelled ls ++ s) h ∙ sym (append_assoc (spelled ls) (length l ∷ l) behind) ∙ ap (λ s. s ++ behind) (sym (spelled-push ls l))

pub start_read : (bs : List ℕ) → HasRead bs bs
start_read bs = record { labels = []; plain = tt; octets = refl; more = inr refl }

pub read_more : (bs rest behind : List ℕ) (l : Label) → HasRead bs rest → BeginsWith rest l behind → 0 < length l → 0 < length behind → HasRead bs behind
read_more bs rest behind l r b some more = record {
  labels = r.labels ++ l ∷ [];
  plain = plain_push r.labels l r.plain record { some = some; short = b.short };
  octets = octets_push bs rest behind r.labels l r.octets b.octets;
  more = inl more;
}

fault_at : (rest : List ℕ) (ls : Name) (e : NameError) → (0 < length rest) ⊎ (ls ≡ []) → head_fault rest ≡ Some e → end_fault rest ls ≡ Some e
fault_at [] [] e m h = h
fault_at [] (l ∷ ls) e (inl m) h = absurd (omega arith)
fault_at [] (l ∷ ls) e (inr m) h = cc
fault_at (zero ∷ rest) ls e m h = let x = leb-zero (length rest) in let s : split (0 ∷ rest) ≡ Ok ([], rest) = rw x refl in let z : None ≡ Some e = sym (ap fault_of s) ∙ h in cc
fault_at (suc n ∷ rest) ls e m h = h

pub stops_at : (bs rest : List ℕ) (e : NameError) → HasRead bs rest → length bs ≤ 255 → head_fault rest ≡ Some e → StopsShort bs e
stops_at bs rest e r short h = record {
  short = short;
  labels = r.labels;
  rest = rest;
  plain = r.plain;
  octets = r.octets;
  fault = fault_at rest r.labels e r.more h;
}

pub stops_trailing : (bs rest behind : List ℕ) → HasRead bs rest → BeginsWith rest [] behind → length bs ≤ 255 → 0 < length behind → StopsShort bs TrailingData
stops_trailing bs rest behind r b short more = record {
  short = short;
  labels = r.labels;
  rest = zero ∷ behind;
  plain = r.plain;
  octets = r.octets ∙ ap (λ s. spelled r.labels ++ s) b.octets;
  fault = go behind more;
}
  where
    go : (bs : List ℕ) → 0 < length bs → end_fault (zero ∷ bs) r.labels ≡ Some TrailingData
    go [] h = absurd (omega arith)
    go (x ∷ xs) h = refl

pub stops_relative : (bs rest behind : List ℕ) (l : Label) → HasRead bs rest → BeginsWith rest l behind → length bs ≤ 255 → 0 < length l → length behind ≡ 0 → StopsShort bs RelativeName
stops_relative bs rest (x ∷ xs) l r b short some none = absurd (omega arith)
stops_relative bs rest [] l r b short some none = record {
  short = short;
  labels = r.labels ++ l ∷ [];
  rest = [];
  plain = plain_push r.labels l r.plain record { some = some; short = b.short };
  octets = octets_push bs rest [] r.labels l r.octets b.octets;
  fault = go r.labels;
}
  where
    go : (ls : Name) → end_fault [] (ls ++ l ∷ []) ≡ Some RelativeName
    go [] = refl
    go (k ∷ ls) = refl

pub length-spelled_sum : (ls : Name) → length (spelled ls) ≡ sum_by (λ l. length l + 1) ls
length-spelled_sum [] = refl
length-spelled_sum (l ∷ ls) =
    omega (arith, length-append l (spelled ls), length-spelled_sum ls, sum_by-cons (λ k. length k + 1) l ls)

pub length-wire : (n : Name) → length (wire n) ≡ wire_len n
length-wire n = omega (arith, length-append (spelled n) (0 ∷ []), length-spelled_sum n)

pub spells_flat : (bs : List ℕ) (n : Name) → SpellsName bs n → IsFlat bs
spells_flat bs n s =
    let e : name_in bs ≡ n = ap name_in (sym s.octets) ∙ name_in-wire n in
    rw e s

pub ends_name : (bs rest : List ℕ) → HasRead bs rest → BeginsWith rest [] [] → length bs ≤ 255 → IsFlat bs
ends_name bs rest r b short =
    let e : bs ≡ wire r.labels = r.octets ∙ ap (λ s. spelled r.labels ++ s) b.octets in
    spells_flat bs r.labels (record {
      octets = sym e;
      name = record { labels = r.plain; short = omega (arith, short, ap length e, length-wire r.labels) };
    })

-- what a test of the length says
pub test_empty : (xs : List ℕ) (t : Bool) → t ≡ eqb (length xs) 0 → t ≡ true → length xs ≡ 0
test_empty xs t e h = eqb-true (length xs) 0 (sym e ∙ h)

pub test_some : (xs : List ℕ) (t : Bool) → t ≡ eqb (length xs) 0 → t ≡ false → 0 < length xs
test_some [] t e h = cc
test_some (x ∷ xs) t e h = omega arith

pub some_octets : (l : Label) (t : Bool) → (l ≡ [] → t ≡ true) → t ≡ false → 0 < length l
some_octets [] t e h = let x = e refl in cc
some_octets (x ∷ xs) t e h = omega arith

-- octets that are refused as a name spell none
no_name_left : (ls n : Name) (rest : List ℕ) (whole : Name) (e : NameError) → AllByRecursion IsLabel ls → AllByRecursion IsLabel n → spelled ls ++ rest ≡ wire n → end_fault rest whole ≡ Some e → ⊥
no_name_left [] [] rest whole e a b h f = let x : None ≡ Some e = ap (λ r. end_fault r whole) (sym h) ∙ f in cc
no_name_left (l ∷ ls) [] rest whole e a b h f =
    let x : length l ≡ 0 = cc in absurd (omega (arith, a.0.some))
no_name_left [] ([] ∷ n) rest whole e a b h f = absurd (omega (arith, b.0.some))
no_name_left [] ((x ∷ k) ∷ n) rest whole e a b h f =
    let m = length k in
    let behind = (x ∷ k) ++ wire n in
    let t : leb (suc m) 63 ≡ true = le-leb (suc m) 63 b.0.short in
    let u : leb (suc m) (length behind) ≡ true = le-leb (suc m) (length behind) (omega (arith, length-append (x ∷ k) (wire n))) in
    let s : split (suc m ∷ behind) ≡ Ok (take (suc m) behind, drop (suc m) behind) = rw (t, u) refl in
    let none : head_fault (suc m ∷ behind) ≡ None = ap fault_of s in
    let whole_rest : rest ≡ suc m ∷ behind = h ∙ append_assoc (suc m ∷ x ∷ k) (spelled n) (0 ∷ []) in
    let y : None ≡ Some e = sym none ∙ ap (λ r. end_fault r whole) (sym whole_rest) ∙ f in cc
no_name_left (l ∷ ls) (k ∷ n) rest whole e a b h f =
    let g : (length l ∷ l) ++ (spelled ls ++ rest) ≡ (length k ∷ k) ++ wire n =
    sym (append_assoc (length l ∷ l) (spelled ls) rest) ∙ h ∙ append_assoc (length k ∷ k) (spelled n) (0 ∷ []) in
    let lk : length l ≡ length k = cc in
    let t : l ++ (spelled ls ++ rest) ≡ k ++ wire n = cc in
    let d : spelled ls ++ rest ≡ wire n =
    sym (drop_at l (spelled ls ++ rest) (length l) refl) ∙ ap (drop (length l)) t ∙ drop_at k (wire n) (length l) (sym lk) in
    no_name_left ls n rest whole e a.1 b.1 d f

pub refused_spells_none : (bs : List ℕ) (e : NameError) (n : Name) → RefusedName bs e → SpellsName bs n → ⊥
refused_spells_none bs e n (inl long) s = absurd (omega (arith, long.0, s.name.short, length-wire n, ap length s.octets))
refused_spells_none bs e n (inr stop) s = no_name_left stop.labels n stop.rest stop.labels e stop.plain s.name.labels (sym stop.octets ∙ sym s.octets) stop.fault

pub nil_of : (xs : List ℕ) → length xs ≡ 0 → xs ≡ []
nil_of [] h = refl
nil_of (x ∷ xs) h = absurd (omega arith)
