-- The labels along a row and its pointers, step by step.
use Rattle.std.proofs.Common.{◌≡◌, ◌⊎◌, inl, inr, ℕ, zero, suc, ◌+◌, ◌-◌, ◌≤◌, min, Bool, true, false, cond, List, [], ◌∷◌, ◌++◌, length, take, drop, refl, sym, ap, ◌∙◌, arith, Option, Some, None, Result, Ok, Err, nat_le, length-drop, length-take-le}
use Rattle.std.proofs.lemmas.List.{drop_all, drop_min, drop-drop}
use Rattle.std.proofs.lemmas.Bool.{leb-true}
use Rattle.std.specs.Iterator.{MakesProgress, item_count}
use Rattle.definitions.specs.Limits.{pointer_limit}
use Rattle.names_wire.specs.Label.{split, no_length}
use Rattle.names_wire.specs.declared.label.SplitLabelError.{SplitLabelError}
use Rattle.names_wire.specs.declared.label.SplitLabelError.TheVariants.{ShortInput}
use Rattle.names_wire.specs.Slices.{Row, stop, with_label, leads_to, pointer_from, row_behind, labels_along}

-- what the first step makes of the label in front
abbrev step : ℕ → ℕ → List ℕ → Result (List ℕ × List ℕ) SplitLabelError → Row
step all here rest found = elim found [
  | Ok found ↦ elim found.0 [ [] ↦ with_label [] stop | l ∷ ls ↦ with_label (l ∷ ls) (row_behind all (length (l ∷ ls)) rest) ]
  | Err e ↦ record { labels = []; onward = leads_to all here e }
]

-- where no label is split off
pub row_err : (all : ℕ) (xs : List ℕ) (e : SplitLabelError) → split xs ≡ Err e → row_behind all 0 xs ≡ record { labels = []; onward = leads_to all (length xs) e }
row_err all [] e h = ap (λ (r : Result (List ℕ × List ℕ) SplitLabelError). elim r as (λ _. Row) [ Ok x ↦ stop | Err e ↦ record { labels = []; onward = leads_to all 0 e } ]) h
row_err all (b ∷ rest) e h = ap (step all (length (b ∷ rest)) rest) h

skipped : (all k : ℕ) (xs : List ℕ) → row_behind all k xs ≡ row_behind all 0 (drop k xs)
skipped all zero xs = refl
skipped all (suc k) [] = refl
skipped all (suc k) (x ∷ xs) = skipped all k xs

row_root : (all : ℕ) (xs rest : List ℕ) → split xs ≡ Ok ([], rest) → row_behind all 0 xs ≡ with_label [] stop
row_root all [] rest h = cc
row_root all (b ∷ bs) rest h = ap (step all (length (b ∷ bs)) bs) h

-- the label in front and what stands behind it, by its length octet
pub record Parts (b : ℕ) (bs label rest : List ℕ) : Type 0 where
  pub room : b ≤ length bs
  pub count : length label ≡ b
  pub after : drop b bs ≡ rest

abbrev cut : ℕ → List ℕ → Result (List ℕ × List ℕ) SplitLabelError
cut b bs = Ok (take b bs, drop b bs)

parts : (b : ℕ) (bs label rest : List ℕ) → split (b ∷ bs) ≡ Ok (label, rest) → Parts b bs label rest
parts b bs label rest h = go (nat_le b 63) (nat_le b (length bs)) refl h
  where
    go : (s t : Bool) → nat_le b (length bs) ≡ t → cond s (cond t (cut b bs) (Err ShortInput)) (Err (no_length b bs)) ≡ Ok (label, rest) → Parts b bs label rest
    go true true k e = record {
      room = leb-true b (length bs) k;
      count = ap length (sym (ap (λ (r : Result (List ℕ × List ℕ) SplitLabelError). elim r as (λ _. List ℕ) [ Ok x ↦ x.0 | Err e ↦ [] ]) e)) ∙ length-take-le b bs (leb-true b (length bs) k);
      after = ap (λ (r : Result (List ℕ × List ℕ) SplitLabelError). elim r as (λ _. List ℕ) [ Ok x ↦ x.1 | Err e ↦ [] ]) e;
    }
    go true false k e = cc
    go false t k e = cc

behind : (b : ℕ) (bs label rest : List ℕ) → split (b ∷ bs) ≡ Ok (label, rest) → drop (length label) bs ≡ rest
behind b bs label rest h = let p : Parts b bs label rest = parts b bs label rest h in ap (λ j. drop j bs) p.count ∙ p.after

row_label : (all : ℕ) (xs : List ℕ) (l : ℕ) (ls rest : List ℕ) → split xs ≡ Ok (l ∷ ls, rest) → row_behind all 0 xs ≡ with_label (l ∷ ls) (row_behind all 0 rest)
row_label all [] l ls rest h = cc
row_label all (b ∷ bs) l ls rest h = ap (step all (length (b ∷ bs)) bs) h ∙ ap (with_label (l ∷ ls)) (skipped all (length (l ∷ ls)) bs ∙ ap (row_behind all 0) (behind b bs (l ∷ ls) rest h))

-- the labels of a row, and of what it leads to
abbrev pub onto : ℕ → List ℕ → Row → List (List ℕ)
onto k m r = r.labels ++ (elim r.onward [ None ↦ [] | Some q ↦ labels_along k m q ])

pub along_end : (k : ℕ) (m : List ℕ) → labels_along k m (length m) ≡ []
along_end zero m = ap (λ xs. (row_behind (length m) 0 xs).labels) (drop_all (length m) m (omega arith))
along_end (suc k) m = ap (λ xs. onto k m (row_behind (length m) 0 xs)) (drop_all (length m) m (omega arith))

-- from a place past the end there are those from the end on, which are none
pub along_within : (m : List ℕ) (p q : ℕ) → q ≡ min p (length m) → labels_along 255 m q ≡ labels_along pointer_limit m p
unfolding pointer_limit
along_within m p q h = ap (λ xs. onto 254 m (row_behind (length m) 0 xs)) (ap (λ n. drop n m) h ∙ drop_min p m)

pub along_none : (k : ℕ) (m : List ℕ) (p : ℕ) (e : SplitLabelError) → split (drop p m) ≡ Err e → (k ≡ 0) ⊎ (pointer_from m p ≡ None) → labels_along k m p ≡ []
along_none zero m p e h o = ap (λ (r : Row). r.labels) (row_err (length m) (drop p m) e h)
along_none (suc k) m p e h o = ap (onto k m) (row_err (length m) (drop p m) e h) ∙ ap (λ (q : Option ℕ). onto k m (record { labels = []; onward = q })) (nowhere o)
  where
    nowhere : (suc k ≡ 0) ⊎ (pointer_from m p ≡ None) → leads_to (length m) (length (drop p m)) e ≡ None
    nowhere (inl z) = absurd (omega (arith, z))
    nowhere (inr n) = sym (ap (λ (r : Result (List ℕ × List ℕ) SplitLabelError). elim r as (λ _. Option ℕ) [ Ok found ↦ None | Err e ↦ leads_to (length m) (length (drop p m)) e ]) h) ∙ n

pub along_root : (k : ℕ) (m : List ℕ) (p : ℕ) (rest : List ℕ) → split (drop p m) ≡ Ok ([], rest) → labels_along k m p ≡ [] ∷ []
along_root zero m p rest h = ap (λ (r : Row). r.labels) (row_root (length m) (drop p m) rest h)
along_root (suc k) m p rest h = ap (onto k m) (row_root (length m) (drop p m) rest h)

pub along_label : (k : ℕ) (m : List ℕ) (p q : ℕ) (l : ℕ) (ls rest : List ℕ) → split (drop p m) ≡ Ok (l ∷ ls, rest) → rest ≡ drop q m → labels_along k m p ≡ (l ∷ ls) ∷ labels_along k m q
along_label zero m p q l ls rest h e = ap (λ (r : Row). r.labels) (row_label (length m) (drop p m) l ls rest h ∙ ap (λ xs. with_label (l ∷ ls) (row_behind (length m) 0 xs)) e)
along_label (suc k) m p q l ls rest h e = ap (onto k m) (row_label (length m) (drop p m) l ls rest h ∙ ap (λ xs. with_label (l ∷ ls) (row_behind (length m) 0 xs)) e)

pub along_some : (k : ℕ) (m : List ℕ) (p q : ℕ) (label rest : List ℕ) → split (drop p m) ≡ Ok (label, rest) → (label ≡ [] → ⊥) → rest ≡ drop q m → labels_along k m p ≡ label ∷ labels_along k m q
along_some k m p q [] rest h n e = absurd (n refl)
along_some k m p q (l ∷ ls) rest h n e = along_label k m p q l ls rest h e

-- what stands behind a label is the end of the octets
from_end : (m rest : List ℕ) (n : ℕ) → n ≤ length m → rest ≡ drop n m → rest ≡ drop (length m - length rest) m
from_end m rest n h e =
    let k : length m - length rest ≡ n = omega (arith, ap length e ∙ length-drop n m, h) in
    e ∙ ap (λ j. drop j m) (sym k)

front : (xs label rest : List ℕ) → split xs ≡ Ok (label, rest) → (length label + 1 ≤ length xs) × (rest ≡ drop (length label) (drop 1 xs))
front [] label rest h = cc
front (b ∷ bs) label rest h = let p : Parts b bs label rest = parts b bs label rest h in (omega (arith, p.room, p.count), sym (behind b bs label rest h))

pub behind_label : (m : List ℕ) (p : ℕ) (label rest : List ℕ) → p ≤ length m → split (drop p m) ≡ Ok (label, rest) → rest ≡ drop (length m - length rest) m
behind_label m p label rest h e =
    let f : (length label + 1 ≤ length (drop p m)) × (rest ≡ drop (length label) (drop 1 (drop p m))) = front (drop p m) label rest e in
    from_end m rest (p + 1 + length label) (omega (arith, f.0, length-drop p m, h)) (f.1 ∙ ap (drop (length label)) (drop-drop 1 p m) ∙ drop-drop (length label) (p + 1) m)

pub progress : {A : Type 0} (s t : List (List ℕ)) (x : A) (o : List ℕ) → s ≡ o ∷ t → MakesProgress {A = A} (λ (_ : List (List ℕ)). Unit {0}) (item_count {S = List (List ℕ)} {A = List ℕ} (λ labels. labels)) s (Some x) t
progress s t x o e = record { on = λ _. (tt, tt, omega (arith, ap length e)); keeps = tt; rests = λ _. tt }

pub behind_short : (m : List ℕ) (p : ℕ) (label rest : List ℕ) → p ≤ length m → split (drop p m) ≡ Ok (label, rest) → length rest ≤ length m
behind_short m p label rest h e = omega (arith, ap length (behind_label m p label rest h e), length-drop (length m - length rest) m)
