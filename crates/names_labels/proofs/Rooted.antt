-- A name, and its labels with the root's behind them.
use Rattle.std.proofs.Common.{◌≡◌, ℕ, ◌≤◌, Bool, false, ◌&&◌, List, [], ◌∷◌, ◌++◌, length, refl, sym, ap, ◌∙◌, length-append, eqb, arith}
use Rattle.std.specs.Prelude.{◌↔◌, IsTrue, reverse}
use Rattle.std.specs.List.{AllByRecursion}
use Rattle.std.specs.Ordering.{nat_cmp}
use Rattle.std.specs.Cmp.Lexicographic.{slice_cmp}
use Rattle.std.specs.Str.{bytes_eq, str_to_ascii_lowercase}
use Rattle.std.proofs.lemmas.List.{map-append, reverse-append}
use Rattle.std.proofs.lemmas.Bool.{and_right, eqb-true}
use Rattle.names_wire.specs.Name.{Name, Label, IsLabel, IsName, wire, low, from_root, same, name_cmp}
use Rattle.names_labels.specs.Flat.{spelled, labels_in, name_in, IsRun, IsFlat, SpellsName}
use Rattle.names_labels.proofs.Runs.{labels_in-wire, wire-spelled}
use Rattle.names_labels.proofs.Checks.{length-wire}

pub flat_labels : (bs : List ℕ) → IsFlat bs → labels_in bs ≡ name_in bs ++ [] ∷ []
flat_labels bs f = ap labels_in (sym f.octets) ∙ labels_in-wire (name_in bs)

all_short : (n : Name) → AllByRecursion IsLabel n → AllByRecursion (λ l. length l ≤ 63) (n ++ [] ∷ [])
all_short [] a = (omega arith, tt)
all_short (l ∷ n) a = (a.0.short, all_short n a.1)

pub flat_run : (bs : List ℕ) → IsFlat bs → IsRun bs
flat_run bs f = record {
  whole = sym f.octets ∙ wire-spelled (name_in bs) ∙ ap spelled (sym (flat_labels bs f));
  short = rw (flat_labels bs f) (all_short (name_in bs) f.name.labels);
}

-- a row that spells a name's labels and the root's is the name's wire form
pub row_spells : (bs : List ℕ) (n : Name) → IsRun bs → labels_in bs ≡ n ++ [] ∷ [] → IsName n → SpellsName bs n
row_spells bs n r e h = record { octets = wire-spelled n ∙ ap spelled (sym e) ∙ sym r.whole; name = h }

pub rooted_short : (n : Name) → IsName n → length (spelled (n ++ [] ∷ [])) ≤ 255
rooted_short n h = omega (arith, h.short, length-wire n, ap length (wire-spelled n))

same_none : (l : Label) (n : Name) → same [] (n ++ l ∷ []) ≡ false
same_none l [] = refl
same_none l (k ∷ n) = refl

same_no_more : (l : Label) (n : Name) → same (n ++ l ∷ []) [] ≡ false
same_no_more l [] = refl
same_no_more l (k ∷ n) = refl

pub same-rooted : (m n : Name) → same (m ++ [] ∷ []) (n ++ [] ∷ []) ≡ same m n
same-rooted [] [] = refl
same-rooted [] (l ∷ n) = and_right (bytes_eq [] (str_to_ascii_lowercase l)) (same [] (n ++ [] ∷ [])) (same_none [] n)
same-rooted (k ∷ m) [] = and_right (bytes_eq (str_to_ascii_lowercase k) []) (same (m ++ [] ∷ []) []) (same_no_more [] m)
same-rooted (k ∷ m) (l ∷ n) = ap (λ t. bytes_eq (str_to_ascii_lowercase k) (str_to_ascii_lowercase l) && t) (same-rooted m n)

from_root-rooted : (n : Name) → from_root (n ++ [] ∷ []) ≡ [] ∷ from_root n
from_root-rooted n = ap reverse (map-append str_to_ascii_lowercase n ([] ∷ [])) ∙ reverse-append (low n) ([] ∷ [])

pub name_cmp-rooted : (m n : Name) → name_cmp (m ++ [] ∷ []) (n ++ [] ∷ []) ≡ name_cmp m n
name_cmp-rooted m n = λ t. slice_cmp (slice_cmp nat_cmp) (from_root-rooted m t) (from_root-rooted n t)

-- a wire form of one octet is the root's
pub only_root : (n : Name) (bs : List ℕ) (t : Bool) → bs ≡ wire n → t ≡ eqb (length bs) 1 → IsTrue t ↔ (n ≡ [])
only_root [] bs t e h = (λ _. refl, λ _. h ∙ ap (λ xs. eqb (length xs) 1) e)
only_root (l ∷ n) bs t e h = (
  λ s. let k : length bs ≡ 1 = eqb-true (length bs) 1 (sym h ∙ s) in
      absurd (omega (arith, ap length e, length-append (spelled (l ∷ n)) (0 ∷ []))),
  λ z. cc,
)
