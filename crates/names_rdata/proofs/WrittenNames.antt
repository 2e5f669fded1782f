-- A name in wire form is read as that name.
use Rattle.std.proofs.Common.{◌≡◌, ℕ, ◌+◌, ◌-◌, ◌≤◌, List, [], ◌∷◌, ◌++◌, length, take, drop, refl, sym, ap, subst, ◌∙◌, append_assoc, length-append, arith}
use Rattle.std.specs.Prelude.{slice_range}
use Rattle.std.specs.List.{AllByRecursion, flat_map}
use Rattle.std.proofs.Math.Seq.{take-append_seam, drop-append_seam}
use Rattle.std.proofs.lemmas.List.{drop-drop, length-drop}
use Rattle.definitions.specs.Limits.{pointer_limit}
use Rattle.definitions.specs.Name.{Name, Label, IsLabel, wire}
use Rattle.definitions.specs.Reading.{Reads, root, label}
use Rattle.names_wire.proofs.AlongNames.{at_drop}
use Rattle.names_rdata.specs.ReadBack.{NamesAreReadBack}

inside : (m : List ℕ) (p : ℕ) (b : ℕ) (rest : List ℕ) → drop p m ≡ b ∷ rest → p + 1 + length rest ≤ length m
inside m p b rest h = omega (arith, length-drop p m, ap length h)

-- what stands behind a label
past : (m : List ℕ) (p : ℕ) (l rest : List ℕ) → drop p m ≡ l ++ rest → drop (p + length l) m ≡ rest
past m p l rest h = sym (drop-drop (length l) p m) ∙ ap (drop (length l)) h ∙ drop-append_seam l rest

-- the octets of a label
range : (m : List ℕ) (p : ℕ) (l rest : List ℕ) → drop p m ≡ l ++ rest → l ≡ slice_range m p (p + length l)
range m p l rest h =
    let e : p + length l - p ≡ length l = omega arith in
    rw e (sym (ap (take (length l)) h ∙ take-append_seam l rest))

wire-cons : (l : Label) (n : Name) → wire (l ∷ n) ≡ length l ∷ (l ++ wire n)
wire-cons l n = ap (λ x. length l ∷ x) (append_assoc l (flat_map (λ k. length k ∷ k) n) (0 ∷ []))

wire_at : (m : List ℕ) (p k : ℕ) (n : Name) (rest : List ℕ) → drop p m ≡ wire n ++ rest → AllByRecursion IsLabel n → Reads m p k n (p + length (wire n))
wire_at m p k [] rest h a = root (at_drop m p 0 rest h).0 refl
wire_at m p k (l ∷ n) rest h a =
    let first : drop p m ≡ length l ∷ ((l ++ wire n) ++ rest) = h ∙ ap (λ x. x ++ rest) (wire-cons l n) in
    let t = at_drop m p (length l) ((l ++ wire n) ++ rest) first in
    let next : drop (p + 1) m ≡ l ++ (wire n ++ rest) = sym t.1 ∙ append_assoc l (wire n) rest in
    let fits : p + 1 + length l ≤ length m = omega (arith, inside m p (length l) ((l ++ wire n) ++ rest) first, length-append (l ++ wire n) rest, length-append l (wire n)) in
    let onward : Reads m (p + 1 + length l) k n (p + 1 + length l + length (wire n)) = wire_at m (p + 1 + length l) k n rest (past m (p + 1) l (wire n ++ rest) next) a.1 in
    let whole : p + 1 + length l + length (wire n) ≡ p + length (wire (l ∷ n)) = omega (arith, ap length (wire-cons l n), length-append l (wire n)) in
    label t.0 a.0.some a.0.short refl fits (range m (p + 1) l (wire n ++ rest) next) (subst (λ e. Reads m (p + 1 + length l) k n e) whole onward)

pub written_names : NamesAreReadBack
written_names before behind n h = record {
  reads = wire_at (before ++ (wire n ++ behind)) (length before) pointer_limit n behind (drop-append_seam before (wire n ++ behind)) h.labels;
  short = h.short;
}
