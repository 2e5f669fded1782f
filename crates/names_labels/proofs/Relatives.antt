-- What has been read of the octets that may be a relative name.
use Rattle.std.proofs.Common.{◌≡◌, ℕ, zero, suc, ◌<◌, ◌≤◌, inl, inr, true, List, [], ◌∷◌, ◌++◌, length, take, drop, refl, sym, ap, ◌∙◌, append_assoc, length-append, leb, arith}
use Rattle.std.specs.Prelude.{None, Some, Ok}
use Rattle.std.specs.List.{AllByRecursion}
use Rattle.std.proofs.lemmas.Bool.{le-leb}
use Rattle.std.proofs.Math.Dec.{leb-zero}
use Rattle.std.proofs.lemmas.List.{append-nil, drop_at}
use Rattle.names_wire.specs.Name.{Name, Label, IsLabel, IsName}
use Rattle.names_labels.specs.Flat.{spelled, labels_in, IsRun, IsFlatRelative, SpellsRelative}
use Rattle.names_labels.specs.RefusedRelative.{label_fault, fault_of, StopsShort, RefusedRelative}
use Rattle.names_labels.specs.declared.relative_error.RelativeNameError.{RelativeNameError}
use Rattle.names_labels.specs.declared.relative_error.RelativeNameError.TheVariants.{AbsoluteName}
use Rattle.names_wire.specs.Label.{split}
use Rattle.names_labels.proofs.Runs.{labels_in-spelled}
use Rattle.names_labels.proofs.Checks.{BeginsWith, octets_push, plain_push, length-spelled_sum, nil_of}

-- labels stand before the rest
pub record HasLabels (bs : List ℕ) (rest : List ℕ) : Type 0 where
  pub labels : Name
  pub plain : AllByRecursion IsLabel labels
  pub octets : bs ≡ spelled labels ++ rest

pub no_labels : (bs : List ℕ) → HasLabels bs bs
no_labels bs = record { labels = []; plain = tt; octets = refl }

pub labels_more : (bs rest behind : List ℕ) (l : Label) → HasLabels bs rest → BeginsWith rest l behind → 0 < length l → HasLabels bs behind
labels_more bs rest behind l r b some = record {
  labels = r.labels ++ l ∷ [];
  plain = plain_push r.labels l r.plain (record { some = some; short = b.short });
  octets = octets_push bs rest behind r.labels l r.octets b.octets;
}

stops_at : (rest : List ℕ) (e : RelativeNameError) → 0 < length rest → fault_of (split rest) ≡ Some e → label_fault rest ≡ Some e
stops_at [] e m h = absurd (omega arith)
stops_at (zero ∷ rest) e m h =
    let x = leb-zero (length rest) in
    let s : split (0 ∷ rest) ≡ Ok ([], rest) = rw x refl in
    let z : None ≡ Some e = sym (ap fault_of s) ∙ h in cc
stops_at (suc n ∷ rest) e m h = h

pub stops_labels : (bs rest : List ℕ) (e : RelativeNameError) → HasLabels bs rest → length bs ≤ 254 → 0 < length rest → fault_of (split rest) ≡ Some e → StopsShort bs e
stops_labels bs rest e r short more h = record {
  short = short;
  labels = r.labels;
  rest = rest;
  plain = r.plain;
  octets = r.octets;
  fault = stops_at rest e more h;
}

pub stops_absolute : (bs rest behind : List ℕ) → HasLabels bs rest → BeginsWith rest [] behind → length bs ≤ 254 → StopsShort bs AbsoluteName
stops_absolute bs rest behind r b short = record {
  short = short;
  labels = r.labels;
  rest = rest;
  plain = r.plain;
  octets = r.octets;
  fault = ap label_fault b.octets;
}

pub spells_relative : (bs : List ℕ) (n : Name) → SpellsRelative bs n → IsFlatRelative bs
spells_relative bs n s =
    let e : labels_in bs ≡ n = ap labels_in (sym s.octets) ∙ labels_in-spelled n in
    rw e s

pub ends_relative : (bs rest : List ℕ) → HasLabels bs rest → length rest ≡ 0 → length bs ≤ 254 → IsFlatRelative bs
ends_relative bs rest r none short =
    let e : bs ≡ spelled r.labels = r.octets ∙ ap (λ s. spelled r.labels ++ s) (nil_of rest none) ∙ append-nil (spelled r.labels) in
    spells_relative bs r.labels (record {
      octets = sym e;
      name = record { labels = r.plain; short = omega (arith, short, ap length e, length-spelled_sum r.labels) };
    })

no_labels_left : (ls n : Name) (rest : List ℕ) (e : RelativeNameError) → AllByRecursion IsLabel ls → AllByRecursion IsLabel n → spelled ls ++ rest ≡ spelled n → label_fault rest ≡ Some e → ⊥
no_labels_left [] [] rest e a b h f = let x : None ≡ Some e = ap label_fault (sym h) ∙ f in cc
no_labels_left (l ∷ ls) [] rest e a b h f = cc
no_labels_left [] ([] ∷ n) rest e a b h f = absurd (omega (arith, b.0.some))
no_labels_left [] ((x ∷ k) ∷ n) rest e a b h f =
    let m = length k in
    let behind = (x ∷ k) ++ spelled n in
    let t : leb (suc m) 63 ≡ true = le-leb (suc m) 63 b.0.short in
    let u : leb (suc m) (length behind) ≡ true = le-leb (suc m) (length behind) (omega (arith, length-append (x ∷ k) (spelled n))) in
    let s : split (suc m ∷ behind) ≡ Ok (take (suc m) behind, drop (suc m) behind) = rw (t, u) refl in
    let y : None ≡ Some e = sym (ap fault_of s) ∙ ap label_fault (sym h) ∙ f in cc
no_labels_left (l ∷ ls) (k ∷ n) rest e a b h f =
    let g : (length l ∷ l) ++ (spelled ls ++ rest) ≡ (length k ∷ k) ++ spelled n = sym (append_assoc (length l ∷ l) (spelled ls) rest) ∙ h in
    let lk : length l ≡ length k = cc in
    let t : l ++ (spelled ls ++ rest) ≡ k ++ spelled n = cc in
    let d : spelled ls ++ rest ≡ spelled n =
    sym (drop_at l (spelled ls ++ rest) (length l) refl) ∙ ap (drop (length l)) t ∙ drop_at k (spelled n) (length l) (sym lk) in
    no_labels_left ls n rest e a.1 b.1 d f

pub refused_relative : (bs : List ℕ) (e : RelativeNameError) (n : Name) → RefusedRelative bs e → SpellsRelative bs n → ⊥
refused_relative bs e n (inl long) s = absurd (omega (arith, long.0, s.name.short, length-spelled_sum n, ap length s.octets))
refused_relative bs e n (inr stop) s = no_labels_left stop.labels n stop.rest e stop.plain s.name.labels (sym stop.octets ∙ sym s.octets) stop.fault

pub all_short : (n : Name) → AllByRecursion IsLabel n → AllByRecursion (λ l. length l ≤ 63) n
all_short [] a = tt
all_short (l ∷ n) a = (a.0.short, all_short n a.1)

pub relative_run : (bs : List ℕ) → IsFlatRelative bs → IsRun bs
relative_run bs f = record { whole = sym f.octets; short = all_short (labels_in bs) f.name.labels }

pub relative_short : (n : Name) → IsName n → length (spelled n) ≤ 254
relative_short n h = omega (arith, h.short, length-spelled_sum n)
