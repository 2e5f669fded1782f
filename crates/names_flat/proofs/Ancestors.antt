-- One name after another up to the root.
use Rattle.std.proofs.Common.{◌≡◌, ℕ, ◌<◌, List, [], ◌∷◌, ◌++◌, length, refl, sym, ap, ◌∙◌, length-append, arith}
use Rattle.definitions.specs.Name.{Name, Label, wire, IsName}
use Rattle.names_labels.specs.Flat.{labels_in, name_in, spelled, SplitsLabel}
use Rattle.names_labels.proofs.Checks.{spells_flat}
use Rattle.names_labels.specs.Suffixes.{suffixes, names_left, IsLeft}
use Rattle.names_labels.proofs.Rooted.{flat_labels}
use Rattle.names_flat.proofs.Splits.{first_of_name, read_name}

pub left_of : (bs : List ℕ) → 0 < length bs → names_left bs ≡ suffixes (name_in bs)
left_of [] h = absurd (omega arith)
left_of (b ∷ bs) h = refl

some_octets : (n : Name) (bs : List ℕ) → bs ≡ wire n → 0 < length bs
some_octets n bs e = omega (arith, ap length e, length-append (spelled n) (0 ∷ []))

pub left_of_name : (bs : List ℕ) (n : Name) → bs ≡ wire n → IsName n → names_left bs ≡ suffixes n
left_of_name bs n e h = left_of bs (some_octets n bs e) ∙ ap suffixes (read_name bs n (record { octets = sym e; name = h }))

pub flat_left : (bs : List ℕ) (n : Name) → bs ≡ wire n → IsName n → IsLeft bs
flat_left bs n e h = λ k. spells_flat bs n (record { octets = sym e; name = h })

record Next (n : Name) (rest : List ℕ) : Type 0 where
  left : IsLeft rest
  names : suffixes n ≡ n ∷ names_left rest

next : (n : Name) (rest : List ℕ) (l : Label) (run : List ℕ) → labels_in run ≡ n ++ [] ∷ [] → IsName n → SplitsLabel run l rest → Next n rest
next [] rest l run e h s =
    let x : [] ∷ [] ≡ l ∷ labels_in rest = sym e ∙ s.first in
    let z : labels_in rest ≡ [] = cc in
    let w : rest ≡ [] = s.behind.whole ∙ ap spelled z in
    record { left = λ k. absurd (omega (arith, ap length w)); names = ap (λ r. [] ∷ names_left r) (sym w) }
next (k ∷ n) rest l run e h s =
    let f = first_of_name (k ∷ n) run rest l e h s (λ z. named z) in
    let m : n ≡ f.0 = tail f.1 in
    record {
      left = flat_left rest f.0 (sym f.2.octets) f.2.name;
      names = ap (λ ms. (k ∷ n) ∷ ms) (ap suffixes m ∙ sym (left_of_name rest f.0 (sym f.2.octets) f.2.name));
    }
  where
    named : l ≡ [] → ⊥
    named z =
        let x : k ∷ (n ++ [] ∷ []) ≡ l ∷ labels_in rest = sym e ∙ s.first in
        let y : k ≡ l = cc in
        absurd (omega (arith, h.labels.0.some, ap length (y ∙ z)))

    tail : {m : Name} → k ∷ n ≡ l ∷ m → n ≡ m
    tail x = cc

pub steps_up : (bs rest : List ℕ) (l : Label) → IsLeft bs → 0 < length bs → SplitsLabel bs l rest → names_left bs ≡ name_in bs ∷ names_left rest
steps_up bs rest l i h s = left_of bs h ∙ (next (name_in bs) rest l bs (flat_labels bs (i h)) (i h).name s).names

pub stays_left : (bs rest : List ℕ) (l : Label) → IsLeft bs → 0 < length bs → SplitsLabel bs l rest → IsLeft rest
stays_left bs rest l i h s = (next (name_in bs) rest l bs (flat_labels bs (i h)) (i h).name s).left

pub none_left : (bs : List ℕ) → length bs ≡ 0 → names_left bs ≡ []
none_left [] h = refl
none_left (b ∷ bs) h = absurd (omega arith)

pub not_none : (bs : List ℕ) → IsLeft bs → 0 < length bs → labels_in bs ≡ [] → ⊥
not_none bs i h e = go (name_in bs) (sym (flat_labels bs (i h)) ∙ e)
  where
    go : (n : Name) → n ++ [] ∷ [] ≡ [] → ⊥
    go [] x = cc
    go (l ∷ n) x = cc
