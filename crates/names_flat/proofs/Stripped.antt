-- A name without a suffix.
use Rattle.std.proofs.Common.{◌≡◌, ℕ, ◌-◌, ◌≤◌, Bool, true, false, ◌||◌, [], ◌∷◌, ◌++◌, length, take, refl, sym, ap, ◌∙◌, length-append, arith}
use Rattle.std.specs.Str.{bytes_eq, str_to_ascii_lowercase}
use Rattle.std.specs.Char.{to_ascii_lowercase}
use Rattle.std.proofs.lemmas.Slice.Eq.{bytes_eq-Decides}
use Rattle.std.proofs.lemmas.List.{take_at, length-map}
use Rattle.std.proofs.lemmas.Bool.{and_parts}
use Rattle.definitions.specs.Name.{Name, same, at_or_above, wire}
use Rattle.names_labels.specs.Flat.{spelled, StartsLabel}
use Rattle.names_labels.proofs.Runs.{spelled-append, wire-spelled}
use Rattle.names_labels.proofs.Rooted.{same-rooted}

or_false : (b : Bool) → (b || false) ≡ b
or_false true = refl
or_false false = refl

not_same : (b : Name) → same (b ++ [] ∷ []) [] ≡ false
not_same [] = refl
not_same (l ∷ b) = refl

-- the root's label makes no difference
pub at_or_above-rooted : (b n : Name) → at_or_above (b ++ [] ∷ []) (n ++ [] ∷ []) ≡ at_or_above b n
at_or_above-rooted b [] = (λ i. same-rooted b [] i || not_same b i) ∙ or_false (same b [])
at_or_above-rooted b (l ∷ n) = λ i. same-rooted b (l ∷ n) i || at_or_above-rooted b n i

-- labels in front of the suffix
pub record Strips (b n : Name) : Type 0 where
  pub front : Name
  pub suffix : Name
  pub are : front ++ suffix ≡ n
  pub ends : same b suffix ≡ true

pub strips : (b n : Name) → at_or_above b n ≡ true → Strips b n
strips b [] h = record { front = []; suffix = []; are = refl; ends = h }
strips b (l ∷ n) h = go (same b (l ∷ n)) (strips b n) refl h
  where
    go : (t : Bool) → (at_or_above b n ≡ true → Strips b n) → same b (l ∷ n) ≡ t → (t || at_or_above b n) ≡ true → Strips b (l ∷ n)
    go true more e k = record { front = []; suffix = l ∷ n; are = refl; ends = e }
    go false more e k =
        let s = more k in
        record { front = l ∷ s.front; suffix = s.suffix; are = ap (λ m. l ∷ m) s.are; ends = s.ends }

-- names that are the same are as long
pub same_octets : (m n : Name) → same m n ≡ true → length (spelled m) ≡ length (spelled n)
same_octets [] [] h = refl
same_octets [] (l ∷ n) h = cc
same_octets (k ∷ m) [] h = cc
same_octets (k ∷ m) (l ∷ n) h =
    let p = and_parts (bytes_eq (str_to_ascii_lowercase k) (str_to_ascii_lowercase l)) (same m n) h in
    let e = (bytes_eq-Decides (str_to_ascii_lowercase k) (str_to_ascii_lowercase l)).0 p.0 in
    let d : length k ≡ length l = sym (length-map k to_ascii_lowercase) ∙ ap length e ∙ length-map l to_ascii_lowercase in
    omega (arith, d, length-append k (spelled m), length-append l (spelled n), same_octets m n p.1)

-- where the suffix begins
pub suffix_place : (b n : Name) (s : Strips b n) → length (spelled n) - length (spelled b) ≡ length (spelled s.front)
suffix_place b n s =
    omega (arith, ap (λ m. length (spelled m)) s.are, ap length (spelled-append s.front s.suffix), length-append (spelled s.front) (spelled s.suffix), same_octets b s.suffix s.ends)

pub suffix_within : (b n : Name) → Strips b n → length (spelled b) ≤ length (spelled n)
suffix_within b n s =
    omega (arith, ap (λ m. length (spelled m)) s.are, ap length (spelled-append s.front s.suffix), length-append (spelled s.front) (spelled s.suffix), same_octets b s.suffix s.ends)

pub suffix_starts : (b n : Name) (place : ℕ) → Strips b n → place ≡ length (spelled n) - length (spelled b) → StartsLabel n place
suffix_starts b n place s e =
    let t : take (length s.front) n ≡ s.front = ap (take (length s.front)) (sym s.are) ∙ take_at s.front s.suffix (length s.front) refl in
    (length s.front, omega (arith, ap length s.are, length-append s.front s.suffix), e ∙ suffix_place b n s ∙ ap (λ m. length (spelled m)) (sym t))

-- a name has one front of so many octets
one_front : (a r f s : Name) → a ++ r ≡ f ++ s → length (spelled a) ≡ length (spelled f) → r ≡ s
one_front [] r [] s e h = e
one_front [] r (l ∷ f) s e h = absurd (omega (arith, h))
one_front (k ∷ a) r [] s e h = absurd (omega (arith, h))
one_front (k ∷ a) r (l ∷ f) s e h =
    let x : k ≡ l = cc in
    let y : a ++ r ≡ f ++ s = cc in
    one_front a r f s y (omega (arith, h, ap length x, length-append k (spelled a), length-append l (spelled f)))

pub stripped : (b n : Name) (place : ℕ) (front rest : Name) → Strips b n → place ≡ length (spelled n) - length (spelled b) → front ++ rest ≡ n → length (spelled front) ≡ place → same b rest ≡ true
stripped b n place front rest s e are len =
    let r : rest ≡ s.suffix = one_front front rest s.front s.suffix (are ∙ sym s.are) (len ∙ e ∙ suffix_place b n s) in
    ap (same b) r ∙ s.ends

-- the same with the root's octet
pub rooted_place : (b n : Name) → length (wire n) - length (spelled (b ++ [] ∷ [])) ≡ length (spelled n) - length (spelled b)
rooted_place b n =
    omega (arith, length-append (spelled n) (0 ∷ []), ap length (wire-spelled b), length-append (spelled b) (0 ∷ []))

pub rooted_within : (b n : Name) → Strips b n → length (spelled (b ++ [] ∷ [])) ≤ length (wire n)
rooted_within b n s =
    omega (arith, suffix_within b n s, length-append (spelled n) (0 ∷ []), ap length (wire-spelled b), length-append (spelled b) (0 ∷ []))

pub or_not : (t : Bool) → (t ≡ true → ⊥) → t ≡ false
or_not true h = absurd (h refl)
or_not false h = refl
