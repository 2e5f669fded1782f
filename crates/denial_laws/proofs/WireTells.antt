-- Octets that spell a name in wire form spell no other name.
use Rattle.std.proofs.Common.{◌≡◌, ℕ, List, [], ◌∷◌, ◌++◌, length, get_or, drop, refl, sym, ap, ◌∙◌, append_assoc, arith}
use Rattle.std.specs.List.{flat_map}
use Rattle.std.proofs.lemmas.List.{length-append}
use Rattle.definitions.specs.Name.{Name, wire}
use Rattle.definitions.proofs.SignedLaws.{pieces}

abbrev octets : Name → List ℕ
octets n = flat_map (λ l. length l ∷ l) n

-- the octets of a name with a label are more than one
longer : (x y : List ℕ) (k : ℕ) → 0 ∷ [] ≡ k ∷ ((x ++ y) ++ 0 ∷ []) → ⊥
longer x y k e =
    let n : 1 ≡ length (k ∷ ((x ++ y) ++ 0 ∷ [])) = ap length e in
    omega (arith, length-append (x ++ y) (0 ∷ []))

split : (a b : ℕ) (x y : List ℕ) → a ∷ x ≡ b ∷ y → (a ≡ b) × (x ≡ y)
split a b x y e = (ap (λ l. get_or l 0 0) e, ap (drop 1) e)

pub wire_tells : (a b : Name) → wire a ≡ wire b → a ≡ b
wire_tells [] [] e = refl
wire_tells [] (k ∷ m) e = absurd (longer k (octets m) (length k) e)
wire_tells (l ∷ n) [] e = absurd (longer l (octets n) (length l) (sym e))
wire_tells (l ∷ n) (k ∷ m) e =
    let head : (length l ≡ length k) × ((l ++ octets n) ++ 0 ∷ [] ≡ (k ++ octets m) ++ 0 ∷ []) =
    split (length l) (length k) ((l ++ octets n) ++ 0 ∷ []) ((k ++ octets m) ++ 0 ∷ []) e in
    let label : (l ≡ k) × (wire n ≡ wire m) =
    pieces l k (wire n) (wire m) head.0 (sym (append_assoc l (octets n) (0 ∷ [])) ∙ head.1 ∙ append_assoc k (octets m) (0 ∷ [])) in
    let rest : n ≡ m = wire_tells n m label.1 in
    (λ i. label.0 i ∷ rest i)
