-- The spelling of a set of types, octet by octet.
use Rattle.std.proofs.Common.{◌≡◌, ℕ, ◌+◌, ◌-◌, ◌<◌, take, Bool, true, false, ◌&&◌, List, [], ◌∷◌, ◌++◌, length, map, refl, sym, ap, subst, ◌∙◌, Result, Vec, Global, add-one, arith, length-append}
use Rattle.std.specs.Prelude.{if◌then◌else◌, ◌==◌, IfOk}
use Rattle.std.specs.declared.alloc.AllocError.{AllocError}
use Rattle.std.specs.List.{flat_map}
use Rattle.std.proofs.lemmas.Bool.{ne_eqb}
use Rattle.std.proofs.lemmas.List.{flat_map_more, map-append, take_at}
use Rattle.definitions.specs.Bitmap.{below, trimmed, window}

-- one number more
pub below-more : (n : ℕ) → below (n + 1) ≡ below n ++ n ∷ []
below-more n = ap below (add-one n)

pub windows-more : (ts : List ℕ) (n : ℕ) (old new : List ℕ) → old ≡ flat_map (window ts) (below n) → new ≡ old ++ window ts n → new ≡ flat_map (window ts) (below (n + 1))
windows-more ts n old new o e =
    e ∙ ap (λ x. x ++ window ts n) o ∙ flat_map_more (window ts) [] (below n) n ∙ ap (flat_map (window ts)) (sym (below-more n))

pub octets-more : (f : ℕ → ℕ) (n : ℕ) (old new : List ℕ) → old ≡ map f (below n) → new ≡ old ++ f n ∷ [] → new ≡ map f (below (n + 1))
octets-more f n old new o e = e ∙ ap (λ x. x ++ f n ∷ []) o ∙ sym (map-append f (below n) (n ∷ [])) ∙ ap (map f) (sym (below-more n))

-- a zero at the end is taken off
pub trimmed-zero : (os : List ℕ) → trimmed (os ++ 0 ∷ []) ≡ trimmed os
trimmed-zero [] = refl
trimmed-zero (b ∷ os) = ap (λ r. if (b == 0) && (length r == 0) then [] else b ∷ r) (trimmed-zero os)

-- where the last is no zero nothing is taken off
last_stays : (b : ℕ) → (b ≡ 0 → ⊥) → trimmed (b ∷ []) ≡ b ∷ []
last_stays b h = ap (λ t. if t && true then [] else b ∷ []) (ne_eqb b 0 h)

stays : (b : ℕ) (r : List ℕ) → 0 < length r → (if (b == 0) && (length r == 0) then [] else b ∷ r) ≡ b ∷ r
stays b r h = ap (λ t. if (b == 0) && t then [] else b ∷ r) (ne_eqb (length r) 0 (λ e. omega (arith, e))) ∙ go (b == 0)
  where
    go : (t : Bool) → (if t && false then [] else b ∷ r) ≡ b ∷ r
    go true = refl
    go false = refl

pub trimmed-last : (os : List ℕ) (b : ℕ) → (b ≡ 0 → ⊥) → trimmed (os ++ b ∷ []) ≡ os ++ b ∷ []
trimmed-last [] b h = last_stays b h
trimmed-last (o ∷ os) b h =
    ap (λ r. if (o == 0) && (length r == 0) then [] else o ∷ r) (trimmed-last os b h)
    ∙ stays o (os ++ b ∷ []) (omega (arith, length-append os (b ∷ [])))

-- octets with a last one
pub ends_zero : (os rest : List ℕ) (b : ℕ) → os ≡ rest ++ b ∷ [] → b ≡ 0 → trimmed (take (length os - 1) os) ≡ trimmed os
ends_zero os rest b e z =
    let len : length os - 1 ≡ length rest = omega (arith, ap length e, length-append rest (b ∷ [])) in
    ap trimmed (ap (λ n. take n os) len ∙ ap (take (length rest)) e ∙ take_at rest (b ∷ []) (length rest) refl)
    ∙ sym (trimmed-zero rest) ∙ ap (λ c. trimmed (rest ++ c ∷ [])) (sym z) ∙ ap trimmed (sym e)

pub ends_other : (os rest : List ℕ) (b : ℕ) → os ≡ rest ++ b ∷ [] → (b ≡ 0 → ⊥) → trimmed os ≡ os
ends_other os rest b e nz = ap trimmed e ∙ trimmed-last rest b nz ∙ sym e

-- octets that were made are as well what is the same
pub spelled_as : (r : Result (Vec ℕ Global) AllocError) (a b : List ℕ) → IfOk r (λ v. v.items ≡ a) → a ≡ b → IfOk r (λ v. v.items ≡ b)
spelled_as r a b h e = let P : List ℕ → Type 0 = λ x. IfOk r (λ v. v.items ≡ x) in subst P e h
