-- Lists in octets are read once.
use Rattle.std.proofs.Common.{◌≡◌, ℕ, ◌<◌, List, [], ◌∷◌, ◌++◌, length, refl, sym, ap, ◌∙◌, append_assoc, length-append, arith}
use Rattle.std.specs.Prelude.{None}
use Rattle.std.specs.List.{AllByRecursion, flat_map}
use Rattle.answer_judge_octets.specs.Written.{Splits}

module _ {A : Type 0} (Fits : A → Type 0) (written : A → List ℕ)
    (once : (a b : A) (x y : List ℕ) → Fits a → Fits b → written a ++ x ≡ written b ++ y → (a ≡ b) × (x ≡ y))
    (some : (a : A) → 0 < length (written a)) where
  abbrev list : List A → List ℕ
  list items = flat_map written items

  -- nothing of the kind stands in front
  abbrev Unread : List ℕ → Type 0
  Unread rest = Splits Fits written rest None

  none_left : (rest : List ℕ) (others : List A) → 0 < length rest → Unread rest → AllByRecursion Fits others → rest ≡ list others → ⊥
  none_left rest [] long unread fit e = let none : length rest ≡ 0 = ap length e in omega arith
  none_left rest (b ∷ others) long unread fit e = unread b (list others) fit.0 e

  pub not_spelled : (items others : List A) (rest : List ℕ) → 0 < length rest → Unread rest → AllByRecursion Fits items → AllByRecursion Fits others
      → list items ++ rest ≡ list others → ⊥
  not_spelled [] others rest long unread fit fits e = none_left rest others long unread fits e
  not_spelled (a ∷ items) [] rest long unread fit fits e =
      let none : length (written a ++ list items ++ rest) ≡ 0 = ap length e in
      omega (arith, some a, length-append (written a ++ list items) rest, length-append (written a) (list items))
  not_spelled (a ∷ items) (b ∷ others) rest long unread fit fits e =
      let p = once a b (list items ++ rest) (list others) fit.0 fits.0 (sym (append_assoc (written a) (list items) rest) ∙ e) in
      not_spelled items others rest long unread fit.1 fits.1 p.1

  -- two lists that octets spell are one
  pub spelled_once : (items others : List A) → AllByRecursion Fits items → AllByRecursion Fits others → list items ≡ list others → items ≡ others
  spelled_once [] [] fit fits e = refl
  spelled_once [] (b ∷ others) fit fits e =
      let none : 0 ≡ length (written b ++ list others) = ap length e in
      absurd (let h : 0 < 0 = omega (arith, some b, length-append (written b) (list others)) in omega arith)
  spelled_once (a ∷ items) [] fit fits e =
      let none : length (written a ++ list items) ≡ 0 = ap length e in
      absurd (let h : 0 < 0 = omega (arith, some a, length-append (written a) (list items)) in omega arith)
  spelled_once (a ∷ items) (b ∷ others) fit fits e =
      let p = once a b (list items) (list others) fit.0 fits.0 e in
      ap (λ (x : A). x ∷ items) p.0 ∙ ap (λ (xs : List A). b ∷ xs) (spelled_once items others fit.1 fits.1 p.1)
