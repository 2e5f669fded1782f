-- Types as text, one after another.
use Rattle.std.proofs.Common.{◌≡◌, ℕ, ◌<◌, List, [], ◌∷◌, ◌++◌, length, refl, sym, ap, ◌∙◌, arith, append_assoc}
use Rattle.numbers.specs.Types.{type_text}
use Rattle.denial_bitmap.specs.Texts.{types_text}

pub text-push : (ts : List ℕ) (t : ℕ) → 0 < length ts → types_text (ts ++ t ∷ []) ≡ types_text ts ++ 32 ∷ type_text t
text-push [] t h = absurd (omega (arith, h))
text-push (a ∷ []) t h = refl
text-push (a ∷ b ∷ ts) t h = ap (λ xs. type_text a ++ 32 ∷ xs) (text-push (b ∷ ts) t (omega arith)) ∙ sym (append_assoc (type_text a) (32 ∷ types_text (b ∷ ts)) (32 ∷ type_text t))

-- one more is done of what was left
pub moved : (done left rest all : List ℕ) (t : ℕ) → done ++ left ≡ all → left ≡ t ∷ rest → (done ++ t ∷ []) ++ rest ≡ all
moved done left rest all t h e = append_assoc done (t ∷ []) rest ∙ ap (λ xs. done ++ xs) (sym e) ∙ h
