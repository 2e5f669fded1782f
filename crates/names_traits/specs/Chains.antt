-- Names that stand one behind the other.
use Rattle.std.proofs.Common.{◌≡◌, ◌⊎◌, inl, inr, List, [], ◌∷◌, ◌++◌, refl, sym, ap, ◌∙◌, append_assoc}
use Rattle.definitions.specs.Name.{Name}

-- the labels of the name in front, and the one behind it
pub record Chained (R : Type 0) : Type 0 where
  pub left : Name
  pub right : R

-- an absolute name's labels end with the root's
pub absolute_end : (n : Name) → (n ++ [] ∷ [] ≡ n) ⊎ (n ++ [] ∷ [] ≡ n ++ [] ∷ [])
absolute_end n = inr refl

-- a relative name's labels do not end with the root's
pub relative_end : (n : Name) → (n ≡ n) ⊎ (n ≡ n ++ [] ∷ [])
relative_end n = inl refl

-- a chain ends as the name behind does
pub chain_end : (left labels name : Name) → (labels ≡ name) ⊎ (labels ≡ name ++ [] ∷ []) → (left ++ labels ≡ left ++ name) ⊎ (left ++ labels ≡ (left ++ name) ++ [] ∷ [])
chain_end left labels name (inl h) = inl (ap (λ n. left ++ n) h)
chain_end left labels name (inr h) = inr (ap (λ n. left ++ n) h ∙ sym (append_assoc left name ([] ∷ [])))

pub chain_rooted : (left labels name : Name) → labels ≡ name ++ [] ∷ [] → left ++ labels ≡ (left ++ name) ++ [] ∷ []
chain_rooted left labels name h = ap (λ n. left ++ n) h ∙ sym (append_assoc left name ([] ∷ []))

pub chain_unrooted : (left labels name : Name) → labels ≡ name → left ++ labels ≡ left ++ name
chain_unrooted left labels name h = ap (λ n. left ++ n) h
