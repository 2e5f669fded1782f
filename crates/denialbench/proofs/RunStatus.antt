-- A run that answers refuses exactly an input with a line that can't be read.
use Rattle.std.proofs.Common.{◌≡◌, ℕ, List, Some, None, refl, subst}
use Rattle.std.specs.Prelude.{◌↔◌, Option, IfSome}
use Rattle.denialbench.specs.Responses.{IsUnreadable, Responds}
use Rattle.denialbench.specs.declared.status.Status.{Status}
use Rattle.denialbench.specs.declared.status.Status.TheVariants.{Done, BadLine, Fault}

told : (input : List ℕ) (status : Status) (text : List ℕ) → Responds input status text → (status ≡ BadLine) ↔ IsUnreadable input
told input Done text h = (λ e. absurd (cc), λ u. let a = h.1 in let b = u.1 in absurd (cc))
told input BadLine text h = (λ e. (h.0, h.1), λ u. refl)
told input Fault text h = absurd h

pub told_of : (known : Option (List ℕ)) (input : List ℕ) (status : Status) (text : List ℕ) → IfSome known (λ xs. input ≡ xs) → Responds input status text → IfSome known (λ xs. (status ≡ BadLine) ↔ IsUnreadable xs)
told_of None input status text is h = tt
told_of (Some xs) input status text is h = subst (λ (v : List ℕ). (status ≡ BadLine) ↔ IsUnreadable v) is (told input status text h)
