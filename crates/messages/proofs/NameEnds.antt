-- Whether a name stands strictly above another, by how many labels they have.
use Rattle.std.proofs.Common.{[], ◌≡◌, ◌<◌, ◌≤◌, false, ◌||◌, ◌∷◌, length, refl, sym, ap, arith}
use Rattle.definitions.specs.Name.{Name, at_or_above, strictly_above}
use Rattle.names_labels.proofs.Compares.{other_length, ends_short}

pub strictly-ends : (base n : Name) → length base < length n → strictly_above base n ≡ at_or_above base n
strictly-ends base [] h = absurd (omega arith)
strictly-ends base (x ∷ n) h = sym (ap (λ t. t || at_or_above base n) (other_length base (x ∷ n) (λ e. omega (arith, e, h))))

pub strictly_short : (base n : Name) → length n ≤ length base → strictly_above base n ≡ false
strictly_short base [] h = refl
strictly_short base (x ∷ n) h = sym (ends_short base n (omega arith))
