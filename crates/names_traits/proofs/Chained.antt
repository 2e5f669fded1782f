-- Names that stand one behind the other are a name.
use Rattle.std.proofs.Common.{◌≡◌, ℕ, ◌+◌, ◌≤◌, List, [], ◌∷◌, ◌++◌, length, ap, ◌∙◌, arith, length-append}
use Rattle.std.specs.List.{AllByRecursion}
use Rattle.definitions.specs.Name.{Name, IsLabel, IsName, wire_len}
use Rattle.names_labels.specs.Flat.{spelled}
use Rattle.names_labels.proofs.Checks.{length-spelled_sum}
use Rattle.names_labels.proofs.Runs.{spelled-append}

all_joined : (a b : Name) → AllByRecursion IsLabel a → AllByRecursion IsLabel b → AllByRecursion IsLabel (a ++ b)
all_joined [] b h g = g
all_joined (l ∷ a) b h g = (h.0, all_joined a b h.1 g)

pub joined : (a b : Name) → IsName a → IsName b → length (spelled a) + length (spelled b) ≤ 254 → IsName (a ++ b)
joined a b h g short = record {
  labels = all_joined a b h.labels g.labels;
  short = omega (arith, length-spelled_sum (a ++ b), ap length (spelled-append a b), length-append (spelled a) (spelled b), short);
}

pub under_root : (a r n : Name) → IsName n → a ≡ n → r ≡ [] → length (spelled a) + length (spelled r) ≤ 254
under_root a r n h e z = omega (arith, h.short, length-spelled_sum n, ap (λ x. length (spelled x)) e, ap (λ x. length (spelled x)) z)
