-- Names that are read have no empty label.
use Rattle.std.proofs.Common.{◌≡◌, ℕ, ◌+◌, ◌≤◌, List, [], ◌∷◌, length, ap, ◌∙◌, arith}
use Rattle.std.specs.List.{AllByRecursion}
use Rattle.std.specs.Prelude.{slice_range}
use Rattle.definitions.specs.Name.{Name, IsLabel}
use Rattle.definitions.specs.Reading.{Reads, root, label, pointer}
use Rattle.definitions.proofs.ReadingLaws.{length-range}
use Rattle.definitions.proofs.SignedLaws.{Labelled}

pub reads_labelled : {m : List ℕ} {p k b : ℕ} {ls : Name} → Reads m p k ls b → Labelled ls
reads_labelled (root h e) = tt
reads_labelled {m} {p} (label {n = n} {e = e} {l = l} h a b c d f r) =
    let inside : p + 1 + n ≤ length m = omega (arith, c, d) in
    let len : length l ≡ n = ap length f ∙ ap (λ x. length (slice_range m (p + 1) x)) c ∙ length-range m (p + 1) n inside in
    (omega (arith, len, a), reads_labelled r)
reads_labelled (pointer h a b c d e r) = reads_labelled r

-- nor have names of any origin
pub labelled : (n : Name) → AllByRecursion IsLabel n → Labelled n
labelled [] h = tt
labelled (l ∷ n) h = (h.0.some, labelled n h.1)
