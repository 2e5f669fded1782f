-- The octets of names as they are written.
use Rattle.std.proofs.Common.{◌≡◌, [], ◌∷◌, ◌++◌, List, ℕ, map, sym, ap, ◌∙◌}
use Rattle.std.specs.Str.{str_to_ascii_lowercase}
use Rattle.definitions.specs.Name.{Name, wire, low}
use Rattle.names_labels.specs.Flat.{spelled, labels_in, IsRunOf}
use Rattle.names_labels.specs.Order.{in_case}
use Rattle.names_labels.specs.declared.order.Case.TheVariants.{Kept, Lowered}
use Rattle.names_labels.proofs.Lowered.{lower-spelled}
use Rattle.names_labels.proofs.Runs.{wire-spelled}
use Rattle.names_labels.proofs.Composed.{spelled-kept, spelled-lowered}

-- labels in a row, the root's last, are the wire form
pub row_is_wire : (row : List ℕ) (labels n : Name) → IsRunOf row labels → labels ≡ n ++ [] ∷ [] → row ≡ wire n
row_is_wire row labels n r e = r.run.whole ∙ ap spelled (r.labels ∙ e) ∙ sym (wire-spelled n)

pub kept_is_wire : (labels n : Name) → labels ≡ n ++ [] ∷ [] → spelled (map (in_case Kept) labels) ≡ wire n
kept_is_wire labels n e = ap (λ l. spelled (map (in_case Kept) l)) e ∙ spelled-kept n

pub lowered_is_wire : (labels n : Name) → labels ≡ n ++ [] ∷ [] → spelled (map (in_case Lowered) labels) ≡ wire (low n)
lowered_is_wire labels n e = ap (λ l. spelled (map (in_case Lowered) l)) e ∙ spelled-lowered n

-- and lowered the wire form of the lowered name
pub row_lowered : (row : List ℕ) (labels n : Name) → IsRunOf row labels → labels ≡ n ++ [] ∷ [] → str_to_ascii_lowercase row ≡ wire (low n)
row_lowered row labels n r e =
    ap str_to_ascii_lowercase r.run.whole ∙ lower-spelled (labels_in row) r.run.short ∙ ap (λ l. spelled (low l)) (r.labels ∙ e) ∙ spelled-lowered n
