-- The octets of a name, from its labels with the root's behind them.
use Rattle.std.proofs.Common.{◌≡◌, [], ◌∷◌, ◌++◌, map, sym, ap, ◌∙◌}
use Rattle.std.specs.Str.{str_to_ascii_lowercase}
use Rattle.std.proofs.lemmas.List.{map-append, map-id}
use Rattle.names_wire.specs.Name.{Name, wire, low}
use Rattle.names_labels.specs.Flat.{spelled}
use Rattle.names_labels.specs.Order.{in_case}
use Rattle.names_labels.specs.declared.order.Case.TheVariants.{Kept, Lowered}
use Rattle.names_labels.proofs.Runs.{wire-spelled}

pub spelled-kept : (n : Name) → spelled (map (in_case Kept) (n ++ [] ∷ [])) ≡ wire n
spelled-kept n = ap spelled (map-id (n ++ [] ∷ [])) ∙ sym (wire-spelled n)

pub spelled-lowered : (n : Name) → spelled (map (in_case Lowered) (n ++ [] ∷ [])) ≡ wire (low n)
spelled-lowered n = ap spelled (map-append str_to_ascii_lowercase n ([] ∷ [])) ∙ sym (wire-spelled (low n))
