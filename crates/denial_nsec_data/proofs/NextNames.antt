-- Names as they are spelled, before other octets.
use Rattle.std.proofs.Common.{[], ◌∷◌}
use Rattle.std.specs.List.{AllByRecursion}
use Rattle.definitions.specs.Name.{Name, IsLabel}
use Rattle.names_rdata.proofs.WireOrder.{HasNoRoot}

-- no label of a name is the root's
pub no_root : (n : Name) → AllByRecursion IsLabel n → HasNoRoot n
no_root [] a = tt
no_root (l ∷ n) a = (a.0.some, no_root n a.1)
