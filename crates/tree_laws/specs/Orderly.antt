-- Trees in order.
use Rattle.std.specs.Prelude.{◌≡◌, true}
use Rattle.std.specs.List.{AllByRecursion}
use Rattle.definitions.specs.Name.{Name, low}
use Rattle.definitions.specs.Zone.{Zone, has, is_delegation, is_live}
use Rattle.denial_laws.specs.Truth.{IsServable}
use Rattle.tree_laws.specs.Tree.{Tree, TreeZone}

-- DS stands at delegations alone, so not at the apex (RFC 4035, 2.4).
abbrev pub HasDsAtCuts : Zone → Type 0
HasDsAtCuts z = (o : Name) → has z o 43 ≡ true → is_live z o ≡ true → is_delegation z o ≡ true

-- A zone of a tree in order: it can be served, and DS stands at its delegations alone. Its name is in lower case, by which it is
-- sought.
pub record IsOrderlyZone (z : TreeZone) : Type 0 where
  pub servable : IsServable z.zone
  pub ds : HasDsAtCuts z.zone
  pub lowered : low z.zone.name ≡ z.zone.name

abbrev pub IsOrderlyTree : Tree → Type 0
IsOrderlyTree tree = AllByRecursion IsOrderlyZone tree
