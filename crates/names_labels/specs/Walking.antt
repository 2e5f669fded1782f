-- Going from label to label.
use Rattle.std.specs.Prelude.{ℕ, drop}
use Rattle.names_wire.specs.Name.{Name}
use Rattle.names_labels.specs.Flat.{IsRunOf}
use Rattle.names_labels.specs.declared.traits.Spot.{Spot}
use Rattle.names_labels.specs.declared.traits.Spot.TheVariants.{Row, Place}

-- where the label at an index and those behind it stand: in a row, or where the name says
abbrev pub StandsAt : Name → ℕ → (ℕ → ℕ → Type 0) → Spot → Type 0
StandsAt labels index reaches (Row run) = IsRunOf run.now (drop index labels)
StandsAt labels index reaches (Place place) = reaches place index
