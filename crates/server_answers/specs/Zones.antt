-- The zone that a server answers for.
use Rattle.std.specs.Prelude.{◌≡◌, List}
use Rattle.std.specs.List.{AllByRecursion}
use Rattle.definitions.specs.Name.{IsName}
use Rattle.messages.specs.Handed.{IsHanded}
use Rattle.messages.specs.HandedRr.{HandedRr}
use Rattle.answer_terms.specs.Accepting.{sorted_records}
use Rattle.answer_terms.specs.Hashing.{Hasher}
use Rattle.answer_terms.specs.ZoneView.{AcceptedZone}
use Rattle.answer_zone.specs.AliasFaults.{IsAcceptedWithAliases}
use Rattle.answer_publisher.specs.World.{World}

-- one of records that were handed in and accepted, aliases among them or not
pub record IsAcceptedZone (hash : Hasher) (z : AcceptedZone) : Type 0 where
  pub records : List HandedRr
  pub apex_is : IsName z.apex
  pub records_are : AllByRecursion IsHanded records
  pub accepted : IsAcceptedWithAliases hash z.apex z.mode z.limit records
  pub sorted : z.records ≡ sorted_records records

-- that of a world
abbrev pub IsZone : World → Type 0
IsZone w = IsAcceptedZone w.answers.hash w.zone
