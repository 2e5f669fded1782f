-- What a zone is asked on the way.
use Rattle.std.specs.Prelude.{List}
use Rattle.definitions.specs.Dnskey.{Ds}
use Rattle.definitions.specs.Name.{Name}
use Rattle.messages.specs.Message.{Asked}

-- a zone's name, the DS set that its keys are judged by, and a question
pub record Query : Type 0 where
  pub zone : Name
  pub ds : List Ds
  pub asked : Asked
