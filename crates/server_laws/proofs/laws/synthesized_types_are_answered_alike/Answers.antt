use Rattle.server_laws.proofs.Nowhere.{absent_alike, synthesized_alike, synthesized_alike_with_aliases}
use Rattle.server_laws.proofs.laws.synthesized_types_are_answered_alike.Goals as goal

pub returns : goal.returns
returns c = record { absent = absent_alike; synthesized = synthesized_alike; aliases = synthesized_alike_with_aliases }
