use Rattle.server_laws.proofs.Aliasing.{aliased_clients_shown}
use Rattle.server_laws.proofs.Heard.{clients_shown, clients_told}
use Rattle.server_laws.proofs.laws.clients_are_told_the_verdict.Goals as goal

pub returns : goal.returns
returns c = record { told = clients_told; shown = clients_shown; aliased = aliased_clients_shown }
