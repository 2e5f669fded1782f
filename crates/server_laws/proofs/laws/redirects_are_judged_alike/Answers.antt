use Rattle.server_laws.proofs.Redirected.{redirects_judged, redirects_made}
use Rattle.server_laws.proofs.laws.redirects_are_judged_alike.Goals as goal

pub returns-clause-made : goal.returns-clause-made
returns-clause-made c = redirects_made

pub returns-clause-judged : goal.returns-clause-judged
returns-clause-judged c = redirects_judged
