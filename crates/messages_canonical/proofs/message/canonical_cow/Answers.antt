use Rattle.std.proofs.Common.{subst}
use Rattle.messages_canonical.specs.Walking.{TellsForm}
use Rattle.messages_canonical.proofs.Seen.{as_received}
use Rattle.messages_canonical.proofs.message.canonical_cow.Goals as goal

pub returns-then-branch-clause-ok : goal.returns-then-branch-clause-ok
returns-then-branch-clause-ok c = as_received c.args.bytes.now (subst (TellsForm c.args.bytes.now) c.if-branch.true c.in_ok-is_in_form.ensures)
