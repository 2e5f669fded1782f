use Rattle.std.proofs.Common.{sym, ◌∙◌}
use Rattle.definitions.proofs.PlainNames.{above_same}
use Rattle.definitions.proofs.reference.names.at_or_above.Goals as goal

pub returns-then-same : goal.returns-then-same
returns-then-same c = c.if-same.true ∙ sym (above_same c.args.name.now c.args.other.now (sym c.same.ensures ∙ c.if-same.true))
