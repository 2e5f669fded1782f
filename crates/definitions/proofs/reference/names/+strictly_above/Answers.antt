use Rattle.std.proofs.Common.{ap, sym, ◌∙◌}
use Rattle.definitions.specs.Name.{strictly_above}
use Rattle.definitions.proofs.PlainNames.{above_same}
use Rattle.definitions.proofs.reference.names.+strictly_above.Goals as goal

pub returns-then-same : goal.returns-then-same
returns-then-same t c =
    c.if-same.true ∙ sym (above_same c.args.name.now c.in-Some.parent.now (sym c.same.ensures ∙ c.if-same.true))
    ∙ ap (strictly_above c.args.name.now) (sym c.in-Some.ensures.cases.0)
