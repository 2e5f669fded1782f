use Rattle.std.proofs.lemmas.Result.{err_from_is_err_and}
use Rattle.names_parsed.specs.Passing.{NothingToSkip}
use Rattle.names_parsed.proofs.PassSteps.{nothing_at, past_the_end, refused_or, stops_at, ends_past}
use Rattle.names_parsed.proofs.parsed.ParsedName.skip.Goals as goal

pub returns-in_err-behind-clause-refused : goal.returns-in_err-behind-clause-refused
returns-in_err-behind-clause-refused c =
    let p = err_from_is_err_and c.from_residual.result c.from_residual.ensures.1 in
    rw p.1 (nothing_at c.args.parser.now c.as_slice.result.now c.pos.result c.as_slice.ensures.octets c.pos.ensures c.in_err-behind.ensures.ends)

pub returns-clause-refused : goal.returns-clause-refused
returns-clause-refused c =
    refused_or c.seek.result (NothingToSkip c.args.parser.now)
    (λ far. past_the_end c.args.parser.now c.as_slice.result.now c.pos.result c.in_ok-behind.behind c.as_slice.ensures.octets c.pos.ensures c.in_ok-behind.ensures.ends (λ h. far (c.seek.ensures.inside.1 h)))

pub returns-in_err-behind-clause-fault : goal.returns-in_err-behind-clause-fault
returns-in_err-behind-clause-fault c =
    let p = err_from_is_err_and c.from_residual.result c.from_residual.ensures.1 in
    rw (p.1, p.2) (stops_at c.args.parser.now c.as_slice.result.now c.pos.result c.in_err-behind.field-0.0 c.as_slice.ensures.octets c.pos.ensures c.in_err-behind.ensures.fault)

pub returns-clause-fault : goal.returns-clause-fault
returns-clause-fault c =
    ends_past c.args.parser.now c.as_slice.result.now c.pos.result c.in_ok-behind.behind c.seek.result c.as_slice.ensures.octets c.pos.ensures c.in_ok-behind.ensures.ends c.seek.ensures.inside.1 c.seek.ensures.fault
