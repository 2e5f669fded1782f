use Rattle.names_flat.proofs.Interval.{apex_first, interval}
use Rattle.names_flat.proofs.laws.names_below_an_apex_are_an_interval.Goals as goal

pub returns-clause-first : goal.returns-clause-first
returns-clause-first c = apex_first

pub returns-clause-between : goal.returns-clause-between
returns-clause-between c = interval
