use Rattle.std.proofs.Common.{arith}
use Rattle.std.specs.Option.{option_map}
use Rattle.definitions.specs.Reference.{verdict_of}
use Rattle.denial_laws.proofs.Truly.{truly, ok_more}
use Rattle.denial_laws.proofs.reference.decided.Goals as goal

pub returns-clause-truly : goal.returns-clause-truly
returns-clause-truly g c =
    ok_more _ _ c.by_rules.result (λ v e. truly _ _ _ _ _ (omega arith) (option_map verdict_of v) e) c.by_rules.ensures
