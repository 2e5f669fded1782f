use Rattle.std.proofs.Common.{rules}
use Rattle.std.proofs.lemmas.Fn.{filter_same}
use Rattle.server_signatures.specs.Table.{is_missing}
use Rattle.server_signatures.proofs.missing.missing.Goals as goal

pub returns : goal.returns
returns c = filter_same _ (is_missing c.args.table.now) _ (λ x b f' t. search rules) _ _ c.retain.ensures.filtered
