use Rattle.answer_judge_table.specs.Table.{tried}
use Rattle.answer_judge_table.proofs.AsksGrow.{agrees_kept}
use Rattle.answer_judge_table.proofs.table_checks.TableChecksChecks.verify.Goals as goal

pub returns-in-Ok-clause-agrees : goal.returns-in-Ok-clause-agrees
returns-in-Ok-clause-agrees g c =
    let self = c.args.self.now in
    agrees_kept g.T.GhostTable.table self.asks.items c.note.new.asks.items self.kept (tried c.args.key.now c.args.octets.now c.args.signature.now) c.in-Ok.ensures.passes
