use Rattle.names_builder.proofs.TextWalks.{reads_plain}
use Rattle.names_builder.proofs.walk.octet_at.Goals as goal

pub returns-clause-symbol : goal.returns-clause-symbol
returns-clause-symbol c = reads_plain c.args.first c.args.behind.now c.args.in_label c.requires c.if-first-eq92.false c.if-first-lt32.false c.if-first-gt126.false
