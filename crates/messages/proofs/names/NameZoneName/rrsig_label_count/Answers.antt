use Rattle.std.proofs.Common.{arith}
use Rattle.messages.proofs.NameLaws.{few_labels}
use Rattle.messages.proofs.names.NameZoneName.rrsig_label_count.Goals as goal

pub overflow_cast-count : goal.overflow_cast-count
overflow_cast-count g c = omega (arith, few_labels c.args.self.now c.keeps.ensures, c.depth-count.ensures)
