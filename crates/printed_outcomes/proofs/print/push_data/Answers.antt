use Rattle.std.proofs.Common.{arith}
use Rattle.std.proofs.lemmas.Grind.{common_steps}
use Rattle.printed_outcomes.specs.Printed.{octets_text}
use Rattle.printed_outcomes.proofs.PrintLemmas.{list_text-map}
use Rattle.printed_outcomes.proofs.print.push_data.Goals as goal

pub returns : goal.returns
returns c = rw (← c.as_slice.ensures, list_text-map octets_text (λ v. v.items) c.as_slice.result.now) (grind (arith, common_steps))
