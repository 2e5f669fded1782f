use Rattle.std.proofs.Output.{has_written_of_eq}
use Rattle.numbers.proofs.Digits.{first_five}
use Rattle.numbers.proofs.base32hex.digits.BlockDisplay.fmt.Goals as goal

pub returns-in-len5-up-clause-writes : goal.returns-in-len5-up-clause-writes
returns-in-len5-up-clause-writes g c = λ p k.
    has_written_of_eq g.W.Write.write_str_gives _ _ _ _ (first_five c.args.self.now.0.now c.in-len5-up.len_at_least) (c.write-in-len5-up.ensures.writes p k)
