use Rattle.std.proofs.Common.{rules}
use Rattle.resolution_octets.proofs.SentSplit.{number_in_front}
use Rattle.resolution_octets.proofs.sent.split_number.Goals as goal

pub returns : goal.returns
returns c =
    number_in_front c.args.octets.now c.in_ok-number.number.now c.in_ok-number.behind.now c.from_be_bytes.result (λ i. (c.type_inv.octets i).fits)
    (search rules) (search rules) (search rules)
