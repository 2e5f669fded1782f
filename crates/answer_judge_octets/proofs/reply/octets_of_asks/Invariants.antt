use Rattle.std.proofs.Common.{◌≡◌, map, take}
use Rattle.std.specs.List.{AllByRecursion}
use Rattle.answer_findings.specs.Asking.{unchecked}
use Rattle.answer_judge_octets.specs.Replying.{entries_of}
use Rattle.answer_judge_octets.specs.Written.{FitsChecked}
use Rattle.answer_judge_octets.proofs.reply.octets_of_asks.Given as goal

abbrev pub invariant-loop-ask : goal.invariant-loop-ask
invariant-loop-ask l =
    (l.octets.items ≡ entries_of (take l.ask-index l.asks)) × AllByRecursion FitsChecked (map unchecked (take l.ask-index l.asks))
