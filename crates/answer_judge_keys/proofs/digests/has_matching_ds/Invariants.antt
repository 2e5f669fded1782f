use Rattle.std.proofs.Common.{◌≡◌, drop}
use Rattle.std.specs.List.{All, list_any}
use Rattle.answer_judge_keys.specs.Digests.{IsMade}
use Rattle.answer_judge_keys.specs.Trusted.{matches_key}
use Rattle.answer_judge_keys.proofs.digests.has_matching_ds.Given as goal

abbrev pub invariant-loop-record : goal.invariant-loop-record
invariant-loop-record g l =
    let a = g.C.Checks.answers l.fn.check_run.checks.now in
    let names = matches_key a l.apex l.key in
    (list_any names (drop l.record-index l.ds) ≡ list_any names l.ds)
    × (l.check_run ≡ record l.fn.check_run { octets = l.check_run.octets })
    × All (IsMade a l.apex l.key) l.made.items
