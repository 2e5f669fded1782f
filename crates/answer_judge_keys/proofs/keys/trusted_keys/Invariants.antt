use Rattle.std.proofs.Common.{◌≡◌, ◌++◌, drop}
use Rattle.std.specs.List.{filter}
use Rattle.answer_judge_keys.specs.Trusted.{is_trusted}
use Rattle.answer_judge_keys.proofs.keys.trusted_keys.Given as goal

abbrev pub invariant-loop-key : goal.invariant-loop-key
invariant-loop-key g l =
    let trusts = is_trusted (g.C.Checks.answers l.fn.check_run.checks.now) l.apex l.ds in
    (l.trusted.items ++ filter trusts (drop l.key-index l.keys) ≡ filter trusts l.keys)
    × (l.check_run ≡ record l.fn.check_run { octets = l.check_run.octets })
