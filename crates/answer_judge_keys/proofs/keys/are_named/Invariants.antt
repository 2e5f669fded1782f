use Rattle.std.proofs.Common.{◌≡◌, ◌++◌, drop, map, MatchOption}
use Rattle.std.specs.Prelude.{⊤}
use Rattle.answer_judge_keys.specs.Trusted.{is_trusted}
use Rattle.answer_judge_keys.proofs.keys.are_named.Given as goal

abbrev pub invariant-loop-key : goal.invariant-loop-key
invariant-loop-key g l =
    let trusts = is_trusted (g.C.Checks.answers l.fn.check_run.checks.now) l.apex l.ds in
    (l.all.items ++ map trusts (drop l.key-index l.keys) ≡ map trusts l.keys)
    × (l.check_run ≡ record l.fn.check_run { octets = l.check_run.octets })
    × MatchOption l.before ⊤ (λ k. l.named ≡ trusts k.now)
