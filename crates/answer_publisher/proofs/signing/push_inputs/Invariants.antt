use Rattle.std.proofs.Common.{◌≡◌, ◌++◌, drop}
use Rattle.answer_publisher.specs.Inputs.{all_inputs}
use Rattle.answer_publisher.proofs.signing.push_inputs.Given as goal

abbrev pub invariant-loop-group : goal.invariant-loop-group
invariant-loop-group g l =
    let t = l.terms in
    l.inputs.items ++ all_inputs t.apex.now t.at t.life l.keys (drop l.group-index l.groups) ≡ l.fn.inputs.items ++ all_inputs t.apex.now t.at t.life l.keys l.groups
