use Rattle.std.proofs.Common.{◌≡◌, ◌++◌, drop}
use Rattle.answer_publisher.specs.Inputs.{inputs_by}
use Rattle.answer_publisher.proofs.signing.push_inputs_of_keys.Given as goal

abbrev pub invariant-loop-key : goal.invariant-loop-key
invariant-loop-key g l =
    let t = l.terms in
    l.inputs.items ++ inputs_by t.apex.now t.at t.life l.group (drop l.key-index l.keys) ≡ l.fn.inputs.items ++ inputs_by t.apex.now t.at t.life l.group l.keys
