use Rattle.std.proofs.Common.{◌++◌}
use Rattle.answer_publisher.specs.Inputs.{inputs_by}
use Rattle.answer_publisher.proofs.InputsMade.{inputs_next}
use Rattle.answer_publisher.proofs.signing.push_inputs_of_keys.Goals as goal

pub loop-key-preserved : goal.loop-key-preserved
loop-key-preserved g c =
    let t = c.args.terms.now in
    let group = c.args.group.now in
    let keys = c.args.keys.now in
    inputs_next t.apex.now t.at t.life group keys c.loop-key.key-index c.key-item.result c.in_ok-input_for.field-0 c.loop-key.inputs.items c.push.new.self.items
    (c.args.inputs.now.items ++ inputs_by t.apex.now t.at t.life group keys) c.loop-key-test.true c.key-item.is c.in_ok-input_for.ensures c.loop-key.invariant c.in_ok-push.ensures.items
