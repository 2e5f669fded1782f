use Rattle.std.proofs.Common.{◌≡◌, ◌∙◌, sym, ap, true, false, Err, arith}
use Rattle.names_wire.specs.Label.{octets_of}
use Rattle.names_parsed.proofs.Steps.{inside_step, root_step, label_step, pointer_step, only_pointers, steps_from}
use Rattle.names_wire.proofs.Along.{behind_short}
use Rattle.names_parsed.proofs.walk.label_from.Goals as goal

pub label_at-requires : goal.label_at-requires
label_at-requires c = let here = inside_step c.args.message.now c.loop-label.place c.loop-label.invariant.stands in omega (arith, here)

pub returns-in-Ok : goal.returns-in-Ok
returns-in-Ok c =
    let m = c.args.message.now in
    let p = c.loop-label.place in
    steps_from m p c.args.start (octets_of c.in-Ok.label) p c.loop-label.invariant.labels c.loop-label.invariant.row
    (root_step m p (octets_of c.in-Ok.label) _ c.loop-label.invariant.stands c.in-Ok.ensures (c.is_root.ensures.0 c.if-is_root.true))

pub returns-in-Ok-2 : goal.returns-in-Ok-2
returns-in-Ok-2 c =
    let m = c.args.message.now in
    let p = c.loop-label.place in
    steps_from m p c.args.start (octets_of c.in-Ok.label) _ c.loop-label.invariant.labels c.loop-label.invariant.row
    (label_step m p (octets_of c.in-Ok.label) _ c.loop-label.invariant.stands c.in-Ok.ensures (λ e. let x : true ≡ false = sym (c.is_root.ensures.1 e) ∙ c.if-is_root.false in cc))

pub overflow_sub-result : goal.overflow_sub-result
overflow_sub-result c =
    let here = inside_step c.args.message.now c.loop-label.place c.loop-label.invariant.stands in
    behind_short c.args.message.now c.loop-label.place (octets_of c.in-Ok.label) _ (omega (arith, here)) c.in-Ok.ensures

pub target-place-requires : goal.target-place-requires
target-place-requires c = only_pointers c.args.message.now c.loop-label.place c.in-Err.pointer c.loop-label.invariant.stands c.in-Err.ensures

pub loop-label-smaller : goal.loop-label-smaller
loop-label-smaller c =
    (pointer_step c.args.message.now c.loop-label.place c.target-place.result c.loop-label.invariant.stands (c.in-Err.ensures ∙ ap Err c.target-place.ensures)).before

pub loop-label-preserved : goal.loop-label-preserved
loop-label-preserved c =
    let f = pointer_step c.args.message.now c.loop-label.place c.target-place.result c.loop-label.invariant.stands (c.in-Err.ensures ∙ ap Err c.target-place.ensures) in
    record {
      stands = f.stands;
      labels = f.labels ∙ c.loop-label.invariant.labels;
      row = λ e r. f.row e (c.loop-label.invariant.row e r);
    }
