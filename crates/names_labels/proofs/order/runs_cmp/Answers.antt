use Rattle.std.proofs.Common.{◌≡◌, ◌∙◌, length, arith}
use Rattle.names_labels.proofs.Tails.{walk_begins, left_walks, right_walks, rest_shorter, walk_ends, walk_decides}
use Rattle.names_labels.proofs.order.runs_cmp.Goals as goal
use Rattle.names_labels.proofs.order.runs_cmp.Goals.{else-loop-left-test, then-loop-left-test+then-left-right+in_default, then-loop-left-test+else-left-right+in_default-split_label}

pub loop-left-init : goal.loop-left-init
loop-left-init c = record {
  walk = walk_begins c.args.run.now c.args.other.now c.walk_to.result.1.now c.walk_to-2.result.1.now c.walk_to.result.0 c.walk_to-2.result.0 c.common_tail-tail.result c.walk_to.ensures c.walk_to-2.ensures;
  left = c.walk_to.ensures.within;
  right = c.walk_to-2.ensures.within;
}

pub loop-left-preserved-then-left-right : goal.loop-left-preserved-then-left-right
loop-left-preserved-then-left-right c =
    let left = c.loop-left.left.now in
    let right = c.loop-left.right.now in
    let w = c.loop-left.invariant in
    record {
      walk = left_walks c.args.run.now c.args.other.now left right c.in-Some.rest.now c.loop-left.label c.loop-left.other_label c.in-Some.first c.common_tail-tail.result c.requires.run w.walk c.in-Some.ensures (λ e h. c.loop-left-test.true e) c.if-left-right.true;
      left = omega (arith, w.left, rest_shorter c.args.run.now left c.in-Some.rest.now c.loop-left.label c.in-Some.first c.requires.run w.walk.walked c.in-Some.ensures);
      right = w.right;
    }

pub loop-left-preserved : goal.loop-left-preserved
loop-left-preserved c =
    let left = c.loop-left.left.now in
    let right = c.loop-left.right.now in
    let w = c.loop-left.invariant in
    let rest = c.in-Some-split_label.rest.now in
    let l = c.in-Some-split_label.first in
    record {
      walk = right_walks c.args.run.now c.args.other.now left right rest c.loop-left.label c.loop-left.other_label l c.common_tail-tail.result c.requires.other w.walk c.in-Some-split_label.ensures c.if-left-right.false;
      left = w.left;
      right = omega (arith, w.right, rest_shorter c.args.other.now right rest c.loop-left.other_label l c.requires.other w.walk.others c.in-Some-split_label.ensures);
    }

pub returns : goal.returns
returns c =
    let run = c.args.run.now in
    let other = c.args.other.now in
    let left = c.loop-left.left.now in
    let right = c.loop-left.right.now in
    let l = c.loop-left.label in
    let k = c.loop-left.other_label in
    let w = c.loop-left.invariant in
    c.cmp.ensures
    ∙ (elim c.loop-left-test.branch [
      | else-loop-left-test b ↦ walk_decides run other left right l k c.common_tail-tail.result c.requires.run c.requires.other c.common_tail-tail.ensures w.walk b.loop-left-test.false w.left
      | then-loop-left-test+then-left-right+in_default b ↦
          let none : length left ≡ 0 = walk_ends run left l c.requires.run w.walk.walked b.in_default.ensures in
          absurd (b.loop-left-test.true (omega (arith, none, b.if-left-right.true)))
      | then-loop-left-test+else-left-right+in_default-split_label b ↦
          let none : length right ≡ 0 = walk_ends other right k c.requires.other w.walk.others b.in_default-split_label.ensures in
          absurd (omega (arith, none, b.if-left-right.false))
    ])
