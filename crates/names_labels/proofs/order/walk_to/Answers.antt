use Rattle.std.proofs.Common.{◌≡◌, ◌≤◌, length, arith}
use Rattle.names_labels.proofs.Tails.{walks_on, walks_before, walk_ends}
use Rattle.names_labels.proofs.order.walk_to.Goals as goal
use Rattle.names_labels.proofs.order.walk_to.Goals.{else-loop-rest-test, then-loop-rest-test+in_default}

pub loop-rest-preserved : goal.loop-rest-preserved
loop-rest-preserved c =
    let run = c.args.run.now in
    let left = c.loop-rest.rest.now in
    let rest = c.in-Some.behind.now in
    record {
      walked = walks_on run left rest c.loop-rest.label c.in-Some.first c.requires c.loop-rest.invariant.walked c.in-Some.ensures;
      begins = walks_before run left rest c.loop-rest.label c.in-Some.first c.args.tail c.requires c.loop-rest.invariant.walked c.in-Some.ensures c.loop-rest-test.true;
    }

pub returns : goal.returns
returns c =
    let w = c.loop-rest.invariant in
    let left = c.loop-rest.rest.now in
    let within : length left ≤ c.args.tail = elim c.loop-rest-test.branch [
      | else-loop-rest-test b ↦ b.loop-rest-test.false
      | then-loop-rest-test+in_default b ↦
          let none : length left ≡ 0 = walk_ends c.args.run.now left c.loop-rest.label c.requires w.walked b.in_default.ensures in
          omega (arith, none)
    ] in
    record { walked = w.walked; begins = w.begins; within = within }
