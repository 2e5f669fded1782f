use Rattle.std.proofs.Common.{◌≤◌, lit≤, sym, subst, ◌∙◌, arith}
use Rattle.definitions.specs.Name.{wire_len}
use Rattle.definitions.specs.Zone.{star_under}
use Rattle.answer_zone.proofs.Enclosers.{encloser_here, encloser_none, encloser_past}
use Rattle.answer_zone.proofs.zone.around.encloser_of.Goals as goal

pub returns-then-is_shown-clause-ancestor : goal.returns-then-is_shown-clause-ancestor
returns-then-is_shown-clause-ancestor c =
    encloser_here c.args.apex.now c.args.near.now c.args.name.now c.in_ok-ancestor.ancestor c.loop-count.count
    c.loop-count-test.true c.loop-count.invariant.within c.in_ok-ancestor.ensures.labels c.loop-count.invariant.ancestor (sym c.is_shown.ensures ∙ c.if-is_shown.true)

pub loop-count-preserved : goal.loop-count-preserved
loop-count-preserved c =
    record {
      within = omega (arith, c.loop-count.invariant.within);
      ancestor = encloser_past c.args.apex.now c.args.near.now c.args.name.now c.in_ok-ancestor.ancestor c.loop-count.count
          c.loop-count-test.true c.loop-count.invariant.within c.in_ok-ancestor.ensures.labels c.loop-count.invariant.ancestor (sym c.is_shown.ensures ∙ c.if-is_shown.false);
    }

pub returns-in-Ok-clause-ancestor : goal.returns-in-Ok-clause-ancestor
returns-in-Ok-clause-ancestor c =
    c.in-Ok.ensures ∙ encloser_none c.args.apex.now c.args.near.now c.args.name.now c.loop-count.count (omega (arith, c.loop-count-test.false)) c.loop-count.invariant.ancestor

pub returns-in-Ok-clause-room : goal.returns-in-Ok-clause-room
returns-in-Ok-clause-room c = subst (λ m. wire_len (star_under m) ≤ 255) (sym c.in-Ok.ensures) (lit≤ tt)
