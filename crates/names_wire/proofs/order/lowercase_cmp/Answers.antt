use Rattle.std.proofs.Common.{◌∙◌, inl, inr}
use Rattle.names_wire.proofs.Lowercase.{ended}
use Rattle.names_wire.proofs.order.lowercase_cmp.Goals as goal

pub returns : goal.returns
returns c =
    c.cmp-2.ensures ∙ ended c.args.left.now c.args.right.now c.loop-a.a-iterator.a.rest.now c.loop-a.a-iterator.b.rest.now c.loop-a.invariant
    (elim c.in-None.ensures.steps [ inl (u, h) ↦ inl h.0 | inr (u, h) ↦ inr h.0 ])
