use Rattle.names_wire.proofs.Lowercase.{Remains}
use Rattle.names_wire.proofs.order.lowercase_cmp.Given as goal

abbrev pub invariant-loop-a : goal.invariant-loop-a
invariant-loop-a l = Remains l.left l.right l.a-iterator.a.rest.now l.a-iterator.b.rest.now
