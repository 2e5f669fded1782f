use Rattle.std.proofs.Common.{◌≡◌, ◌++◌, take, string_bytes}
use Rattle.std.specs.List.{flat_map}
use Rattle.printed_outcomes.proofs.print.push_each.Given as goal

abbrev pub invariant-loop-item : goal.invariant-loop-item
invariant-loop-item g l = string_bytes l.out ≡ string_bytes l.initial.out ++ flat_map (λ x. l.separator ++ g.T.Item.text_of x) (take l.item-index l.items)
