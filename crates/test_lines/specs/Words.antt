-- Words of answers, as lists of byte values.
use Rattle.std.specs.Prelude.{ℕ, List, codes}
use Rattle.std.specs.declared.cmp.Ordering.{Ordering}
use Rattle.std.specs.declared.cmp.Ordering.TheVariants.{Less, Equal, Greater}

-- the word of an order
abbrev pub order_name : Ordering → List ℕ
order_name Less = codes "less"
order_name Equal = codes "equal"
order_name Greater = codes "greater"
