use Rattle.std.proofs.Common.{◌≡◌, List, ◌++◌, map}
use Rattle.definitions.specs.Text.{Symbol}
use Rattle.names_wire.specs.Symbols.{symbol_of}
use Rattle.names_builder.specs.Building.{IsShort}
use Rattle.names_builder.specs.FromText.{continued}
use Rattle.names_builder.proofs.builder.NameBuilder.add_symbols.Given as goal

abbrev pub invariant-loop-symbol : goal.invariant-loop-symbol
invariant-loop-symbol g l = record {
  can : (goal.iterator-loop-symbol g).can_next l.symbol-iterator;
  finite : (goal.iterator-loop-symbol g).is_finite l.symbol-iterator;
  short : IsShort l.self;
  onward : (ss : List Symbol) → continued l.fn.self (map symbol_of l.yielded ++ ss) ≡ continued l.self ss;
}
