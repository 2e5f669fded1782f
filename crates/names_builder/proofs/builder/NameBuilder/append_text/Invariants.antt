use Rattle.std.proofs.Common.{◌≡◌, ℕ, List, ◌++◌, true}
use Rattle.names_wire.specs.Symbols.{is_begun}
use Rattle.names_builder.specs.Building.{IsShort}
use Rattle.names_builder.specs.FromText.{text_behind}
use Rattle.names_builder.proofs.PartText.{PartText}
use Rattle.names_builder.proofs.builder.NameBuilder.append_text.Given as goal

abbrev pub invariant-loop-ch : goal.invariant-loop-ch
invariant-loop-ch g l = record {
  can : (goal.iterator-loop-ch g).can_next l.ch-iterator;
  finite : (goal.iterator-loop-ch g).is_finite l.ch-iterator;
  short : IsShort l.self;
  begins : is_begun l.reader ≡ true;
  read : PartText (l.fn.reader ++ l.yielded) l.reader l.fn.self l.self;
  onward : (rest : List ℕ) → text_behind l.fn.self (l.fn.reader ++ (l.yielded ++ rest)) ≡ text_behind l.self (l.reader ++ rest);
}
