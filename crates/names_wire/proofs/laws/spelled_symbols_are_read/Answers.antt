use Rattle.std.proofs.Common.{ap, ◌∙◌}
use Rattle.definitions.specs.Text.{symbols_of}
use Rattle.names_wire.proofs.Printed.{spelled_is_read}
use Rattle.names_wire.proofs.laws.spelled_symbols_are_read.Goals as goal

pub returns : goal.returns
returns c = λ text ss h. ap symbols_of h.spelled ∙ spelled_is_read ss h.each
