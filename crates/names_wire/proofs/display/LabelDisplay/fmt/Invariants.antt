use Rattle.std.proofs.Common.{take}
use Rattle.std.specs.Fmt.{HasWritten, IsPlainFormatter}
use Rattle.definitions.specs.Text.{text_of_label}
use Rattle.names_wire.specs.Label.{octets_of}
use Rattle.names_wire.proofs.display.LabelDisplay.fmt.Given as goal

abbrev pub invariant-loop-octet : goal.invariant-loop-octet
invariant-loop-octet g l =
    IsPlainFormatter l.initial.f → HasWritten g.W.Write.write_str_gives l.initial.f (text_of_label (take l.octet-index (octets_of l.self))) l.f
