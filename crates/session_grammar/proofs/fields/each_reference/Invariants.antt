use Rattle.std.proofs.Common.{◌≡◌, map, take, true, string_bytes}
use Rattle.std.specs.List.{list_all}
use Rattle.session_grammar.specs.Fields.{is_reference}
use Rattle.session_grammar.specs.Readings.{texts}
use Rattle.session_grammar.proofs.fields.each_reference.Given as goal

abbrev pub invariant-loop-part : goal.invariant-loop-part
invariant-loop-part l = record { read : map string_bytes l.references.items ≡ texts (take l.part-index l.parts); each : list_all is_reference (texts (take l.part-index l.parts)) ≡ true }
