use Rattle.std.proofs.Common.{◌≡◌, ◌++◌, string_bytes}
use Rattle.std.specs.List.{flat_map}
use Rattle.master_files.specs.Lines.{character_field}
use Rattle.master_files.proofs.lines.push_field.Given as goal

abbrev pub invariant-loop-c : goal.invariant-loop-c
invariant-loop-c l = string_bytes l.lines ≡ string_bytes l.initial.lines ++ flat_map character_field l.yielded
