use Rattle.std.proofs.Common.{◌≡◌, ◌++◌, drop, string_bytes}
use Rattle.master_file_data.specs.Fields.{joined}
use Rattle.master_file_data.proofs.digits.joined.Given as goal

abbrev pub invariant-loop-field : goal.invariant-loop-field
invariant-loop-field l = string_bytes l.text ++ joined (drop l.field-index l.fields) ≡ joined l.fields
