use Rattle.std.proofs.Common.{◌≡◌, drop}
use Rattle.master_file_data.specs.Fields.{ends_in_dot, is_absolute}
use Rattle.master_file_data.proofs.field.is_absolute.Given as goal

abbrev pub invariant-loop-octet : goal.invariant-loop-octet
invariant-loop-octet l = ends_in_dot l.is_escaped l.ends (drop l.octet-index l.octet-items) ≡ is_absolute l.octet-items
