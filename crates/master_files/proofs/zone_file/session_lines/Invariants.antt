use Rattle.std.proofs.Common.{List}
use Rattle.master_files.specs.Lines.{FileRecord}
use Rattle.master_files.specs.Reading.{HasRead, given_name, read_of}
use Rattle.master_files.proofs.zone_file.session_lines.Given as goal

abbrev pub invariant-loop-entry : goal.invariant-loop-entry
invariant-loop-entry l = (records : List FileRecord) × HasRead (given_name l.fn.reading.apex.now) (read_of l.zone) records
