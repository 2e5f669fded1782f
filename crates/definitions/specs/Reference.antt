-- How the values of the reference programs are seen.
use Rattle.std.specs.Prelude.{◌≡◌, Result, Ok, Err}
use Rattle.definitions.specs.Reading.{ReadFault, Short, Malformed, End, AtRoot, To, Run}
use Rattle.definitions.specs.Zone.{Verdict}
use Rattle.definitions.specs.Zone as zone
use Rattle.definitions.specs.declared.reference.verdict.PlainVerdict.{PlainVerdict}
use Rattle.definitions.specs.declared.reference.verdict.PlainVerdict.TheVariants.{Records, NoType, NoName, StarRecords, StarNoType, Delegated, Open}
use Rattle.definitions.specs.declared.reference.reading.LabelRun.{LabelRun}
use Rattle.definitions.specs.declared.reference.reading.RunEnd.{RunEnd}
use Rattle.definitions.specs.declared.reference.reading.RunEnd.TheVariants as run_end
use Rattle.definitions.specs.declared.reference.reading.ReadError.{ReadError}
use Rattle.definitions.specs.declared.reference.reading.ReadError.TheVariants as read_error

abbrev pub verdict_of : PlainVerdict → Verdict
verdict_of (Records ds) = zone.Records ds.items
verdict_of NoType = zone.NoType
verdict_of NoName = zone.NoName
verdict_of (StarRecords ds) = zone.StarRecords ds.items
verdict_of StarNoType = zone.StarNoType
verdict_of Delegated = zone.Delegated
verdict_of Open = zone.Open

-- where a run of labels ends
abbrev pub end_of : RunEnd → End
end_of run_end.AtRoot = AtRoot
end_of (run_end.To place) = To place

abbrev pub run_of : LabelRun → Run
run_of r = record { labels = r.labels.items; end = end_of r.end; behind = r.behind; room = r.room }

-- what a program read, seen by view, is what the definition reads, unless memory was short
abbrev pub IsReading : {X Y : Type 0} → (X → Y) → Result X ReadError → Result Y ReadFault → Type 0
IsReading view (Ok x) read = read ≡ Ok (view x)
IsReading view (Err read_error.Short) read = read ≡ Err Short
IsReading view (Err read_error.Malformed) read = read ≡ Err Malformed
IsReading view (Err read_error.Memory) read = Unit {0}
