use Rattle.std.proofs.Common.{◌≡◌, map, drop}
use Rattle.std.specs.List.{list_all}
use Rattle.messages.specs.HandedRr.{handed_of}
use Rattle.messages_canonical.specs.InForm.{is_record_in_form}
use Rattle.messages_canonical.proofs.records.are_records_in_form.Given as goal

-- it is a matter of the records that are left
abbrev pub invariant-loop-record : goal.invariant-loop-record
invariant-loop-record l = list_all is_record_in_form (map handed_of l.records) ≡ list_all is_record_in_form (map handed_of (drop l.record-index l.records))
