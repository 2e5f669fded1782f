-- What a contract sees in place of a record and a zone of the reference programs.
use Rattle.definitions.specs.Zone.{Rr, Zone}

abbrev pub RecordView : Type 0
RecordView = Rr

abbrev pub ZoneView : Type 0
ZoneView = Zone
