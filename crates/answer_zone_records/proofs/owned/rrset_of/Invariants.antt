use Rattle.std.proofs.Common.{map}
use Rattle.messages.specs.HandedRr.{handed_of}
use Rattle.answer_zone_records.proofs.Rrsets.{Taking}
use Rattle.answer_zone_records.proofs.owned.rrset_of.Given as goal

abbrev pub invariant-loop-rr : goal.invariant-loop-rr
invariant-loop-rr l = Taking l.own l.rtype (map handed_of l.owner) (map handed_of l.records) l.found.items l.canonical.items
