use Rattle.std.proofs.Common.{◌≡◌, map, take}
use Rattle.answer_zone_records.specs.GroupRecords.{record_under}
use Rattle.answer_terms.specs.Served.{written_rr}
use Rattle.answer_zone_records.proofs.group.RrGroup.canonical_form.Given as goal

abbrev pub invariant-loop-octets : goal.invariant-loop-octets
invariant-loop-octets l = map (record_under l.fn.owner l.rtype) l.records.items ≡ map (λ d. written_rr l.fn.owner l.rtype l.ttl d.items) (take l.octets-index l.octets-items)
