use Rattle.std.proofs.Common.{◌≡◌, ◌++◌, drop}
use Rattle.std.specs.List.{AllByRecursion}
use Rattle.answer_zone_records.specs.MadeLinks.{HasOctets, hashed_around, hashed_from}
use Rattle.answer_zone_records.proofs.hash_chain.hashed_links.Given as goal

abbrev pub invariant-loop-nsec3 : goal.invariant-loop-nsec3
invariant-loop-nsec3 l = (l.links.items ++ hashed_from l.hash (drop l.nsec3-index l.nsec3s) ≡ hashed_around l.nsec3s) × AllByRecursion HasOctets l.links.items
