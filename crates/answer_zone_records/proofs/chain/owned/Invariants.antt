use Rattle.std.proofs.Common.{◌≡◌, map, take}
use Rattle.denial_nsec_chain.specs.Chain.{record_of}
use Rattle.answer_zone_records.specs.MadeLinks.{link_of}
use Rattle.answer_zone_records.proofs.chain.owned.Given as goal

abbrev pub invariant-loop-nsec : goal.invariant-loop-nsec
invariant-loop-nsec l = l.links.items ≡ map (λ r. link_of (record_of (λ n. n) r)) (take l.nsec-index l.nsecs)
