use Rattle.std.proofs.Common.{◌<◌, length, map, take}
use Rattle.std.specs.List.{AllByRecursion}
use Rattle.answer_terms.specs.HashedLinks.{hashed_link_speaks}
use Rattle.answer_zone_records.specs.ChainPlaces.{AreAt}
use Rattle.answer_zone_records.proofs.hash_chain.hash_places.Given as goal

abbrev pub invariant-loop-hash : goal.invariant-loop-hash
invariant-loop-hash l = record {
  within : AllByRecursion (λ k. k < length l.chain) l.places.items;
  at : AreAt (hashed_link_speaks (map (λ h. h.items) (take l.hash-index l.hashes))) l.chain l.places.items;
}
