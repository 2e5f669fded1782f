use Rattle.std.proofs.Common.{◌<◌, length, map, take}
use Rattle.std.specs.List.{AllByRecursion}
use Rattle.definitions.specs.Name.{Name, low}
use Rattle.answer_terms.specs.Links.{link_speaks}
use Rattle.answer_zone_records.specs.ChainPlaces.{AreAt}
use Rattle.answer_zone_records.specs.Round.{IsRound}
use Rattle.answer_zone_records.proofs.chain.link_places.Given as goal

abbrev pub invariant-loop-name : goal.invariant-loop-name
invariant-loop-name l = record {
  within : AllByRecursion (λ k. k < length l.chain) l.places.items;
  at : (apex : Name) → IsRound apex l.chain → AreAt (λ k. link_speaks apex (map (λ n. low n.now) (take l.name-index l.names)) (low k.owner) (low k.next)) l.chain l.places.items;
}
