use Rattle.std.proofs.Common.{◌≡◌, map, take}
use Rattle.definitions.specs.Name.{low}
use Rattle.answer_terms.specs.Hashing.{hash_in}
use Rattle.answer_zone.specs.HashedZone.{AreHashed}
use Rattle.answer_zone.proofs.zone.ZoneRecords.hashes_of.Given as goal

abbrev pub invariant-loop-name : goal.invariant-loop-name
invariant-loop-name g l = record {
  hashes : map (λ h. h.items) l.hashes.items ≡ map (λ n. hash_in (g.H.Nsec3Hasher.hash_of l.self.hasher) l.self.mode n.now) (take l.name-index l.names);
  hashed : AreHashed (g.H.Nsec3Hasher.hash_of l.self.hasher) l.self.mode (map (λ n. low n.now) (take l.name-index l.names));
}
