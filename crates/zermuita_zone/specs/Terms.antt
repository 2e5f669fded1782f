-- What an open zone digests and hashes with: SHA-256 for DS records, SHA-1 for names (RFC 4509; RFC 5155, 5). It signs nothing.
use Rattle.std.specs.Prelude.{false, Some, None, nat_eq, if◌then◌else◌}
use Rattle.sha2.specs.Sha256.{sha256}
use Rattle.denial_nsec3_sha1.specs.Iterated.{answered}
use Rattle.answer_terms.specs.Hashing.{Hasher}
use Rattle.answer_publisher.specs.World.{World, world_of}
use Rattle.server_zone.specs.States.{Digest}
use Rattle.zermuita_zone.specs.declared.opened.OpenZone.{OpenZone}

abbrev pub digest : Digest
digest t octets = if nat_eq t 2 then Some (sha256 octets) else None

abbrev pub hash : Hasher
hash name algorithm iterations salt = answered name algorithm iterations salt

-- the world that its answers are of
abbrev pub world_in : OpenZone → World
world_in z = world_of (λ _ _ _. None) (λ _ _ _ _. false) (λ _. digest) (λ _. hash) z.zone.publisher
