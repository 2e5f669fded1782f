-- A publisher's digests.
use Rattle.std.specs.Prelude.{ℕ, List, Option}
use Rattle.definitions.specs.Name.{Name}
use Rattle.definitions.specs.Dnskey.{Dnskey, digested}

-- the digest of type 2 of a key at the apex
abbrev pub digest_at : (ℕ → List ℕ → Option (List ℕ)) → Name → Dnskey → Option (List ℕ)
digest_at digest apex k = digest 2 (digested apex k)
