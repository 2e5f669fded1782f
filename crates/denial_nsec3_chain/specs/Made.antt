-- How the records of a chain are made.
use Rattle.std.specs.Prelude.{◌≡◌, ℕ, List}
use Rattle.definitions.specs.Bitmap.{bitmap}
use Rattle.definitions.specs.Name.{Name}
use Rattle.plain.specs.declared.record.Record.{Record}
use Rattle.denial_nsec_data.specs.Hashed.{Nsec3Data}
use Rattle.denial_nsec3_hash.specs.Hashing.{hashed_owner}
use Rattle.denial_nsec3_names.specs.Chained.{spot_of}
use Rattle.denial_nsec3_names.specs.declared.hashed.HashedName.{HashedName}
use Rattle.denial_nsec3_chain.specs.Bits.{spot_types}
use Rattle.denial_nsec3_chain.specs.Linked.{Making}
use Rattle.denial_nsec3_chain.specs.declared.links.Begun.{Begun}
use Rattle.denial_nsec3_chain.specs.declared.links.Settings.{Settings}

abbrev pub making_of : {S : Type 0} → Settings S → Making
making_of s = record { params = s.params.now; dnskey = s.dnskey; ttl = s.ttl }

-- what is known of the record of a name
pub record IsBegun {N D : Type 0} (apex : Name) (h : HashedName N D) (b : Begun N D) : Type 0 where
  pub owner : b.owner ≡ hashed_owner apex h.hash.items
  pub name : b.name ≡ h.name

-- a record that was begun, and the next hash
abbrev pub ended : {N D : Type 0} → (N → Name) → (D → ℕ) → Name → Making → Begun N D → List ℕ → Record Name Nsec3Data
ended name rtype apex m b next = record {
  owner = b.owner;
  class = 1;
  ttl = m.ttl;
  content = record { params = m.params; next_owner = next; types = bitmap (spot_types name rtype apex m.dnskey (spot_of b.name)) };
}
