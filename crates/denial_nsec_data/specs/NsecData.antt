-- The data of NSEC records, without where they lie (RFC 4034, 4.1).
use Rattle.std.specs.Prelude.{ℕ, List, ◌++◌}
use Rattle.definitions.specs.Name.{Name, wire}

pub record NsecData (N : Type 0) : Type 0 where
  pub next_name : N
  pub types : List ℕ

abbrev pub nsec_with : {N : Type 0} → N → List ℕ → NsecData N
nsec_with next types = record { next_name = next; types = types }

-- the next name as it is spelled, in canonical form too (RFC 6840, 5.1), and the bitmap
abbrev pub nsec_octets : {N : Type 0} → (N → Name) → NsecData N → List ℕ
nsec_octets name d = wire (name d.next_name) ++ d.types
