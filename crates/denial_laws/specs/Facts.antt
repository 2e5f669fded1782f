-- What verified records tell: the facts that a judge has, without bytes, keys and signatures.
use Rattle.std.specs.Prelude.{ℕ, Bool, List, Option, nat_lt}
use Rattle.definitions.specs.Name.{Name}
use Rattle.definitions.specs.Signing.{label_count}

-- the RRset of the question: its canonical data, ascending, and the label count of the first signature that verified it
-- (RFC 4034, 3.1.3)
pub record Rrset : Type 0 where
  pub datas : List (List ℕ)
  pub labels : ℕ

-- an NSEC record: its owner, the next name and the octets of its bitmap (RFC 4034, 4.1)
pub record Link : Type 0 where
  pub owner : Name
  pub next : Name
  pub bits : List ℕ

-- an NSEC3 record: the hash that its owner spells, the next hash, the octets of its bitmap, whether it opts out, and how it
-- was hashed (RFC 5155, 3.1)
pub record HashLink : Type 0 where
  pub owner : List ℕ
  pub next : List ℕ
  pub bits : List ℕ
  pub opt_out : Bool
  pub iterations : ℕ
  pub salt : List ℕ

-- all of it, in the order of the message
pub record Facts : Type 0 where
  pub rrset : Option Rrset
  pub links : List Link
  pub hash_links : List HashLink

-- an RRset is a wildcard's, expanded to the name, where its signature has fewer labels than the name (RFC 4035, 5.3.4)
abbrev pub is_expanded : Rrset → Name → Bool
is_expanded r q = nat_lt r.labels (label_count q)
