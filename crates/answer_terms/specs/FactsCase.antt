-- Facts with the names of links in lower case. In which case names are spelled means nothing (RFC 4343, 3; RFC 4034, 6.2).
use Rattle.std.specs.Prelude.{◌≡◌, ℕ, List, map}
use Rattle.definitions.specs.Name.{Name, low}
use Rattle.denial_laws.specs.Facts.{Link, Facts}
use Rattle.denial_laws.specs.Deciding.{decided}

-- owner and next name in lower case
abbrev pub low_link : Link → Link
low_link f = record { owner = low f.owner; next = low f.next; bits = f.bits }

abbrev pub low_facts : Facts → Facts
low_facts f = record { rrset = f.rrset; links = map low_link f.links; hash_links = f.hash_links }

-- What facts decide depends neither on the case of the names in links nor on that of the name that is asked for.
pub record IsCaseless (apex : Name) (hash : Name → List ℕ) (f : Facts) (q : Name) (t : ℕ) : Type 0 where
  pub links : decided apex hash (low_facts f) q t ≡ decided apex hash f q t
  pub name : decided apex hash f (low q) t ≡ decided apex hash f q t

abbrev pub CaseMeansNothing : Type 0
CaseMeansNothing = (apex : Name) (hash : Name → List ℕ) (f : Facts) (q : Name) (t : ℕ) → IsCaseless apex hash f q t
