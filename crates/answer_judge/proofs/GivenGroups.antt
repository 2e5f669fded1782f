-- RRsets of an answer, by their owners and types.
use Rattle.std.specs.Prelude.{◌≡◌, ℕ, ◌<◌, Bool, true, false, ◌&&◌, ◌||◌, ◌==◌, List, [], ◌∷◌, ◌++◌, Some}
use Rattle.std.specs.List.{AllByRecursion, list_any}
use Rattle.definitions.specs.Base32hex.{base32hex}
use Rattle.definitions.specs.Name.{Name, IsLabel, low, same, wire}
use Rattle.denial_laws.specs.Facts.{HashLink, Link}
use Rattle.messages.specs.Message.{HashedNext, nsec3_of}
use Rattle.answer_terms.specs.Served.{ServedRrset}
use Rattle.answer_judge_facts.specs.Verified.{is_known}

-- the RRset of an owner, up to case, and a type
abbrev pub is_rrset : Name → ℕ → ServedRrset → Bool
is_rrset o t g = (g.rtype == t) && same g.owner o

-- one RRset stands there twice
abbrev pub has_twins : List ServedRrset → Bool
has_twins [] = false
has_twins (g ∷ gs) = list_any (is_rrset g.owner g.rtype) gs || has_twins gs

abbrev pub is_nsec : ServedRrset → Bool
is_nsec g = g.rtype == 47

abbrev pub is_nsec3 : ServedRrset → Bool
is_nsec3 g = g.rtype == 50

-- what an NSEC record's one datum says
pub record SaysLink (g : ServedRrset) (l : Link) : Type 0 where
  pub owner_is : low g.owner ≡ low l.owner
  pub labels : AllByRecursion IsLabel l.next
  pub data_are : g.datas ≡ (wire l.next ++ l.bits) ∷ []

-- the same link, its owner up to case
pub record SameLink (l f : Link) : Type 0 where
  pub owner_is : low l.owner ≡ low f.owner
  pub next_is : l.next ≡ f.next
  pub bits_are : l.bits ≡ f.bits

-- a hash, and what the data of its record say
abbrev pub said_of : List ℕ → HashedNext → HashLink
said_of h n = record {
  owner = h;
  next = n.next;
  bits = n.bits;
  opt_out = n.flags == 1;
  iterations = n.iterations;
  salt = n.salt;
}

-- what an NSEC3 record's one datum says, whose owner spells a hash under the apex
pub record SaysHashLink (apex : Name) (g : ServedRrset) (l : HashLink) : Type 0 where
  pub octets : AllByRecursion (λ x. x < 256) l.owner
  pub owner_is : low g.owner ≡ base32hex l.owner ∷ low apex
  pub datum : List ℕ
  pub data_are : g.datas ≡ datum ∷ []
  pub next : HashedNext
  pub reads : nsec3_of datum ≡ Some next
  pub known : is_known next ≡ true
  pub is : said_of l.owner next ≡ l
