-- An RRset on its way into an answer, as contracts see it.
use Rattle.std.specs.Prelude.{◌≡◌, ℕ, ◌+◌, ◌%◌, ◌<◌, Bool, true, List, ◌++◌, Option, Some, None, Contains, map, if◌then◌else◌, length, nat_lt}
use Rattle.std.specs.List.{AllZip}
use Rattle.definitions.specs.Name.{Name}
use Rattle.definitions.specs.Dnskey.{Dnskey, key_tag}
use Rattle.definitions.specs.Signing.{Fields, label_count, signed_octets}
use Rattle.messages.specs.Rrsig.{rrsig_data}
use Rattle.messages.specs.Written.{Written}
use Rattle.messages.specs.HandedRr.{HandedRr}
use Rattle.answer_terms.specs.Served.{ServedRrset, written_under, written_of_handed, written_rr}

-- the owner and the TTL of its signatures, the label count of its source, its records as they are written, and the
-- canonical data in order
pub record GroupView : Type 0 where
  pub owner : Name
  pub labels : ℕ
  pub rtype : ℕ
  pub ttl : ℕ
  pub written : List Written
  pub canonical : List (List ℕ)
  pub signed : Bool

-- an RRset that is written in canonical form
abbrev pub canonical_view : Name → ℕ → ℕ → ℕ → List (List ℕ) → GroupView
canonical_view owner labels t ttl ds = record {
  owner = owner;
  labels = labels;
  rtype = t;
  ttl = ttl;
  written = map (written_rr owner t ttl) ds;
  canonical = ds;
  signed = nat_lt 0 (length ds);
}

-- a record as it was handed in, under another owner unless it keeps its own
abbrev pub spelled_by : Bool → Name → HandedRr → Written
spelled_by own owner r = if own then written_of_handed r else written_under owner (written_of_handed r)

abbrev pub all_spelled_by : Bool → Name → List Written → List Written
all_spelled_by own owner ws = if own then ws else map (written_under owner) ws

-- an RRset of an answer, as it is seen
abbrev pub view_of : ServedRrset → GroupView
view_of g = record {
  owner = g.owner;
  labels = label_count g.source;
  rtype = g.rtype;
  ttl = g.ttl;
  written = g.written;
  canonical = g.datas;
  signed = g.signed;
}

-- it is this RRset of an answer
pub record Presents (g : GroupView) (of : ServedRrset) : Type 0 where
  pub owner_is : g.owner ≡ of.owner
  pub labels_are : g.labels ≡ label_count of.source
  pub rtype_is : g.rtype ≡ of.rtype
  pub ttl_is : g.ttl ≡ of.ttl
  pub written_is : g.written ≡ of.written
  pub canonical_is : g.canonical ≡ of.datas
  pub signed_is : g.signed ≡ of.signed

-- some RRsets are added at the end, and they are these
abbrev pub Adds : List GroupView → List GroupView → List ServedRrset → Type 0
Adds old new gs = (more : List GroupView) × AllZip Presents more gs × (new ≡ old ++ more)

-- what a signature of one key says of an RRset, the signer as spelled (RFC 4034, 3.1)
abbrev pub fields_of : Name → ℕ → ℕ → GroupView → Dnskey → Fields
fields_of apex at life g k = record {
  covered = g.rtype;
  algorithm = k.algorithm;
  labels = g.labels;
  ttl = g.ttl;
  expiration = (at + life) % 4294967296;
  inception = at % 4294967296;
  tag = key_tag k;
  signer = apex;
}

-- what it is made over
abbrev pub octets_of : Name → ℕ → ℕ → GroupView → Dnskey → List ℕ
octets_of apex at life g k = signed_octets (fields_of apex at life g k) g.owner 1 g.canonical

-- the data of an RRSIG record that one key made, and that passes
pub record IsRrsigData (sign : Dnskey → List ℕ → Option (List ℕ)) (verifies : Dnskey → List ℕ → List ℕ → Bool) (apex : Name) (at life : ℕ) (g : GroupView) (key : Dnskey) (d : List ℕ) : Type 0 where
  pub signature : List ℕ
  pub made : sign key (octets_of apex at life g key) ≡ Some signature
  pub passes : verifies key (octets_of apex at life g key) signature ≡ true
  pub data_is : d ≡ rrsig_data (fields_of apex at life g key) signature
  pub tag_fits : key_tag key < 65536

-- the scheme fails for one of some keys
abbrev pub FailsFor : (Dnskey → List ℕ → Option (List ℕ)) → Name → ℕ → ℕ → GroupView → List Dnskey → Type 0
FailsFor sign apex at life g keys = (k : Dnskey) × (Contains keys k × (sign k (octets_of apex at life g k) ≡ None))
