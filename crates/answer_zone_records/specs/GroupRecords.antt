-- Records of an RRset on their way into an answer.
use Rattle.std.specs.Prelude.{◌≡◌, ℕ, Bool, true, List, unwrap_or, map, filter, Vec}
use Rattle.std.specs.declared.alloc.Global.{Global}
use Rattle.definitions.specs.Name.{Name, low}
use Rattle.definitions.specs.Zone.{data_at}
use Rattle.messages.specs.Written.{Written}
use Rattle.messages.specs.HandedRr.{HandedRr}
use Rattle.answer_terms.specs.Accepting.{zone_with}
use Rattle.answer_terms.specs.GroupView.{all_spelled_by}
use Rattle.answer_terms.specs.Served.{ServedRrset, ttl_among, written_among, written_of_handed, written_rr}
use Rattle.answer_terms.specs.ZoneView.{is_of}
use Rattle.answer_zone_records.specs.declared.group.GroupRecord.{GroupRecord}

-- a record, under the owner of the RRset unless it has its own
abbrev pub record_under : Name → ℕ → GroupRecord → Written
record_under owner t r = written_rr (unwrap_or r.owner owner) t r.ttl r.octets.items

-- The RRset of an owner and a type of a zone, written under another name, or as its records spell their owner; then that name
-- is the first record's.
abbrev pub rrset_from : Bool → Name → List HandedRr → Name → Name → ℕ → ServedRrset
rrset_from own apex rs source owner t = record {
  owner = owner;
  source = low source;
  rtype = t;
  ttl = ttl_among rs (low source) t;
  written = all_spelled_by own owner (written_among rs (low source) t);
  datas = data_at (zone_with apex rs) (low source) t;
  signed = true;
}

-- the RRset of an owner and a type among some records, whatever owner the records get that don't keep their own
pub record HoldsRrset (own : Bool) (q : Name) (t : ℕ) (rs : List HandedRr) (gs : List GroupRecord) (ds : List (Vec ℕ Global)) : Type 0 where
  pub written : (owner : Name) → map (record_under owner t) gs ≡ all_spelled_by own owner (map written_of_handed (filter (is_of q t) rs))
  pub canonical : map (λ d. d.items) ds ≡ map (λ r. r.bytes) (filter (is_of q t) rs)
