-- The order in which a judge searches RRsets, and runs of records of one owner and type.
use Rattle.std.specs.Prelude.{◌≡◌, ℕ, suc, ◌+◌, Bool, true, ◌&&◌, ◌==◌, List, [], ◌∷◌, ◌++◌, map, None, if◌then◌else◌}
use Rattle.std.specs.List.{filter_map}
use Rattle.std.specs.List.Sorted.{IsStrictlySortedBy}
use Rattle.std.specs.Ordering.{nat_cmp, ordering_then}
use Rattle.std.specs.declared.cmp.Ordering.{Ordering}
use Rattle.definitions.specs.Name.{Name, name_cmp, same}
use Rattle.definitions.specs.Limits.{pointer_limit}
use Rattle.definitions.specs.Zone.{sorted_data}
use Rattle.messages.specs.Message.{Spelled, canonical_data}
use Rattle.answer_judge_facts.specs.Marked.{AreGathered, data_in, has_place, holds_one, is_chain_type}
use Rattle.answer_judge_facts.specs.Verified.{rrset_in}
use Rattle.answer_judge_facts.specs.declared.groups.SignedRrset.{SignedRrset}

-- ---- RRsets by type and owner

-- records of chains come first
abbrev pub type_rank : ℕ → ℕ
type_rank t = if is_chain_type t then t else t + 65536

abbrev pub sought_cmp : ℕ × Name → ℕ × Name → Ordering
sought_cmp a b = ordering_then (nat_cmp (type_rank a.0) (type_rank b.0)) (name_cmp a.1 b.1)

abbrev pub place_of : SignedRrset → ℕ × Name
place_of g = (g.rtype, g.owner)

abbrev pub AreRanked : List SignedRrset → Type 0
AreRanked gs = IsStrictlySortedBy sought_cmp (map place_of gs)

-- The groups of what is sought in an answer, in order: those of chains' records, behind them that of the RRset that was asked
-- for. None is verified yet.
pub record AskedLast (m : List ℕ) (apex : Name) (rs : List Spelled) (name : Name) (rtype : ℕ) (gs : List SignedRrset) : Type 0 where
  pub chains : List SignedRrset
  pub asked : SignedRrset
  pub are : gs ≡ chains ++ asked ∷ []
  pub ranked : AreRanked gs
  pub gathered : AreGathered m apex rs rs chains
  pub owner_is : asked.owner ≡ name
  pub rtype_is : asked.rtype ≡ rtype
  pub datas_are : data_in asked ≡ rrset_in pointer_limit m rs name rtype
  pub unverified : asked.verified ≡ None

-- ---- records of chains

abbrev pub chain_cmp : Spelled → Spelled → Ordering
chain_cmp a b = ordering_then (nat_cmp a.rtype b.rtype) (name_cmp a.owner b.owner)

-- two records of one type and one owner
abbrev pub are_alike : Spelled → Spelled → Bool
are_alike a b = (a.rtype == b.rtype) && same a.owner b.owner

-- how many from the front on are of one's type and owner
abbrev pub alike_len : Spelled → List Spelled → ℕ
alike_len r [] = 0
alike_len r (s ∷ ss) = if are_alike r s then suc (alike_len r ss) else 0

-- the canonical data of records that read, ascending, each once
abbrev pub run_data : List ℕ → List Spelled → List (List ℕ)
run_data m rs = sorted_data (filter_map (canonical_data pointer_limit m) rs)

-- an RRset of one record that stands where its chain's records do, not yet verified
pub record IsRun (m : List ℕ) (apex : Name) (r : Spelled) (ds : List (List ℕ)) (g : SignedRrset) : Type 0 where
  pub owner : g.owner ≡ r.owner
  pub rtype : g.rtype ≡ r.rtype
  pub datas : data_in g ≡ ds
  pub place : has_place r.rtype apex r.owner ≡ true
  pub held : holds_one r.rtype ds ≡ true
  pub unverified : g.verified ≡ None
