-- What a zone answers, before it is signed.
use Rattle.std.specs.Prelude.{◌≡◌, ℕ, false, IfOk, List, ◌++◌, Result, length}
use Rattle.std.specs.List.{AllZip}
use Rattle.definitions.specs.Name.{Name}
use Rattle.definitions.specs.Zone.{Verdict, verdict, Records, NoName, StarRecords, Delegated}
use Rattle.denial_nsec3_hash.specs.declared.hasher.HashError.{HashError}
use Rattle.answer_terms.specs.GroupView.{Presents}
use Rattle.answer_terms.specs.Hashing.{Hasher}
use Rattle.answer_terms.specs.Served.{ServedRrset, Served, answer_groups}
use Rattle.answer_zone.specs.HashedZone.{HashedZone, HashesFor, served_by}
use Rattle.answer_zone.specs.declared.zone.answers.ZoneAnswer.{ZoneAnswer}

-- an authoritative answer, one that no such name exists, or a referral (RFC 1035, 4.1.1)
abbrev pub flags_for : Verdict → ℕ
flags_for NoName = 33795
flags_for Delegated = 32768
flags_for _ = 33792

-- how many RRsets stand in the answer section: the one asked for, where it is there
abbrev pub answered : Verdict → ℕ
answered (Records ds) = 1
answered (StarRecords ds) = 1
answered _ = 0

-- what a zone answers, before it is signed: the RRsets of the answer, those asked for apart, and the flags
pub record AnswersAs (s : Served) (name : Name) (t : ℕ) (a : ZoneAnswer) : Type 0 where
  pub groups_are : AllZip Presents (a.answer.items ++ a.authority.items) (answer_groups s name t)
  pub split : length a.answer.items ≡ answered (verdict s.zone false name t)
  pub flags_are : a.flags ≡ flags_for (verdict s.zone false name t)

-- what a call answers for a zone, where each name that the proof speaks of is hashed, or why it does not: one was not
abbrev pub Replies : {H : Type 0} → (H → Hasher) → HashedZone H → Name → ℕ → Result ZoneAnswer HashError → Type 0
Replies hash_of z q t r = IfOk r (AnswersAs (served_by hash_of z) q t) × HashesFor hash_of z q t r

-- its flags, the RRsets of its answer section, and the others
pub record Holds (flags : ℕ) (found rest : List ServedRrset) (a : ZoneAnswer) : Type 0 where
  pub flags_are : a.flags ≡ flags
  pub found_are : AllZip Presents a.answer.items found
  pub rest_are : AllZip Presents a.authority.items rest
