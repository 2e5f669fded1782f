-- What octets spell is one thing, and a list grows by what was asked for.
use Rattle.std.specs.Prelude.{◌≡◌, ℕ, ◌+◌, ◌-◌, ◌≤◌, Bool, true, false, List, [], ◌∷◌, ◌++◌, filter, length, map, take}
use Rattle.std.specs.List.{list_all}
use Rattle.definitions.specs.Name.{Name}
use Rattle.definitions.specs.Dnskey.{Dnskey}
use Rattle.definitions.specs.Limits.{pointer_limit}
use Rattle.definitions.specs.Zone.{Zone}
use Rattle.messages.specs.Message.{Asked}
use Rattle.messages.specs.HandedRr.{HandedRr}
use Rattle.messages_canonical.specs.InForm.{has_form, is_record_in_form}
use Rattle.answer_terms.specs.Accepting.{zone_of}
use Rattle.answer_terms.specs.Served.{ServedRrset, Served}
use Rattle.answer_terms.specs.Told.{TellsAnswer, TellsKeys}
use Rattle.answer_judge.specs.Judging.{JudgeInput}
use Rattle.answer_judge_octets.specs.declared.octets.OctetCase.{OctetCase}
use Rattle.answer_judge_octets.specs.Replying.{IsJudged, Spells, are_too_many, is_carried, most_of}
use Rattle.answer_findings.specs.Found.{AreAskedFor}
use Rattle.answer_findings.specs.Table.{Checked, Tried, checked}
use Rattle.answer_judge_octets.specs.Written.{FitsChecked, IsList, checked_octets, passes_octets}

-- a case in octets spells one thing to be judged, and one table
abbrev pub OctetsSpellOneCase : Type 0
OctetsSpellOneCase =
    (case : OctetCase) (h j : JudgeInput) (table others : List Checked)
    → Spells case h table → Spells case j others → (h ≡ j) × (table ≡ others)

-- an entry with its last octet set
abbrev pub answered_entry : List ℕ → Bool → List ℕ
answered_entry entry passes = take (length entry - 1) entry ++ passes_octets passes

-- A list with an entry that was asked for at its end, the last octet set, is the list that has that signature too.
abbrev pub ListsGrow : Type 0
ListsGrow =
    (octets : List ℕ) (table : List Checked) (t : Tried) (passes : Bool)
    → IsList FitsChecked checked_octets octets table → FitsChecked (checked t false)
    → IsList FitsChecked checked_octets (octets ++ answered_entry (checked_octets (checked t false)) passes) (table ++ checked t passes ∷ [])

-- Entries that were put behind a table count from then on, and with them as many signatures of the messages were checked as the
-- case allows, or fewer.
pub record StaysFew (most : ℕ) (h : JudgeInput) (table answered : List Checked) : Type 0 where
  pub counted :
      length (filter (is_carried h.dnskey_bytes h.answer_bytes) (table ++ answered))
      ≡ length (filter (is_carried h.dnskey_bytes h.answer_bytes) table) + length answered
  pub few : length (filter (is_carried h.dnskey_bytes h.answer_bytes) (table ++ answered)) ≤ most_of most

-- This holds of what is asked for where that is not too much, for the case itself or a question beside it: so over all calls of a
-- case no more are checked.
abbrev pub AsksStayFew : Type 0
AsksStayFew =
    (most : ℕ) (h : JudgeInput) (table answered : List Checked) (verifications hashes : ℕ)
    → AreAskedFor table h (map (λ c. c.tried) answered) verifications hashes → are_too_many most h table (length answered) ≡ false → StaysFew most h table answered

-- the data of an RRset are in form, each by itself
abbrev pub is_group_in_form : ServedRrset → Bool
is_group_in_form g = list_all (has_form g.rtype) g.datas

-- and those of a zone's records
abbrev pub is_zone_in_form : Zone → Bool
is_zone_in_form z = list_all (λ r. has_form r.rtype r.bytes) z.records

-- Messages that tell what a zone's publisher answers, as those that it gives do, are judged as they were received: zone answers
-- where the data of the zone's records are in form, and DNSKEY answers. A zone's are where those of the records are that it is
-- made of.
pub record ToldAreInForm : Type 0 where
  pub answers : (verifies : Dnskey → List ℕ → List ℕ → Bool) (s : Served) (apex : Name) (signers : List Dnskey) (at life : ℕ) (asked : Asked) (bytes judged : List ℕ)
      → is_zone_in_form s.zone ≡ true → TellsAnswer verifies pointer_limit s apex signers at life asked bytes → IsJudged false bytes judged → judged ≡ bytes
  pub keys : (verifies : Dnskey → List ℕ → List ℕ → Bool) (ttl : ℕ) (apex : Name) (present signers : List Dnskey) (at life : ℕ) (bytes judged : List ℕ)
      → TellsKeys verifies pointer_limit ttl apex present signers at life bytes → IsJudged false bytes judged → judged ≡ bytes
  pub records : (apex : Name) (rs : List HandedRr) → list_all is_record_in_form rs ≡ true → is_zone_in_form (zone_of apex rs) ≡ true
