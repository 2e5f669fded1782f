-- What opening a zone and applying a line tell.
use Rattle.std.specs.Prelude.{◌≡◌, ◌⊎◌, ℕ, ◌≤◌, ◌++◌, true, false, List, [], length, take, Some}
use Rattle.answer_terms.specs.Hashing.{Hasher}
use Rattle.server_zone.specs.Journals.{IsFresh, IsJournalOf, IsOpenError, IsSettledAt, NoneSettledBehind, journal_state}
use Rattle.server_zone.specs.Lines.{unfinished}
use Rattle.server_zone.specs.Refusals.{is_memory}
use Rattle.server_zone.specs.StateLines.{state_line}
use Rattle.server_zone.specs.States.{Digest, Follows, HoldsZone, IsRestKept, OfLine, RefusesLine, applied_line, state_of}
use Rattle.server_zone.specs.declared.open_zone.Applied.{Applied}
use Rattle.server_zone.specs.declared.open_zone.Zone.{Zone}
use Rattle.server_zone.specs.declared.refusals.OpenError.{OpenError}
use Rattle.server_zone.specs.declared.refusals.Refusal.{Refusal}
use Rattle.server_zone_octets.specs.Texts.{applied_text, refusal_text}
use Rattle.server_zone_octets.specs.declared.code.ZoneCode.{ZoneCode}
use Rattle.server_zone_octets.specs.declared.code.ZoneCode.TheVariants as c
use Rattle.server_zone_octets.specs.declared.report.ZoneReport.{ZoneReport}
use Rattle.server_zone_octets.specs.Telling.{IsShown, IsUnknown, CodeAndOctets, is_known, only, telling, told_report}

-- ---- what is told

-- of an accepted line what the bench prints; or that memory ran out for that
abbrev pub IsToldApplied : Applied → CodeAndOctets → Type 0
IsToldApplied a said = (said ≡ telling c.Done (applied_text a)) ⊎ (said ≡ only c.Untold)

-- of a refusal the same; want of memory has a code of its own, and may come for the text, too
abbrev pub IsToldRefused : Refusal → CodeAndOctets → Type 0
IsToldRefused f said = ((is_memory f ≡ false) × (said ≡ telling c.Refused (refusal_text f))) ⊎ (said ≡ only c.OutOfMemory)

-- ---- a line

-- an accepted line: the state is that behind it, the zone is one of accepted records, and nothing else of it has changed
pub record SaysAccepted {S H : Type 0} (digest : Digest) (hash : Hasher) (line : List ℕ) (old new : Zone S H) (said : CodeAndOctets) : Type 0 where
  pub a : Applied
  pub follows : OfLine (λ l. Follows digest hash old.publisher.latest (state_of old) l a (state_of new)) (state_line line)
  pub behind : applied_line digest (state_of old) line ≡ Some (state_of new)
  pub rest : IsRestKept old.publisher new.publisher
  pub holds : HoldsZone hash old → HoldsZone hash new
  pub told : IsToldApplied a said

-- a refused line: the state and the publisher are as before, and so the zone is one of accepted records
pub record SaysRefused {S H : Type 0} (digest : Digest) (hash : Hasher) (line : List ℕ) (old new : Zone S H) (said : CodeAndOctets) : Type 0 where
  pub f : Refusal
  pub refuses : RefusesLine digest hash old.publisher.latest (state_of old) line f
  pub state : state_of new ≡ state_of old
  pub publisher : new.publisher ≡ old.publisher
  pub holds : HoldsZone hash old → HoldsZone hash new
  pub told : IsToldRefused f said

abbrev pub SaysApplied : {S H : Type 0} → Digest → Hasher → List ℕ → Zone S H → Zone S H → CodeAndOctets → Type 0
SaysApplied digest hash line old new said = SaysAccepted digest hash line old new said ⊎ SaysRefused digest hash line old new said

-- what is told, in front of what was there if there is room
pub record IsLineTold {S H : Type 0} (digest : Digest) (hash : Hasher) (line : List ℕ) (old new : Zone S H) (report : ZoneReport) (before after : List ℕ) (code : ZoneCode) : Type 0 where
  pub said : CodeAndOctets
  pub says : SaysApplied digest hash line old new said
  pub code_is : code ≡ said.code
  pub report_is : report ≡ told_report (length said.octets)
  pub shown : IsShown said.octets before after

-- what applying a line gives a caller in octets
pub record AppliesLine {S H : Type 0} (digest : Digest) (hash : Hasher) (line : List ℕ) (old new : Zone S H) (report report' : ZoneReport) (before after : List ℕ) (code : ZoneCode) : Type 0 where
  pub known : is_known report ≡ true → IsLineTold digest hash line old new report' before after code
  pub unknown : is_known report ≡ false → IsUnknown report report' before after code × (new ≡ old)

-- ---- a journal

-- A zone that is opened, and what its report says: how many octets its whole lines have, and the last of these octets at which a line
-- ends behind which no records are gathered.
pub record OpensAs {S H : Type 0} (digest : Digest) (hash : Hasher) (scheme : S) (hasher : H) (journal : List ℕ) (report : ZoneReport) (z : Zone S H) : Type 0 where
  pub state : journal_state digest journal ≡ Some (state_of z)
  pub opens_again : IsJournalOf digest hash journal (state_of z)
  pub fresh : IsFresh hash scheme hasher z
  pub whole : journal ≡ take report.whole journal ++ unfinished journal
  pub settled : IsSettledAt digest journal report.settled
  pub inside : (report.settled ≤ report.whole) × (report.whole ≤ length journal)
  pub last : NoneSettledBehind digest journal report.settled report.whole
  pub all : (state_of z).gathered ≡ [] → report.settled ≡ report.whole
  pub report_is : report ≡ record (told_report 0) { whole = report.whole; settled = report.settled }

-- a journal that is refused, and what is told
pub record SaysUnopened (digest : Digest) (hash : Hasher) (journal : List ℕ) (report : ZoneReport) (before after : List ℕ) (code : ZoneCode) : Type 0 where
  pub e : OpenError
  pub is_error : IsOpenError digest hash journal e
  pub said : CodeAndOctets
  pub told : IsToldRefused e.reason said
  pub code_is : code ≡ said.code
  pub report_is : report ≡ record (told_report (length said.octets)) { line = e.number }
  pub shown : IsShown said.octets before after

pub record RefusesOpening (digest : Digest) (hash : Hasher) (journal : List ℕ) (report report' : ZoneReport) (before after : List ℕ) (code : ZoneCode) : Type 0 where
  pub known : is_known report ≡ true → SaysUnopened digest hash journal report' before after code
  pub unknown : is_known report ≡ false → IsUnknown report report' before after code
