-- What is told, and where it is written.
use Rattle.std.specs.Prelude.{◌≡◌, ℕ, ◌<◌, ◌≤◌, ◌==◌, Bool, true, false, List, [], ◌++◌, drop, length}
use Rattle.server_zone_octets.specs.declared.code.ZoneCode.{ZoneCode}
use Rattle.server_zone_octets.specs.declared.code.ZoneCode.TheVariants as c
use Rattle.server_zone_octets.specs.declared.report.ZoneReport.{ZoneReport}
use Rattle.server_zone_octets.specs.declared.told.CodeAndOctets.{CodeAndOctets as CodeTold}

-- a code and octets
pub record CodeAndOctets : Type 0 where
  pub code : ZoneCode
  pub octets : List ℕ

abbrev pub telling : ZoneCode → List ℕ → CodeAndOctets
telling code octets = record { code = code; octets = octets }

-- a code alone
abbrev pub only : ZoneCode → CodeAndOctets
only code = telling code []

abbrev pub told_seen : CodeTold → CodeAndOctets
told_seen t = telling t.code t.octets.items

-- the size of a report, the only one that is known
abbrev pub report_size : ℕ
report_size = 40

abbrev pub is_known : ZoneReport → Bool
is_known r = r.size == report_size

-- a report of so many octets
abbrev pub told_report : ℕ → ZoneReport
told_report n = record { size = report_size; len = n; line = 0; whole = 0; settled = 0 }

-- octets in front of what was there, where there is room for them all; else what was there
pub record IsPut (octets old new : List ℕ) (fits : Bool) : Type 0 where
  pub room : length octets ≤ length old → (fits ≡ true) × (new ≡ octets ++ drop (length octets) old)
  pub small : length old < length octets → (fits ≡ false) × (new ≡ old)

-- the same, whether there is room or not
pub record IsShown (octets old new : List ℕ) : Type 0 where
  pub fits : Bool
  pub is_put : IsPut octets old new fits

-- what is told in front of what was there, where there is room for it all; the report says of how
-- many octets
pub record IsHandedOut (t : CodeAndOctets) (old new : List ℕ) (report : ZoneReport) (code : ZoneCode) : Type 0 where
  pub report_is : report ≡ told_report (length t.octets)
  pub room : length t.octets ≤ length old → (code ≡ t.code) × (new ≡ t.octets ++ drop (length t.octets) old)
  pub small : length old < length t.octets → (code ≡ c.BufferTooSmall) × (new ≡ old)

-- a call whose report has a size that is not known: nothing is written
pub record IsUnknown (before after : ZoneReport) (old new : List ℕ) (code : ZoneCode) : Type 0 where
  pub code_is : code ≡ c.BadCall
  pub report_is : after ≡ before
  pub octets_are : new ≡ old
