-- What is told of a master file.
use Rattle.std.specs.Prelude.{◌≡◌, ◌⊎◌, ℕ, ◌==◌, ◌&&◌, Bool, true, false, List, length}
use Rattle.master_files.specs.Reading.{AreZoneLines}
use Rattle.master_files.specs.declared.fault.ZoneFileError.{ZoneFileError}
use Rattle.master_files.specs.declared.fault.ZoneFileError.TheVariants as file
use Rattle.server_zone_octets.specs.declared.code.ZoneCode.{ZoneCode}
use Rattle.server_zone_octets.specs.declared.code.ZoneCode.TheVariants as c
use Rattle.server_zone_octets.specs.declared.master.OctetMaster.{OctetMaster}
use Rattle.server_zone_octets.specs.declared.report.ZoneReport.{ZoneReport}
use Rattle.server_zone_octets.specs.Telling.{IsHandedOut, IsShown, IsUnknown, CodeAndOctets, is_known, only, telling, told_report}

-- memory ran out
abbrev pub is_file_memory : ZoneFileError → Bool
is_file_memory file.Memory = true
is_file_memory _ = false

-- the line that is refused; 0 where it is none
abbrev pub line_of : ZoneFileError → ℕ
line_of (file.Line line fault) = line
line_of _ = 0

-- why a file is refused is said in words; want of memory has a code of its own, and may come for the words, too
abbrev pub IsToldFault : ZoneFileError → CodeAndOctets → Type 0
IsToldFault f said = ((is_file_memory f ≡ false) × (said ≡ telling c.Refused said.octets)) ⊎ (said ≡ only c.OutOfMemory)

-- the lines of the file's records, handed out
pub record IsMasterTold (chain apex : List ℕ) (report : ZoneReport) (before after : List ℕ) (code : ZoneCode) : Type 0 where
  pub lines : List ℕ
  pub are : AreZoneLines chain apex lines
  pub handed_out : IsHandedOut (telling c.Done lines) before after report code

-- a file that is refused, and what is told of it
pub record IsMasterRefused (report : ZoneReport) (before after : List ℕ) (code : ZoneCode) : Type 0 where
  pub f : ZoneFileError
  pub said : CodeAndOctets
  pub told : IsToldFault f said
  pub code_is : code ≡ said.code
  pub report_is : report ≡ record (told_report (length said.octets)) { line = line_of f }
  pub shown : IsShown said.octets before after

abbrev pub TellsMaster : OctetMaster → ZoneReport → List ℕ → List ℕ → ZoneCode → Type 0
TellsMaster m report before after code =
    IsMasterTold m.chain.now m.apex.now report before after code ⊎ IsMasterRefused report before after code

abbrev pub master_size : ℕ
master_size = 72

abbrev pub is_known_call : OctetMaster → ZoneReport → Bool
is_known_call m report = is_known report && (m.size == master_size)

pub record SaysMaster (m : OctetMaster) (report report' : ZoneReport) (before after : List ℕ) (code : ZoneCode) : Type 0 where
  pub known : is_known_call m report ≡ true → TellsMaster m report' before after code
  pub unknown : is_known_call m report ≡ false → IsUnknown report report' before after code
