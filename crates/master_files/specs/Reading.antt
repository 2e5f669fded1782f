-- What a master file becomes.
use Rattle.std.specs.Prelude.{◌≡◌, ℕ, ◌⊎◌, true, List, [], ◌∷◌, ◌++◌, Option, None, IfSome, string_bytes}
use Rattle.std.specs.List.{list_all}
use Rattle.std.specs.Str.{chars}
use Rattle.definitions.specs.Name.{Name, same}
use Rattle.definitions.specs.Text.{is_printable, name_of_text}
use Rattle.master_files.specs.declared.zone_file.Zone.{Zone}
use Rattle.master_files.specs.Lines.{FileRecord, HasSoa, record_lines, zone_lines}

-- the name of a text that may be empty
abbrev pub given_name : List ℕ → Option Name
given_name [] = None
given_name (c ∷ cs) = name_of_text (chars (c ∷ cs))

-- a name is the one that is wanted, if one is
abbrev pub IsWanted : Option Name → Name → Type 0
IsWanted wanted apex = IfSome wanted (λ name. same apex name ≡ true)

-- The lines of the records of a master file, one of which is an SOA record of the apex: behind the line of the zone, if words of a chain
-- are given. If an apex is given, it is this one.
pub record AreZoneLines (chain apex : List ℕ) (text : List ℕ) : Type 0 where
  pub name : Name
  pub records : List FileRecord
  pub text_is : text ≡ zone_lines name chain ++ record_lines records
  pub soa : HasSoa name records
  pub wanted : IsWanted (given_name apex) name
  pub words : list_all is_printable chain ≡ true

-- what has been read: the lines of records, the name that the apex is to be, and the apex
pub record Read : Type 0 where
  pub lines : List ℕ
  pub wanted : Option Name
  pub apex : Option Name

abbrev pub read_of : Zone → Read
read_of z = record { lines = string_bytes z.lines; wanted = z.wanted; apex = z.apex }

-- the apex is the name that is wanted, and has an SOA record
abbrev pub IsApex : Option Name → List FileRecord → Name → Type 0
IsApex wanted records name = IsWanted wanted name × HasSoa name records

-- the lines are those of these records
pub record HasRead (wanted : Option Name) (read : Read) (records : List FileRecord) : Type 0 where
  pub lines : read.lines ≡ record_lines records
  pub wants : read.wanted ≡ wanted
  pub apex : IfSome read.apex (IsApex wanted records)

-- what an entry adds: records, and maybe the apex
pub record ReadsOn (old new : Read) : Type 0 where
  pub added : List FileRecord
  pub lines : new.lines ≡ old.lines ++ record_lines added
  pub wants : new.wanted ≡ old.wanted
  pub apex : (new.apex ≡ old.apex) ⊎ IfSome new.apex (IsApex new.wanted added)

-- what a record of a type adds to the apex: an SOA record its owner, if it is wanted
abbrev pub NotesApex : ℕ → Zone → Zone → Type 0
NotesApex rtype old new = (new.apex ≡ old.apex) ⊎ ((rtype ≡ 6) × (new.apex ≡ old.owner) × IfSome new.apex (IsWanted old.wanted))
