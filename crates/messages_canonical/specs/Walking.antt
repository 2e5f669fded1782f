-- What a walk over a message finds, where the message reads.
use Rattle.std.specs.Prelude.{◌≡◌, ℕ, ◌≤◌, Bool, ◌||◌, List, ◌++◌, Option, Some, Ok, slice_range, slice_index, unwrap_or}
use Rattle.std.specs.Str.{bytes_eq, str_to_ascii_lowercase}
use Rattle.definitions.specs.Limits.{pointer_limit}
use Rattle.definitions.specs.Name.{Name, low, wire}
use Rattle.definitions.specs.Reading.{Reads}
use Rattle.messages.specs.Message.{Message, Spelled, behind, message, name_upto, owner_at, record_at, records_at}
use Rattle.messages_canonical.specs.Forms.{form_of, is_among}
use Rattle.messages_canonical.specs.Canonical.{parts_at}
use Rattle.messages_canonical.specs.InForm.{are_in_form, read_by_name}

-- a name that reads at a place ends at this one
abbrev pub EndsName : List ℕ → ℕ → Option ℕ → Type 0
EndsName m p found = (n : Name) (e : ℕ) → Reads m p pointer_limit n e → found ≡ Some e

-- a record that reads at a place has its data here: its type, where they begin, and the place behind them
abbrev pub Passes : List ℕ → ℕ → Option (ℕ × ℕ × ℕ) → Type 0
Passes m p found = (r : Spelled) (e : ℕ) → record_at pointer_limit m p ≡ Ok (r, e) → found ≡ Some (r.rtype, r.start, e)

-- the records of a message that reads stand from a place on, so many
abbrev pub FindsRecords : List ℕ → Option (ℕ × ℕ) → Type 0
FindsRecords m found =
    (read : Message) → message pointer_limit m ≡ Ok read
    → (first count : ℕ) × (found ≡ Some (first, count)) × (records_at count pointer_limit m first ≡ Ok read.records)

-- of a message that reads it is told whether its data are in form
abbrev pub TellsForm : List ℕ → Bool → Type 0
TellsForm m said = (read : Message) → message pointer_limit m ≡ Ok read → said ≡ are_in_form pointer_limit m read.records

-- a name that reads at a place is put in full behind what was there
abbrev pub PutsName : List ℕ → ℕ → List ℕ → List ℕ → Type 0
PutsName m p old new = (n : Name) (e : ℕ) → owner_at pointer_limit m p ≡ Ok (n, e) → new ≡ old ++ wire n

-- a record reads at a place
abbrev pub StandsAt : List ℕ → ℕ → Spelled → Type 0
StandsAt m p r = record_at pointer_limit m p ≡ Ok (r, behind r)

-- a name stands at a place with no pointer in it, and ends at another
pub record SpelledInFull (m : List ℕ) (p e : ℕ) : Type 0 where
  pub name : Name
  pub read : owner_at pointer_limit m p ≡ Ok (name, e)
  pub spelled : slice_range m p e ≡ wire name
  pub lowered : str_to_ascii_lowercase (slice_range m p e) ≡ wire (low name)
  pub onward : p ≤ e

-- a name stands at a place in full, and ends by a limit
pub record StandsInFull (m : List ℕ) (limit p e : ℕ) : Type 0 where
  pub name : Name
  pub read : name_upto pointer_limit m p limit ≡ Some (name, e)
  pub spelled : slice_range m p e ≡ wire name
  pub lowered : str_to_ascii_lowercase (slice_range m p e) ≡ wire (low name)
  pub onward : p ≤ e
  pub short : e ≤ limit

-- data of a type from a place up to a limit, within a message, are in form
abbrev pub data_in_form : ℕ → List ℕ → ℕ → ℕ → ℕ → Bool
data_in_form k m t start limit =
    let octets = slice_range m start limit in
    is_among t read_by_name || bytes_eq (unwrap_or (parts_at k m limit (form_of t (slice_index m start)) start) octets) octets
