-- Messages as whoever verifies signatures is to see them: as they were received where that is enough, else in canonical form.
use Rattle.std.specs.Prelude.{◌≡◌, ℕ, ◌<◌, Bool, true, false, ◌||◌, List, [], ◌∷◌, length, Ok, Err, ⊤}
use Rattle.std.specs.List.{list_all}
use Rattle.std.specs.Str.{bytes_eq}
use Rattle.definitions.specs.Limits.{pointer_limit}
use Rattle.messages.specs.HandedRr.{HandedRr}
use Rattle.messages.specs.Message.{Message, Spelled, data_of, message}
use Rattle.messages_canonical.specs.declared.error.CanonicalError.{CanonicalError}
use Rattle.messages_canonical.specs.declared.error.CanonicalError.TheVariants as e
use Rattle.messages_canonical.specs.Forms.{is_among}
use Rattle.messages_canonical.specs.Canonical.{IsCanonical, canonical_octets, canonical_rdata, is_canonical_data, most_octets}

-- NS, SOA, RRSIG and NSEC: whoever makes signed octets of their data reads the names in these, however they stand
abbrev pub read_by_name : List ℕ
read_by_name = 2 ∷ 6 ∷ 46 ∷ 47 ∷ []

-- the data of a record are seen in canonical form: names in them are read as names, or they stand so
abbrev pub is_in_form : ℕ → List ℕ → Spelled → Bool
is_in_form k m r = is_among r.rtype read_by_name || bytes_eq (canonical_rdata k m r) (data_of m r)

abbrev pub are_in_form : ℕ → List ℕ → List Spelled → Bool
are_in_form k m rs = list_all (is_in_form k m) rs

-- octets by themselves are data of a type in form
abbrev pub has_form : ℕ → List ℕ → Bool
has_form t octets = is_among t read_by_name || is_canonical_data pointer_limit t octets

-- a record of a zone has data in form, by themselves
abbrev pub is_record_in_form : HandedRr → Bool
is_record_in_form r = has_form r.rtype r.bytes

-- a message as it stands, if all its data are in form, or else its canonical form
abbrev pub IsFormOf : Bool → List ℕ → List ℕ → Type 0
IsFormOf true m octets = octets ≡ m
IsFormOf false m octets = IsCanonical m octets

-- what doesn't read is seen as it stands
abbrev pub IsInForm : List ℕ → List ℕ → Type 0
IsInForm m octets = elim (message pointer_limit m) [
  | Err fault ↦ octets ≡ m
  | Ok read ↦ IsFormOf (are_in_form pointer_limit m read.records) m octets
]

-- its data aren't all in form, and it would have more octets in canonical form than a message may have
pub record GrowsTooLong (m : List ℕ) : Type 0 where
  pub read : Message
  pub reads : message pointer_limit m ≡ Ok read
  pub unlike : are_in_form pointer_limit m read.records ≡ false
  pub long : most_octets < length (canonical_octets pointer_limit m read)

-- why a message can't be seen so
abbrev pub HasNoForm : List ℕ → CanonicalError → Type 0
HasNoForm m (e.Message fault) = ⊥
HasNoForm m e.TooLong = GrowsTooLong m
HasNoForm m e.Memory = ⊤
