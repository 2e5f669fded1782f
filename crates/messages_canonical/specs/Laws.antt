-- Laws of canonical forms.
use Rattle.std.specs.Prelude.{◌≡◌, ℕ, ◌+◌, ◌≤◌, ◌<◌, true, List, [], ◌∷◌, length, Some, Ok}
use Rattle.std.specs.List.{AllByRecursion}
use Rattle.definitions.specs.Limits.{pointer_limit}
use Rattle.messages.specs.Message.{Message, Spelled, canonical_data, data_of, message}
use Rattle.messages.specs.WrittenLaws.{ReadsBack}
use Rattle.messages_canonical.specs.Canonical.{canonical_octets, canonical_rdata, canonical_records, most_octets}
use Rattle.messages_canonical.specs.Forms.{is_among}
use Rattle.messages_canonical.specs.InForm.{has_form, is_in_form}

-- what is written in canonical form, where it isn't too long
abbrev pub CanonicalReadsBack : Type 0
CanonicalReadsBack =
    (m : List ℕ) (read : Message) → AllByRecursion (λ x. x < 256) m → message pointer_limit m ≡ Ok read
    → length (canonical_octets pointer_limit m read) ≤ most_octets
    → ReadsBack (canonical_octets pointer_limit m read) read.asked (canonical_records pointer_limit m read.records)

-- data that are in form by themselves are so wherever they stand in a message
abbrev pub DataStayInForm : Type 0
DataStayInForm =
    (m : List ℕ) (r : Spelled) → r.start + r.length ≤ length m → has_form r.rtype (data_of m r) ≡ true → is_in_form pointer_limit m r ≡ true

-- NS, SOA and NSEC data that read as their type's read in canonical form, however they stand
abbrev pub NamesAreReadSo : Type 0
NamesAreReadSo =
    (m : List ℕ) (r : Spelled) (d : List ℕ) → is_among r.rtype (2 ∷ 6 ∷ 47 ∷ []) ≡ true → canonical_data pointer_limit m r ≡ Some d
    → canonical_rdata pointer_limit m r ≡ d
