-- Data and messages in canonical form. The first argument is how many pointers may be followed in a name.
use Rattle.std.specs.Prelude.{◌≡◌, ℕ, ◌+◌, ◌-◌, ◌<◌, ◌≤◌, ◌/◌, Bool, true, false, List, [], ◌∷◌, ◌++◌, length, map, take, Option, Some, None, Ok, Err, slice_get, slice_range, slice_index, nat_le, nat_eq, unwrap_or, ⊤}
use Rattle.std.specs.List.{flat_map}
use Rattle.std.specs.Option.{option_map}
use Rattle.std.specs.Str.{bytes_eq}
use Rattle.definitions.specs.Name.{wire, low}
use Rattle.definitions.specs.Limits.{pointer_limit}
use Rattle.messages.specs.Message.{Asked, Message, Spelled, behind, data_of, if_true, message, name_upto}
use Rattle.messages.specs.Written.{Written, question_octets, record_octets, written}
use Rattle.messages.specs.WrittenLaws.{ReadsBack}
use Rattle.messages_canonical.specs.declared.error.CanonicalError.{CanonicalError}
use Rattle.messages_canonical.specs.declared.error.CanonicalError.TheVariants as e
use Rattle.messages_canonical.specs.declared.form.Part.{Part}
use Rattle.messages_canonical.specs.declared.form.Part.TheVariants.{Octets, Text, Suffix, Lowered, Kept, Rest}
use Rattle.messages_canonical.specs.Forms.{form_of}

-- ---- parts of data

-- how many octets hold the bits behind a prefix of at most 128 bits, behind its length (RFC 2874, 3.1)
abbrev pub suffix_width : ℕ → Option ℕ
suffix_width prefix = if_true (nat_le prefix 128) (1 + (135 - prefix) / 8)

-- how many octets a part has that stands at a place, in front of a limit; None where its own octets don't say
abbrev pub width_at : List ℕ → ℕ → Part → ℕ → Option ℕ
width_at m limit (Octets n) p = Some n
width_at m limit Text p = option_map (λ n. 1 + n) (slice_get m p)
width_at m limit Suffix p = elim (slice_get m p) [ None ↦ None | Some n ↦ suffix_width n ]
width_at m limit Rest p = Some (limit - p)
width_at m limit Lowered p = None
width_at m limit Kept p = None

-- octets as they stand, and the place behind them
abbrev pub octets_upto : List ℕ → ℕ → ℕ → Option ℕ → Option (List ℕ × ℕ)
octets_upto m limit p None = None
octets_upto m limit p (Some n) = if_true (nat_le (p + n) limit) (slice_range m p (p + n), p + n)

-- a part at a place in canonical form, and the place behind it; it ends by the limit
abbrev pub part_at : ℕ → List ℕ → ℕ → Part → ℕ → Option (List ℕ × ℕ)
part_at k m limit Lowered p = option_map (λ n. (wire (low n.0), n.1)) (name_upto k m p limit)
part_at k m limit Kept p = option_map (λ n. (wire n.0, n.1)) (name_upto k m p limit)
part_at k m limit part p = octets_upto m limit p (width_at m limit part p)

abbrev pub in_front : List ℕ → Option (List ℕ) → Option (List ℕ)
in_front octets rest = option_map (λ more. octets ++ more) rest

-- parts, one behind another, up to the limit
abbrev pub parts_at : ℕ → List ℕ → ℕ → List Part → ℕ → Option (List ℕ)
parts_at k m limit [] p = if_true (nat_eq p limit) []
parts_at k m limit (part ∷ parts) p = elim (part_at k m limit part p) [ None ↦ None | Some d ↦ in_front d.0 (parts_at k m limit parts d.1) ]

-- the data of a record, as their type's form reads them; None where it doesn't
abbrev pub formed_data : ℕ → List ℕ → Spelled → Option (List ℕ)
formed_data k m r = elim (nat_le (behind r) (length m)) [
  | false ↦ None
  | true ↦ parts_at k m (behind r) (form_of r.rtype (slice_index m r.start)) r.start
]

-- The data of a record in canonical form: names in full, and in lower case where signatures are made over lower case
-- (RFC 4034, 6.2; RFC 6840, 5.1). What the type's form doesn't read stays as it is.
abbrev pub canonical_rdata : ℕ → List ℕ → Spelled → List ℕ
canonical_rdata k m r = unwrap_or (formed_data k m r) (data_of m r)

-- octets by themselves are data of a type in canonical form: the form reads them, and gives them as they are
abbrev pub is_canonical_data : ℕ → ℕ → List ℕ → Bool
is_canonical_data k t octets = elim (parts_at k octets (length octets) (form_of t (slice_index octets 0)) 0) [ None ↦ false | Some d ↦ bytes_eq d octets ]

-- ---- messages

-- a record with other data
abbrev pub with_data : Spelled → List ℕ → Written
with_data r octets = written r.owner r.rtype r.class r.ttl octets

-- a record with its own data in canonical form
abbrev pub canonical_record : ℕ → List ℕ → Spelled → Written
canonical_record k m r = with_data r (canonical_rdata k m r)

abbrev pub canonical_records : ℕ → List ℕ → List Spelled → List Written
canonical_records k m rs = map (canonical_record k m) rs

-- the header as it stands, and the question
abbrev pub head_octets : List ℕ → Asked → List ℕ
head_octets m asked = take 12 m ++ question_octets asked.name asked.rtype asked.class

-- the octets of a message that was read, in canonical form: behind these the records of all sections in order
abbrev pub canonical_octets : ℕ → List ℕ → Message → List ℕ
canonical_octets k m read = head_octets m read.asked ++ flat_map record_octets (canonical_records k m read.records)

-- how many octets a message has at most (RFC 1035, 4.2.2)
abbrev pub most_octets : ℕ
most_octets = 65535

-- These octets are a message in canonical form. They read as the same question, as spelled, and the same records with data in
-- canonical form.
pub record IsCanonical (m octets : List ℕ) : Type 0 where
  pub read : Message
  pub reads : message pointer_limit m ≡ Ok read
  pub octets_are : octets ≡ canonical_octets pointer_limit m read
  pub short : length octets ≤ most_octets
  pub back : ReadsBack octets read.asked (canonical_records pointer_limit m read.records)

-- it would have more octets than a message may have
pub record IsTooLong (m : List ℕ) : Type 0 where
  pub read : Message
  pub reads : message pointer_limit m ≡ Ok read
  pub long : most_octets < length (canonical_octets pointer_limit m read)

-- why a message has no canonical form
abbrev pub HasNone : List ℕ → CanonicalError → Type 0
HasNone m (e.Message fault) = message pointer_limit m ≡ Err fault
HasNone m e.TooLong = IsTooLong m
HasNone m e.Memory = ⊤

-- ---- what is written so far

-- data that were put, or that don't read
abbrev pub PutsData : Bool → List ℕ → Option (List ℕ) → Type 0
PutsData true octets formed = formed ≡ Some octets
PutsData false octets formed = formed ≡ None

-- a part that was put behind others, up to a place
abbrev pub PutsPart : Option ℕ → List ℕ → List ℕ → Option (List ℕ × ℕ) → Type 0
PutsPart None old new part = part ≡ None
PutsPart (Some p) old new part = (octets : List ℕ) × (part ≡ Some (octets, p)) × (new ≡ old ++ octets)

-- octets that were written behind others, as many as a message may have; or it would have more
abbrev pub Writes : Bool → List ℕ → List ℕ → List ℕ → Type 0
Writes true old new more = (new ≡ old ++ more) × (length new ≤ most_octets)
Writes false old new more = most_octets < length old + length more
