-- NSEC data, read in a message and as text (RFC 4034, 4.1 and 4.2).
use Rattle.std.specs.Prelude.{ℕ, List, ◌++◌, Option, Some, None}
use Rattle.names_rdata.specs.Reading.{Part, name_part, two_parts, limited}
use Rattle.denial_nsec_data.specs.Bitmaps.{bitmap_part, types_field}
use Rattle.denial_nsec_data.specs.NsecData.{NsecData}

abbrev pub nsec_part : Part
nsec_part = limited (two_parts name_part bitmap_part)

-- a name's text before others
abbrev pub named_text : Option (List ℕ) → List ℕ → Option (List ℕ)
named_text (Some name) text = Some (name ++ text)
named_text None text = None

-- the next name as it is printed, and the types
abbrev pub nsec_text : {N : Type 0} → (N → Option (List ℕ)) → NsecData N → Option (List ℕ)
nsec_text text d = named_text (text d.next_name) (types_field d.types)
