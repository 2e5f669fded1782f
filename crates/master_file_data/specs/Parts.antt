-- What the parts of data are.
use Rattle.std.specs.Prelude.{◌≡◌, ◌⊎◌, IsSomeAnd, MatchBool, ℕ, Bool, true, false, List, [], ◌∷◌, ◌++◌, codes, length, Option, Ok}
use Rattle.std.specs.Int.{w16, w32, to_be_bytes}
use Rattle.std.specs.Net.Addr.{ipv6_octets}
use Rattle.std.specs.Net.Grammar.{IsDotted, IsIpv6Text}
use Rattle.std.specs.declared.net.ipv6_addr.Ipv6Addr.{Ipv6Addr}
use Rattle.hex.specs.Hex.{decode_of}
use Rattle.base64.specs.Engines.{standard}
use Rattle.base64.specs.GeneralPurpose.{encode_of}
use Rattle.definitions.specs.Name.{Name, low, wire}
use Rattle.master_file_data.specs.declared.field.Field.{Field}
use Rattle.master_file_data.specs.declared.layout.Part.{Part}
use Rattle.master_file_data.specs.declared.layout.Part.TheVariants as p
use Rattle.master_file_data.specs.Decimals.{IsDecimal}
use Rattle.master_file_data.specs.Layouts.{parts_of}
use Rattle.master_file_data.specs.Fields.{IsNameOf, joined, text_of}
use Rattle.master_file_data.specs.Text.{Spells, SpellsCounted}

-- the text writes an IPv6 address of these octets
abbrev pub IsIpv6Octets : List ℕ → List ℕ → Type 0
IsIpv6Octets text os = (a : Ipv6Addr) × (IsIpv6Text text a × (os ≡ ipv6_octets a))

-- the field is a name, and these are its octets; or these in lower case
abbrev pub IsNameData : Option Name → Field → List ℕ → Type 0
IsNameData origin f os = (n : Name) × (IsNameOf origin f n × (os ≡ wire n))

abbrev pub IsLowerNameData : Option Name → Field → List ℕ → Type 0
IsLowerNameData origin f os = (n : Name) × (IsNameOf origin f n × (os ≡ wire (low n)))

-- the text writes a number of one, two or four octets
abbrev pub IsNumberData : Part → List ℕ → List ℕ → Type 0
IsNumberData p.Number8 text os = (n : ℕ) × (IsDecimal 8 text n × (os ≡ n ∷ []))
IsNumberData p.Number16 text os = (n : ℕ) × (IsDecimal 16 text n × (os ≡ to_be_bytes w16 n))
IsNumberData p.Number32 text os = (n : ℕ) × (IsDecimal 32 text n × (os ≡ to_be_bytes w32 n))
IsNumberData _ text os = Unit {0}

-- the text writes a text, behind its length or not
abbrev pub IsValueData : Part → List ℕ → List ℕ → Type 0
IsValueData p.Text text os = SpellsCounted text os
IsValueData p.Value text os = Spells text os
IsValueData p.SomeValue text os = Spells text os
IsValueData _ text os = Unit {0}

-- a field is a part, and these are its octets, where that is said: of names, numbers, addresses and texts
abbrev pub IsPart : Part → Option Name → Field → List ℕ → Type 0
IsPart p.Name origin f os = IsNameData origin f os
IsPart p.LowerName origin f os = IsLowerNameData origin f os
IsPart p.Ipv4 origin f os = IsDotted (text_of f) os
IsPart p.Ipv6 origin f os = IsIpv6Octets (text_of f) os
IsPart p.Number8 origin f os = IsNumberData p.Number8 (text_of f) os
IsPart p.Number16 origin f os = IsNumberData p.Number16 (text_of f) os
IsPart p.Number32 origin f os = IsNumberData p.Number32 (text_of f) os
IsPart p.Text origin f os = IsValueData p.Text (text_of f) os
IsPart p.Value origin f os = IsValueData p.Value (text_of f) os
IsPart p.SomeValue origin f os = IsValueData p.SomeValue (text_of f) os
IsPart _ origin f os = Unit {0}

-- texts, each behind its length
abbrev pub AreTexts : List Field → List ℕ → Type 0
AreTexts [] os = os ≡ []
AreTexts (f ∷ fs) os = (head tail : List ℕ) × (SpellsCounted (text_of f) head × AreTexts fs tail × (os ≡ head ++ tail))

-- fields are a part, and these are its octets, where that is said: of texts and of digits
abbrev pub IsAll : Part → List Field → List ℕ → Type 0
IsAll p.Texts fs os = AreTexts fs os
IsAll p.Hexadecimal fs os = decode_of (joined fs) ≡ Ok os
IsAll p.Base64 fs os = joined fs ≡ encode_of standard os
IsAll _ fs os = Unit {0}

-- a part is of all fields that are left
abbrev pub takes_all : Part → Bool
takes_all p.Texts = true
takes_all p.Hexadecimal = true
takes_all p.Base64 = true
takes_all p.Types = true
takes_all p.Prefixes = true
takes_all p.Location = true
takes_all p.Parameters = true
takes_all _ = false

-- a part is of one field, or of all that are left; and these stand behind it
abbrev pub TakesOne : Part → Option Name → List Field → List ℕ → List Field → Type 0
TakesOne p origin [] os behind = ⊥
TakesOne p origin (f ∷ fs) os behind = IsPart p origin f os × (behind ≡ fs)

abbrev pub TakesPart : Part → Option Name → List Field → List ℕ → List Field → Type 0
TakesPart p origin fs os behind = MatchBool (takes_all p) (IsAll p fs os × (behind ≡ [])) (TakesOne p origin fs os behind)

-- the fields are these parts, and these are their octets
abbrev pub AreParts : List Part → Option Name → List Field → List ℕ → Type 0
AreParts [] origin fs os = (fs ≡ []) × (os ≡ [])
AreParts (p ∷ ps) origin fs os =
    (head tail : List ℕ) × (behind : List Field) × (TakesPart p origin fs head behind × AreParts ps origin behind tail × (os ≡ head ++ tail))

-- data of any type: the number of octets, and these in hexadecimal (RFC 3597, 5)
pub record IsGeneric (count : Field) (digits : List Field) (os : List ℕ) : Type 0 where
  pub octets : decode_of (joined digits) ≡ Ok os
  pub number : IsDecimal 32 (text_of count) (length os)

-- the fields say data of any type
abbrev pub IsGenericData : List Field → List ℕ → Type 0
IsGenericData [] os = ⊥
IsGenericData (f ∷ []) os = ⊥
IsGenericData (f ∷ g ∷ fs) os = (text_of f ≡ codes "\\#") × IsGeneric g fs os

-- the fields say data of the type: octets, or its parts
abbrev pub IsDataOf : ℕ → Option Name → List Field → List ℕ → Type 0
IsDataOf rtype origin fs os = IsGenericData fs os ⊎ IsSomeAnd (parts_of rtype) (λ ps. AreParts ps origin fs os)
