-- Where names stand in data, by type (RFC 4034, 6.2; RFC 6840, 5.1; RFC 3597, 7).
use Rattle.std.specs.Prelude.{ℕ, Bool, ◌==◌, List, [], ◌∷◌, if◌then◌else◌}
use Rattle.std.specs.List.{list_any}
use Rattle.messages_canonical.specs.declared.form.Part.{Part}
use Rattle.messages_canonical.specs.declared.form.Part.TheVariants.{Octets, Text, Suffix, Lowered, Kept, Rest}

abbrev pub is_among : ℕ → List ℕ → Bool
is_among t types = list_any (λ x. t == x) types

-- NS, MD, MF, CNAME, MB, MG, MR, PTR (RFC 1035, 3.3), DNAME (RFC 6672, 2.1)
abbrev pub one_name : List ℕ
one_name = 2 ∷ 3 ∷ 4 ∷ 5 ∷ 7 ∷ 8 ∷ 9 ∷ 12 ∷ 39 ∷ []

-- MINFO (RFC 1035, 3.3.7), RP (RFC 1183, 2.2)
abbrev pub two_names : List ℕ
two_names = 14 ∷ 17 ∷ []

-- MX (RFC 1035, 3.3.9), AFSDB and RT (RFC 1183, 1 and 3.3), KX (RFC 2230, 3.1)
abbrev pub name_behind_a_number : List ℕ
name_behind_a_number = 15 ∷ 18 ∷ 21 ∷ 36 ∷ []

-- an address behind a prefix, which a name gives where there is one (RFC 2874, 3.1)
abbrev pub address_form : ℕ → List Part
address_form prefix = if prefix == 0 then Suffix ∷ [] else Suffix ∷ Lowered ∷ []

-- the parts of a type's data, by the first octet of these too; data of other types have no names
abbrev pub form_of : ℕ → ℕ → List Part
form_of t first =
    if is_among t one_name then Lowered ∷ [] else
    if t == 6 then Lowered ∷ Lowered ∷ Octets 20 ∷ [] else
    if is_among t two_names then Lowered ∷ Lowered ∷ [] else
    if is_among t name_behind_a_number then Octets 2 ∷ Lowered ∷ [] else
    if t == 24 then Octets 18 ∷ Lowered ∷ Rest ∷ [] else
    if t == 26 then Octets 2 ∷ Lowered ∷ Lowered ∷ [] else
    if t == 30 then Lowered ∷ Rest ∷ [] else
    if t == 33 then Octets 6 ∷ Lowered ∷ [] else
    if t == 35 then Octets 4 ∷ Text ∷ Text ∷ Text ∷ Lowered ∷ [] else
    if t == 38 then address_form first else
    if t == 46 then Octets 18 ∷ Kept ∷ Rest ∷ [] else
    if t == 47 then Kept ∷ Rest ∷ [] else
    Rest ∷ []
