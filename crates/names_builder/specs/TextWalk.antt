-- Texts of names, read in one walk over their octets (RFC 1035, 5.1).
use Rattle.std.specs.Prelude.{◌≡◌, ℕ, ◌<◌, Bool, List, ◌∷◌, length, take, Some}
use Rattle.std.specs.Option.{option_map}
use Rattle.std.specs.Str.{IsAscii}
use Rattle.definitions.specs.Name.{Name}
use Rattle.definitions.specs.Text.{Symbol, symbols_of, name_of_text, relative_of_text}
use Rattle.names_labels.specs.Flat.{spelled, SpellsName, SpellsRelative}
use Rattle.names_builder.specs.Building.{Building, IsShort, nothing, octets_of_building}
use Rattle.names_builder.specs.FromText.{GoesOn, standing, text_behind}

-- the symbol at the front of the text adds this octet to a label, and the rest stands behind it
pub record ReadsOctet (text : List ℕ) (in_label : Bool) (octet : ℕ) (rest : List ℕ) : Type 0 where
  pub symbol : Symbol
  pub reads : symbols_of text ≡ option_map (λ ss. symbol ∷ ss) (symbols_of rest)
  pub adds : GoesOn symbol in_label octet
  pub ascii : IsAscii rest → IsAscii text
  pub shorter : length rest < length text

-- The octets up to the end are the labels that the text spells, each behind its length. The last is of this length; it is
-- empty behind a last dot, and alone it is not.
pub record WritesLabels (text written : List ℕ) (end count : ℕ) : Type 0 where
  pub built : Building
  pub read : text_behind nothing text ≡ Some (standing built)
  pub short : IsShort built
  pub some : 0 < length (octets_of_building built)
  pub octets : take end written ≡ spelled (standing built)
  pub counted : count ≡ length built.open_label
  pub ascii : IsAscii text

-- the octets are the wire form of the name that the text spells
pub record SpellsText (text octets : List ℕ) : Type 0 where
  pub name : Name
  pub read : name_of_text text ≡ Some name
  pub spells : SpellsName octets name
  pub ascii : IsAscii text

-- the octets are the labels of the relative name that the text spells
pub record SpellsRelativeText (text octets : List ℕ) : Type 0 where
  pub name : Name
  pub read : relative_of_text text ≡ Some name
  pub spells : SpellsRelative octets name
  pub ascii : IsAscii text
