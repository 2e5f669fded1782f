-- Why octets are no relative name (RFC 1035, 3.1).
use Rattle.std.specs.Prelude.{◌≡◌, ℕ, zero, suc, ◌<◌, ◌≤◌, ◌⊎◌, List, [], ◌∷◌, ◌++◌, length, Option, Some, None, Result, Ok, Err}
use Rattle.std.specs.List.{AllByRecursion}
use Rattle.names_wire.specs.Name.{Name, Label, IsLabel}
use Rattle.names_labels.specs.Flat.{spelled}
use Rattle.names_wire.specs.Label.{split}
use Rattle.names_wire.specs.declared.label.SplitLabelError.{SplitLabelError}
use Rattle.names_wire.specs.declared.label.SplitLabelError.TheVariants.{Pointer, BadType, ShortInput as Short}
use Rattle.names_labels.specs.declared.relative_error.RelativeNameError.{RelativeNameError}
use Rattle.names_labels.specs.declared.relative_error.RelativeNameError.TheVariants.{BadLabel, CompressedName, LongName, AbsoluteName, ShortInput}

-- the refusal of a relative name, from that of a label
abbrev pub of_split : SplitLabelError → RelativeNameError
of_split (Pointer to) = CompressedName
of_split (BadType kind) = BadLabel kind
of_split Short = ShortInput

abbrev pub fault_of : Result (Label × List ℕ) SplitLabelError → Option RelativeNameError
fault_of (Ok found) = None
fault_of (Err e) = Some (of_split e)

-- why octets behind some labels are no further label
abbrev pub label_fault : List ℕ → Option RelativeNameError
label_fault [] = None
label_fault (zero ∷ bs) = Some AbsoluteName
label_fault (suc n ∷ bs) = fault_of (split (suc n ∷ bs))

-- The octets are at most 254, labels stand first, and what is behind them is refused.
pub record StopsShort (bs : List ℕ) (e : RelativeNameError) : Type 0 where
  pub short : length bs ≤ 254
  pub labels : Name
  pub rest : List ℕ
  pub plain : AllByRecursion IsLabel labels
  pub octets : bs ≡ spelled labels ++ rest
  pub fault : label_fault rest ≡ Some e

-- the octets are refused as no relative name: as too long first
abbrev pub RefusedRelative : List ℕ → RelativeNameError → Type 0
RefusedRelative bs e = ((254 < length bs) × (e ≡ LongName)) ⊎ StopsShort bs e
