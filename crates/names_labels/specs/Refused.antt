-- Why octets are no name (RFC 1035, 3.1).
use Rattle.std.specs.Prelude.{◌≡◌, ℕ, ◌<◌, ◌≤◌, List, [], ◌∷◌, ◌++◌, length, Option, Some, None, Result, Ok, Err, ◌⊎◌, zero, suc}
use Rattle.std.specs.List.{AllByRecursion}
use Rattle.names_wire.specs.Name.{Name, Label, IsLabel}
use Rattle.names_labels.specs.Flat.{spelled}
use Rattle.names_wire.specs.Label.{split}
use Rattle.names_wire.specs.declared.label.SplitLabelError.{SplitLabelError}
use Rattle.names_wire.specs.declared.label.SplitLabelError.TheVariants.{Pointer, BadType, ShortInput as Short}
use Rattle.names_labels.specs.declared.name_error.NameError.{NameError}
use Rattle.names_labels.specs.declared.name_error.NameError.TheVariants.{BadLabel, CompressedName, LongName, RelativeName, TrailingData, ShortInput}

-- the refusal of a name, from that of a label
abbrev pub of_split : SplitLabelError → NameError
of_split (Pointer to) = CompressedName
of_split (BadType kind) = BadLabel kind
of_split Short = ShortInput

abbrev pub fault_of : Result (Label × List ℕ) SplitLabelError → Option NameError
fault_of (Ok found) = None
fault_of (Err e) = Some (of_split e)

-- why no label begins the octets
abbrev pub head_fault : List ℕ → Option NameError
head_fault bs = fault_of (split bs)

-- why octets behind some labels are no end of a name
abbrev pub end_fault : List ℕ → Name → Option NameError
end_fault [] [] = Some ShortInput
end_fault [] (l ∷ ls) = Some RelativeName
end_fault (zero ∷ []) ls = None
end_fault (zero ∷ b ∷ bs) ls = Some TrailingData
end_fault (suc n ∷ bs) ls = head_fault (suc n ∷ bs)

-- The octets are at most 255, labels stand first, and what is behind them is refused.
pub record StopsShort (bs : List ℕ) (e : NameError) : Type 0 where
  pub short : length bs ≤ 255
  pub labels : Name
  pub rest : List ℕ
  pub plain : AllByRecursion IsLabel labels
  pub octets : bs ≡ spelled labels ++ rest
  pub fault : end_fault rest labels ≡ Some e

-- the octets are refused as no absolute name: as too long first
abbrev pub RefusedName : List ℕ → NameError → Type 0
RefusedName bs e = ((255 < length bs) × (e ≡ LongName)) ⊎ StopsShort bs e
