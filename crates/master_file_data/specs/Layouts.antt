-- Which parts the data of each type have.
use Rattle.std.specs.Prelude.{ℕ, ◌==◌, Option, List, find, option_map}
use Rattle.master_file_data.specs.declared.layout.Part.{Part}
use Rattle.master_file_data.specs.declared.layout.TheConstants.{LAYOUTS}

-- the parts of the first row of the table that is of the type
abbrev pub parts_of : ℕ → Option (List Part)
parts_of rtype = option_map (λ l. l.1.now) (find (λ l. l.0 == rtype) LAYOUTS)
