use Rattle.std.proofs.Common.{List, ℕ, ◌++◌, drop}
use Rattle.master_file_data.specs.Parts.{AreTexts}
use Rattle.master_file_data.proofs.parts.texts_octets.Given as goal

abbrev pub invariant-loop-field : goal.invariant-loop-field
invariant-loop-field l = (os : List ℕ) → AreTexts (drop l.field-index l.fields) os → AreTexts l.fields (l.out.items ++ os)
