use Rattle.std.proofs.Common.{List, ℕ, ◌++◌, drop, option_map}
use Rattle.master_file_data.specs.Parts.{AreParts}
use Rattle.master_file_data.proofs.data.octets_of_parts.Given as goal

abbrev pub invariant-loop-part : goal.invariant-loop-part
invariant-loop-part l =
    let origin = option_map (λ n. n.now) l.origin in
    (os : List ℕ) → AreParts (drop l.part-index l.parts) origin l.rest os → AreParts l.parts origin l.fields (l.out.items ++ os)
