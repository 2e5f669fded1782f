use Rattle.std.proofs.Common.{◌∷◌, ◌∙◌, [], arith}
use Rattle.std.proofs.lemmas.List.{take-append-le, take_all}
use Rattle.names_parsed.specs.Standing.{name_from}
use Rattle.names_parsed.proofs.iter.ParsedNameIter.without_root.Goals as goal

pub returns : goal.returns
returns c =
    let n = name_from c.args.message.now c.args.place in
    take-append-le c.args.left n ([] ∷ []) (omega (arith, c.requires.all)) ∙ take_all c.args.left n (omega (arith, c.requires.all))
