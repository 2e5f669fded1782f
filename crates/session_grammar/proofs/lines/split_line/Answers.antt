use Rattle.std.proofs.Common.{◌≡◌, sym, ◌∙◌, ◌∷◌, [], length, take_all, le_refl, drop_of_length-le}
use Rattle.session_grammar.specs.Lines.{lines_of}
use Rattle.session_grammar.proofs.LineLemmas.{lines_of-none, lines_of-some}
use Rattle.session_grammar.proofs.lines.split_line.Goals as goal

pub returns-in-Some-clause-next : goal.returns-in-Some-clause-next
returns-in-Some-clause-next c = lines_of-some c.args.octets.now c.in-Some.end (sym c.line_end.ensures ∙ c.in-Some.is)

pub returns-in-None-clause-next : goal.returns-in-None-clause-next
returns-in-None-clause-next c =
    let xs = c.args.octets.now in
    let one : lines_of xs ≡ xs ∷ [] = lines_of-none xs (sym c.line_end.ensures ∙ c.in-None.is) c.requires in
    let front : c.split_at.result.0.now ≡ xs = c.split_at.ensures.front ∙ take_all (length xs) xs (le_refl _) in
    let back : c.split_at.result.1.now ≡ [] = c.split_at.ensures.back ∙ drop_of_length-le xs (le_refl _) in
    rw (front, back) one
