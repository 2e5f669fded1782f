use Rattle.std.proofs.Common.{◌≡◌, ◌+◌, ◌-◌, ◌∙◌, ◌∷◌, [], length, length-append, Some, sym, ap, take, drop, arith}
use Rattle.names_labels.proofs.Runs.{take_one}
use Rattle.names_labels.specs.Suffixes.{suffixes}
use Rattle.names_parsed.specs.Parsed.{parsed_name}
use Rattle.names_parsed.proofs.SuffixSteps.{suffix_at}
use Rattle.names_parsed.proofs.suffixes.ParsedSuffixIterDoubleEndedIterator.next_back.Goals as goal

pub returns-clause-steps : goal.returns-clause-steps
returns-clause-steps c =
    let it = c.self.inside in
    let n = parsed_name it.name in
    let more : it.left ≡ it.left - 1 + 1 = omega arith in
    let last : parsed_name c.without-name.result ≡ drop (it.left - 1) n = c.without-name.ensures in
    sym c.self.view_is ∙ ap (λ k. take k (suffixes n)) more
    ∙ take_one (suffixes n) (it.left - 1) (parsed_name c.without-name.result) (ap Some last ∙ suffix_at n (it.left - 1) (omega (arith, c.self.invariant)))

pub returns-clause-goes : goal.returns-clause-goes
returns-clause-goes c =
    let it = c.self.inside in
    let rest = take (it.left - 1) (suffixes (parsed_name it.name)) in
    let e = returns-clause-steps c in
    record { on = λ _. (tt, tt, omega (arith, ap length e, length-append rest (parsed_name c.without-name.result ∷ []))); keeps = tt; rests = λ _. tt }
