use Rattle.std.proofs.Common.{sym, ap, ◌∙◌, arith}
use Rattle.std.specs.List.{flat_map}
use Rattle.std.proofs.lemmas.List.{take_all}
use Rattle.std.proofs.lemmas.List.Folds.{flat_map-map}
use Rattle.names_rdata.specs.Composing.{with_length}
use Rattle.answer_judge_octets.proofs.reply.octets_of_data.Goals as goal

pub returns : goal.returns
returns c =
    let items = c.as_slice-datum-items.result.now in
    let all = take_all c.loop-datum.datum-index items (omega (arith, c.loop-datum-test.false)) in
    c.loop-datum.invariant ∙ ap (λ xs. flat_map (λ d. with_length d.items) xs) all ∙ sym (flat_map-map with_length (λ d. d.items) items) ∙ ap (flat_map with_length) c.as_slice-datum-items.ensures
