use Rattle.std.proofs.Common.{◌++◌, ◌∷◌, [], subst, length, length-append, ap, sym, ◌∙◌, arith}
use Rattle.std.specs.Str.{IsAscii}
use Rattle.std.proofs.lemmas.Str.{IsAscii-append}
use Rattle.names_wire.specs.Text.{text_of_label}
use Rattle.names_labels.specs.Flat.{spelled, labels_in}
use Rattle.names_labels.proofs.Runs.{moved}
use Rattle.names_wire.specs.Label.{octets_of}
use Rattle.names_labels.specs.Dotted.{dotted}
use Rattle.names_labels.proofs.Texts.{room_for_next, dotted-push}
use Rattle.names_labels.proofs.text.write_run.Goals as goal

pub write_label-end-requires : goal.write_label-end-requires
write_label-end-requires c =
    let done = c.loop-label.invariant.0 in
    let at = c.loop-label.invariant.1 in
    let l = octets_of c.in-Some.label in
    let behind = labels_in c.in-Some.behind.now in
    let all = ap (λ ls. length (spelled (done ++ ls))) (sym c.in-Some.ensures.first) ∙ ap (λ ls. length (spelled ls)) at.labels in
    omega (arith, room_for_next done behind l, all, ap length c.requires.run.whole, c.requires.room, at.end, ap length c.as_slice.ensures.value)

pub loop-label-preserved : goal.loop-label-preserved
loop-label-preserved c =
    let done = c.loop-label.invariant.0 in
    let at = c.loop-label.invariant.1 in
    let l = octets_of c.in-Some.label in
    let text = text_of_label l ++ 46 ∷ [] in
    let written = c.write_label-end.ensures in
    let octets = c.as_slice.ensures.value in
    let more = dotted-push done l in (
      done ++ l ∷ [],
      record {
        rest = c.in-Some.ensures.behind;
        labels = moved done _ _ _ l at.labels c.in-Some.ensures.first;
        text = written.text ∙ ap (λ t. t ++ (text_of_label c.as_slice.result.now ++ 46 ∷ [])) at.text ∙ ap (λ o. dotted done ++ (text_of_label o ++ 46 ∷ [])) octets ∙ sym more;
        end = omega (arith, written.end, at.end, ap (λ o. length (text_of_label o)) octets, ap length more, length-append (dotted done) text, length-append (text_of_label l) (46 ∷ []));
        within = written.within;
        ascii = subst IsAscii (sym more) (IsAscii-append (dotted done) text at.ascii (subst (λ o. IsAscii (text_of_label o ++ 46 ∷ [])) octets written.ascii));
      },
    )
