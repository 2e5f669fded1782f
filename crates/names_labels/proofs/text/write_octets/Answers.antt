use Rattle.std.proofs.Common.{◌≡◌, ◌+◌, ◌++◌, ◌∙◌, ap, sym, subst, take, length, length-append, length-take-le, append_assoc, arith}
use Rattle.std.specs.List.{slice_index}
use Rattle.std.specs.Str.{IsAscii}
use Rattle.std.proofs.lemmas.Str.{IsAscii-append}
use Rattle.names_wire.specs.Text.{text_of_label, text_of_octet}
use Rattle.names_labels.proofs.Texts.{label_short, label_more}
use Rattle.names_labels.proofs.text.write_octets.Goals as goal

pub write_octet-end-requires : goal.write_octet-end-requires
write_octet-end-requires c =
    let i = c.loop-octet.octet-index in
    let octets = c.args.octets.now in
    omega (arith, c.requires, c.loop-octet.invariant.end, label_short (take i octets), length-take-le i octets (omega (arith, c.loop-octet-test.true)), c.loop-octet-test.true)

pub loop-octet-preserved : goal.loop-octet-preserved
loop-octet-preserved c =
    let i = c.loop-octet.octet-index in
    let octets = c.args.octets.now in
    let at = c.loop-octet.invariant in
    let written = c.write_octet-end.ensures in
    let done = text_of_label (take i octets) in
    let text = text_of_octet (slice_index octets i) in
    let before = take c.args.place c.args.characters.now in
    let more : text_of_label (take (i + 1) octets) ≡ done ++ text = label_more octets i c.loop-octet-test.true in
    record {
      text = written.text ∙ ap (λ t. t ++ text) at.text ∙ append_assoc before done text ∙ ap (λ t. before ++ t) (sym more);
      end = omega (arith, written.end, at.end, ap length more, length-append done text);
      ascii = subst IsAscii (sym more) (IsAscii-append done text at.ascii written.ascii);
    }
