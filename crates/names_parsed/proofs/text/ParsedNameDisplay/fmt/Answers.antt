use Rattle.std.proofs.Common.{◌≡◌, ◌∷◌, ◌++◌, [], length, ap, sym, subst, ◌∙◌, refl, arith}
use Rattle.std.specs.Fmt.{HasWritten}
use Rattle.std.proofs.lemmas.List.{append-nil}
use Rattle.definitions.specs.Text.{text_of_label}
use Rattle.names_wire.specs.Label.{octets_of}
use Rattle.names_labels.specs.Flat.{spelled}
use Rattle.names_labels.proofs.Checks.{length-spelled_sum}
use Rattle.names_labels.proofs.Runs.{moved}
use Rattle.names_labels.specs.Dotted.{dotted}
use Rattle.names_labels.proofs.Texts.{dotted-push, dotted_some, room_for_next, some_label, text_left, name_text}
use Rattle.names_parsed.specs.Parsed.{parsed_name}
use Rattle.names_parsed.proofs.Parsing.{is_name}
use Rattle.names_parsed.proofs.text.ParsedNameDisplay.fmt.Goals as goal

pub loop-label-init : goal.loop-label-init
loop-label-init g c = ([], record { labels = c.relative_labels-labels.ensures; text = c.new-text.ensures })

pub push_label-requires : goal.push_label-requires
push_label-requires g c =
    let n = c.args.self.now in
    let done = c.loop-label.invariant.0 in
    let at = c.loop-label.invariant.1 in
    let l = octets_of c.in-Some.label in
    let behind = c.next.new.self in
    let all = ap (λ ls. length (spelled (done ++ ls))) (sym c.in-Some.ensures.steps) ∙ ap (λ ls. length (spelled ls)) at.labels in
    let name = is_name n.message.now n.start n.there in
    omega (arith, room_for_next done behind l, all, ap length at.text, length-spelled_sum (parsed_name n), name.short)

pub loop-label-preserved : goal.loop-label-preserved
loop-label-preserved g c =
    let done = c.loop-label.invariant.0 in
    let at = c.loop-label.invariant.1 in
    let l = octets_of c.in-Some.label in (
      done ++ l ∷ [],
      record {
        labels = moved done c.loop-label.labels c.next.new.self _ l at.labels c.in-Some.ensures.steps;
        text = c.push_label.ensures ∙ ap (λ t. t ++ (text_of_label l ++ 46 ∷ [])) at.text ∙ sym (dotted-push done l);
      },
    )

pub without_last_dot-requires : goal.without_last_dot-requires
without_last_dot-requires g c =
    let n = c.args.self.now in
    let done = c.loop-label.invariant.0 in
    let at = c.loop-label.invariant.1 in
    let all : done ≡ parsed_name n = sym (append-nil done) ∙ ap (λ ls. done ++ ls) (sym c.in_default.ensures.steps.0) ∙ at.labels in
    let some = some_label (parsed_name n) _ c.if-is_root.false c.is_root.ensures in
    omega (arith, dotted_some (parsed_name n) some, ap (λ ls. length (dotted ls)) all, ap length at.text)

pub returns-clause-writes : goal.returns-clause-writes
returns-clause-writes g c = λ p h.
    let n = c.args.self.now in
    let done = c.loop-label.invariant.0 in
    let at = c.loop-label.invariant.1 in
    let all : done ≡ parsed_name n = sym (append-nil done) ∙ ap (λ ls. done ++ ls) (sym c.in_default.ensures.steps.0) ∙ at.labels in
    let some = some_label (parsed_name n) _ c.if-is_root.false c.is_root.ensures in
    let left = text_left [] _ _ (parsed_name n) refl at.text all some in
    subst (λ t. HasWritten g.W.Write.write_str_gives c.args.f.now t c.write_str-2.new.self) (c.without_last_dot.ensures ∙ left ∙ sym (name_text (parsed_name n) some)) (c.write_str-2.ensures.writes p h)
