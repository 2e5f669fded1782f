use Rattle.std.proofs.Common.{◌≡◌, ◌<◌, ◌∷◌, ◌++◌, [], length, length-append, ap, sym, subst, ◌∙◌, refl, arith}
use Rattle.std.specs.Fmt.{HasWritten}
use Rattle.std.proofs.lemmas.List.{append-nil}
use Rattle.definitions.specs.Text.{text_of_label}
use Rattle.names_wire.specs.Label.{octets_of}
use Rattle.names_labels.specs.Flat.{spelled}
use Rattle.names_labels.proofs.Runs.{moved}
use Rattle.names_labels.specs.Dotted.{dotted}
use Rattle.names_labels.proofs.Texts.{dotted-push, room_for_next}
use Rattle.names_traits.proofs.DottedTexts.{dotted_text, all_moved}
use Rattle.names_traits.proofs.display.DisplayWithDotDisplay.fmt.Goals as goal
use Rattle.names_traits.proofs.display.DisplayWithDotDisplay.fmt.Goals.{in-Some, in_default}

pub loop-init : goal.loop-init
loop-init g c = (
  [],
  record {
    labels = c.iter_labels-labels.ensures ∙ g.met.N.Absolute.rooted c.self.inside.name.now ∙ ap (λ m. m ++ [] ∷ []) c.self.view_is;
    counted = refl;
    text = c.new-text.ensures;
  },
)

pub push_label-requires : goal.push_label-requires
push_label-requires g c =
    let done = c.loop.invariant.0 in
    let at = c.loop.invariant.1 in
    let l = octets_of c.in-Some.label in
    let behind = c.next.new.self in
    let rooted = g.met.N.Absolute.rooted c.self.inside.name.now ∙ ap (λ m. m ++ [] ∷ []) c.self.view_is in
    let all = ap (λ ls. length (spelled (done ++ ls))) (sym c.in-Some.ensures.steps) ∙ ap (λ ls. length (spelled ls)) (at.labels ∙ sym rooted) in
    omega (arith, room_for_next done behind l, all, ap length at.text, c.label_count-count.ensures.short)

pub loop-preserved : goal.loop-preserved
loop-preserved g c =
    let n = c.args.self.now in
    let done = c.loop.invariant.0 in
    let before = c.loop.invariant.1 in
    let count = ap length (g.met.N.Absolute.rooted c.self.inside.name.now ∙ ap (λ m. m ++ [] ∷ []) c.self.view_is) in
    elim c.match-next.branch [
      | in-Some w ↦
          let l = octets_of w.in-Some.label in (
            done ++ l ∷ [],
            record {
              labels = moved done c.loop.labels c.next.new.self _ l before.labels w.in-Some.ensures.steps;
              counted = omega (arith, length-append done (l ∷ []), before.counted);
              text = w.text-is ∙ w.push_label.ensures ∙ ap (λ t. t ++ (text_of_label l ++ 46 ∷ [])) before.text ∙ sym (dotted-push done l);
            },
          )
      | in_default w ↦ absurd (omega (arith, ap length (sym (append-nil done) ∙ ap (λ ls. done ++ ls) (sym w.in_default.ensures.steps.0) ∙ before.labels), length-append n ([] ∷ []), before.counted, c.label_count-count.ensures.count, count, c.loop-test.true))
    ]

pub returns-clause-writes : goal.returns-clause-writes
returns-clause-writes g c = λ p h.
    let n = c.args.self.now in
    let done = c.loop.invariant.0 in
    let count = ap length (g.met.N.Absolute.rooted c.self.inside.name.now ∙ ap (λ m. m ++ [] ∷ []) c.self.view_is) in
    let all : length done ≡ length n = omega (arith, c.loop.invariant.1.counted, c.label_count-count.ensures.count, count, length-append n ([] ∷ []), c.loop-test.false, c.loop.auto) in
    let some : 0 < length n = omega (arith, c.if-count-eq1.false, c.label_count-count.ensures.count, count, length-append n ([] ∷ [])) in
    let whole = ap dotted (all_moved done c.loop.labels n c.loop.invariant.1.labels all) ∙ sym (dotted_text n some) in
    subst (λ t. HasWritten g.W.Write.write_str_gives c.args.f.now t c.write_str-2.new.self) (c.as_str.ensures ∙ c.loop.invariant.1.text ∙ whole) (c.write_str-2.ensures.writes p h)
