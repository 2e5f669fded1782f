use Rattle.std.proofs.Common.{◌≡◌, ◌∷◌, ◌++◌, [], ◌+◌, ◌∙◌, ap, subst, refl, Ok, arith, length-append}
use Rattle.std.specs.Prelude.{slice_range}
use Rattle.std.proofs.lemmas.Option.{slice_get_past}
use Rattle.std.proofs.lemmas.List.{append-nil}
use Rattle.definitions.specs.Limits.{pointer_limit}
use Rattle.definitions.specs.Reading.{name_at}
use Rattle.definitions.proofs.ReadingLaws.{length-range}
use Rattle.names_parsed.specs.Heads.{Begins, LabelHead, PointerHead}
use Rattle.names_parsed.specs.declared.head.Head.{Head}
use Rattle.names_parsed.proofs.HeadSteps.{onto, onto_start, step_short, label_more, onto_pointer}
use Rattle.names_parsed.proofs.Rows.{walked_row, wire_len-push}
use Rattle.names_parsed.proofs.head.walk.Goals as goal

pub returns-then-start-message : goal.returns-then-start-message
returns-then-start-message c =
    let m = c.args.message.now in
    onto_start m c.args.start ∙ ap (onto []) (step_short 255 255 m c.args.start (slice_get_past m c.args.start c.if-start-message.true))

pub loop-len-init : goal.loop-len-init
loop-len-init c = (
  [],
  record { so_far = onto_start c.args.message.now c.args.start; counted = refl; sized = omega arith; inside = c.if-start-message.false; spent = refl; here = refl },
)

pub loop-len-preserved : goal.loop-len-preserved
loop-len-preserved c =
    let m = c.args.message.now in
    let p = c.loop-len.place in
    let room = c.loop-len.room in
    let len = c.in-Label.len in
    let P : Head → Type 0 = λ h. Begins 255 (room + 1) m p (Ok h) in
    let b : LabelHead 255 (room + 1) m p len = subst P c.in-Label.is c.in_ok-head_at.ensures in
    let done = c.loop-len.invariant.0 in
    let l = slice_range m (p + 1) (p + 1 + len) in (
      done ++ l ∷ [],
      record {
        so_far = label_more (name_at pointer_limit m c.args.start) m p 255 room len done c.loop-len.invariant.1.so_far b;
        counted = omega (arith, c.loop-len.invariant.1.counted, length-append done (l ∷ []));
        sized = omega (arith, c.loop-len.invariant.1.sized, b.some, b.fits);
        inside = omega (arith, b.inside);
        spent = omega (arith, c.loop-len.invariant.1.spent, wire_len-push done l, length-range m (p + 1) len (omega (arith, b.inside)), b.fits);
        here = omega (arith, c.loop-len.invariant.1.here, b.fits);
      },
    )

pub returns-in-Pointer : goal.returns-in-Pointer
returns-in-Pointer c =
    let m = c.args.message.now in
    let p = c.loop-len.place in
    let room = c.loop-len.room in
    let to = c.in-Pointer.to in
    let P : Head → Type 0 = λ h. Begins 255 (room + 1) m p (Ok h) in
    let b : PointerHead 255 (room + 1) m p to = subst P c.in-Pointer.is c.in_ok-head_at.ensures in
    let done = c.loop-len.invariant.0 in
    let n = c.in_ok-labels_beyond-in-Pointer.ensures in (
      done ++ n.0,
      onto_pointer (name_at pointer_limit m c.args.start) m p (room + 1) to done (Ok n.0) c.loop-len.invariant.1.so_far b n.1,
      omega (arith, n.2, c.loop-len.invariant.1.counted, length-append done n.0),
      λ some. absurd (omega (arith, some)),
    )

pub returns-in-Root : goal.returns-in-Root
returns-in-Root c =
    let m = c.args.message.now in
    let p = c.loop-len.place in
    let room = c.loop-len.room in
    let P : Head → Type 0 = λ h. Begins 255 (room + 1) m p (Ok h) in
    let b = subst P c.in-Root.is c.in_ok-head_at.ensures in
    let done = c.loop-len.invariant.0 in
    let read : name_at pointer_limit m c.args.start ≡ Ok (done, p + 1) =
    c.loop-len.invariant.1.so_far ∙ ap (onto done) b.1 ∙ ap (λ n. Ok (n, p + 1)) (append-nil done) in (
      done,
      read,
      c.loop-len.invariant.1.counted,
      λ some. walked_row m c.args.start (p + 1) room done read c.loop-len.invariant.1.spent (omega (arith, c.loop-len.invariant.1.here)),
    )
