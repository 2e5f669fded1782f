use Rattle.std.proofs.Common.{◌∷◌, ◌++◌, [], ◌+◌, subst, Ok, arith, length-append}
use Rattle.std.specs.Prelude.{slice_range}
use Rattle.definitions.proofs.ReadingLaws.{labels_of}
use Rattle.names_parsed.specs.Heads.{Begins, LabelHead, rest_at}
use Rattle.names_parsed.specs.declared.head.Head.{Head}
use Rattle.names_parsed.proofs.HeadSteps.{labels_more}
use Rattle.names_parsed.proofs.head.labels_beyond.Goals as goal

pub loop-len-preserved-in-Label : goal.loop-len-preserved-in-Label
loop-len-preserved-in-Label c =
    let m = c.args.message.now in
    let p = c.loop-len.place in
    let k = c.loop-len.pointers in
    let room = c.loop-len.room in
    let len = c.in-Label.len in
    let P : Head → Type 0 = λ h. Begins k (room + 1) m p (Ok h) in
    let b : LabelHead k (room + 1) m p len = subst P c.in-Label.is c.in_ok-head_at.ensures in
    let done = c.loop-len.invariant.0 in
    let l = slice_range m (p + 1) (p + 1 + len) in (
      done ++ l ∷ [],
      record {
        so_far = labels_more (labels_of (rest_at 254 (c.args.left + 1) m c.args.start)) m p k room len done c.loop-len.invariant.1.so_far b;
        counted = omega (arith, c.loop-len.invariant.1.counted, length-append done (l ∷ []));
        sized = omega (arith, c.loop-len.invariant.1.sized, b.some, b.fits);
        short = omega (arith, c.loop-len.invariant.1.short);
        inside = omega (arith, b.inside);
      },
    )
