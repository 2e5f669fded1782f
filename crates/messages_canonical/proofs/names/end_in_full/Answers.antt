use Rattle.std.proofs.Common.{◌≡◌, ◌+◌, Some, sym, subst, ◌∙◌, arith}
use Rattle.std.specs.Prelude.{slice_get}
use Rattle.messages_canonical.specs.Walking.{SpelledInFull}
use Rattle.messages_canonical.proofs.NamesInFull.{ends_in_full, no_labels, one_label_more}
use Rattle.messages_canonical.proofs.Seen.{octet_is}
use Rattle.messages_canonical.proofs.names.end_in_full.Goals as goal

pub loop-init : goal.loop-init
loop-init c = no_labels c.args.message.now c.args.start

pub loop-preserved : goal.loop-preserved
loop-preserved c =
    let got = c.in_ok-get.ensures.lookup.3 in
    let at = octet_is c.args.message.now c.loop.place c.from-head.result got.0 (c.from-head.ensures ∙ got.1 0) in
    one_label_more c.args.message.now c.args.start c.loop.place c.from-head.result c.loop.invariant at c.if-head-eq0.false (omega (arith, c.if-head-gt63.false))

pub returns-then-head-eq0 : goal.returns-then-head-eq0
returns-then-head-eq0 c =
    let m = c.args.message.now in
    let got = c.in_ok-get.ensures.lookup.3 in
    let at : slice_get m c.loop.place ≡ Some 0 = octet_is m c.loop.place 0 got.0 (sym c.if-head-eq0.true ∙ c.from-head.ensures ∙ got.1 0) in
    let end : c.loop.place + 1 ≡ c.loop.place + (c.from-head.result + 1) = omega (arith, c.if-head-eq0.true) in
    subst (SpelledInFull m c.args.start) end (ends_in_full m c.args.start c.loop.place c.loop.invariant at (omega (arith, c.loop.invariant.0, c.if-place-start-ge-MOST_OCTETS.false)))
