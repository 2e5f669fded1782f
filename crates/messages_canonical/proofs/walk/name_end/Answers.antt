use Rattle.std.proofs.Common.{◌≡◌, Some, ap, sym, ◌∙◌, arith}
use Rattle.std.specs.Prelude.{slice_get}
use Rattle.std.proofs.lemmas.Bool.{ltb-false}
use Rattle.messages_canonical.proofs.Seen.{octet_is, octet_none}
use Rattle.messages_canonical.proofs.Walked.{begins_inside, ends_at_pointer, ends_at_root, goes_on}
use Rattle.messages_canonical.proofs.walk.name_end.Goals as goal

pub returns-in_err-get-clause-ends : goal.returns-in_err-get-clause-ends
returns-in_err-get-clause-ends c n e r =
    let none = octet_none c.args.message.now c.loop-head.place (ltb-false _ _ (sym c.in_err-get.ensures.lookup.0)) in
    absurd (begins_inside (c.loop-head.invariant n e r).1 none)

pub returns-then-head-eq0-clause-ends : goal.returns-then-head-eq0-clause-ends
returns-then-head-eq0-clause-ends c n e r =
    let got = c.in_ok-get.ensures.lookup.3 in
    let at : slice_get c.args.message.now c.loop-head.place ≡ Some 0 = octet_is c.args.message.now c.loop-head.place 0 got.0 (sym c.if-head-eq0.true ∙ c.from-head.ensures ∙ got.1 0) in
    ap Some (sym (ends_at_root (c.loop-head.invariant n e r).1 at))

pub returns-then-head-ge192-clause-ends : goal.returns-then-head-ge192-clause-ends
returns-then-head-ge192-clause-ends c n e r =
    let got = c.in_ok-get.ensures.lookup.3 in
    let at = octet_is c.args.message.now c.loop-head.place c.from-head.result got.0 (c.from-head.ensures ∙ got.1 0) in
    ap Some (sym (ends_at_pointer c.from-head.result (c.loop-head.invariant n e r).1 at c.if-head-ge192.true))

pub loop-head-preserved : goal.loop-head-preserved
loop-head-preserved c n e r =
    let got = c.in_ok-get.ensures.lookup.3 in
    let at = octet_is c.args.message.now c.loop-head.place c.from-head.result got.0 (c.from-head.ensures ∙ got.1 0) in
    goes_on c.from-head.result (c.loop-head.invariant n e r).1 at c.if-head-eq0.false (omega (arith, c.if-head-ge192.false))
