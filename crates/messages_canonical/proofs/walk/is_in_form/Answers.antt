use Rattle.std.proofs.Common.{◌≡◌, ◌+◌, ◌-◌, ap, refl, sym, subst, ◌∙◌, arith}
use Rattle.definitions.specs.Limits.{pointer_limit}
use Rattle.messages.specs.Message.{records_at}
use Rattle.messages.proofs.MessageRecords.{one_less}
use Rattle.messages_canonical.proofs.Seen.{form_here, found_records, record_left}
use Rattle.messages_canonical.proofs.Walked.{Leaves, leaves_more, leaves_none, leaves_unlike}
use Rattle.messages_canonical.proofs.walk.is_in_form.Goals as goal

pub loop-init : goal.loop-init
loop-init c rs h =
    let all : c.in-Some.count - 0 ≡ c.in-Some.count = omega arith in
    record { rest = rs; reads = ap (λ n. records_at n pointer_limit c.args.message.now c.in-Some.first) all ∙ h; same = refl }

pub returns-in_default-passed_at : goal.returns-in_default-passed_at
returns-in_default-passed_at c read h =
    let m = c.args.message.now in
    let left = c.in-Some.count - (c.loop.counter + 1) in
    let leaves = c.loop.invariant read.records (found_records m c.in-Some.first c.in-Some.count read c.in-Some.ensures h) in
    let some = subst (λ n. Leaves m read.records n c.loop.at) (one_less c.in-Some.count c.loop.counter c.loop-test.true) leaves in
    absurd (record_left m read.records left c.loop.at some c.in_default-passed_at.ensures.passes)

pub returns-then-not-branch : goal.returns-then-not-branch
returns-then-not-branch c read h =
    let m = c.args.message.now in
    let d = c.in-Some-passed_at.data in
    let left = c.in-Some.count - (c.loop.counter + 1) in
    let leaves = c.loop.invariant read.records (found_records m c.in-Some.first c.in-Some.count read c.in-Some.ensures h) in
    let some = subst (λ n. Leaves m read.records n c.loop.at) (one_less c.in-Some.count c.loop.counter c.loop-test.true) leaves in
    sym (leaves_unlike m read.records left c.loop.at some (λ r is. (form_here m c.loop.at d.rtype d.start d.limit c.in_ok-has_form.field-0 c.in-Some-passed_at.ensures.passes c.in_ok-has_form.ensures r is).1 ∙ c.if-not-branch.true))

pub loop-preserved : goal.loop-preserved
loop-preserved c rs h =
    let m = c.args.message.now in
    let d = c.in-Some-passed_at.data in
    let left = c.in-Some.count - (c.loop.counter + 1) in
    let some = subst (λ n. Leaves m rs n c.loop.at) (one_less c.in-Some.count c.loop.counter c.loop-test.true) (c.loop.invariant rs h) in
    leaves_more m rs left c.loop.at d.limit some (λ r is.
    let here = form_here m c.loop.at d.rtype d.start d.limit c.in_ok-has_form.field-0 c.in-Some-passed_at.ensures.passes c.in_ok-has_form.ensures r is in
    (here.0, here.1 ∙ c.if-not-branch.false))

pub returns : goal.returns
returns c read h =
    let m = c.args.message.now in
    let none : c.in-Some.count - c.loop.counter ≡ 0 = omega (arith, c.loop-test.false) in
    let leaves = c.loop.invariant read.records (found_records m c.in-Some.first c.in-Some.count read c.in-Some.ensures h) in
    sym (leaves_none m read.records c.loop.at (subst (λ n. Leaves m read.records n c.loop.at) none leaves))
