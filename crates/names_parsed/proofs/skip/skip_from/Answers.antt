use Rattle.std.proofs.Common.{◌≡◌, ◌+◌, ◌-◌, ◌∙◌, ℕ, Err, length, true, false, sym, ap, subst, arith}
use Rattle.names_wire.specs.Label.{octets_of}
use Rattle.names_wire.proofs.Along.{behind_short}
use Rattle.definitions.specs.Reading.{ReadFault, Short, Malformed}
use Rattle.names_parsed.specs.Passing.{Stuck}
use Rattle.names_parsed.proofs.HeadSteps.{malformed}
use Rattle.names_parsed.proofs.PassSteps.{Passed, none_passed, stuck, ends_at_root, ends_at_pointer, too_long, passes_label, short_at, malformed_at, no_room_behind}
use Rattle.names_parsed.proofs.skip.skip_from.Goals as goal

pub loop-found-init : goal.loop-found-init
loop-found-init c = none_passed c.args.message.now c.args.start c.requires

pub returns-in-Err-Pointer-clause-ends : goal.returns-in-Err-Pointer-clause-ends
returns-in-Err-Pointer-clause-ends c =
    ends_at_pointer c.args.message.now c.args.start c.loop-found.place c.loop-found.room _ c.loop-found.invariant (c.in-Err-Pointer.ensures ∙ ap Err c.in-Err-Pointer.field-0-is)

pub returns-in-Err-ShortInput-clause-ends : goal.returns-in-Err-ShortInput-clause-ends
returns-in-Err-ShortInput-clause-ends c =
    stuck c.args.message.now c.args.start c.loop-found.place c.loop-found.room _ c.loop-found.invariant (c.in-Err-ShortInput.ensures ∙ ap Err c.in-Err-ShortInput.field-0-is) (λ to e. cc)

pub returns-in-Err-ShortInput-clause-fault : goal.returns-in-Err-ShortInput-clause-fault
returns-in-Err-ShortInput-clause-fault c =
    c.loop-found.invariant.faults Short (short_at c.args.message.now c.loop-found.place c.loop-found.room (c.in-Err-ShortInput.ensures ∙ ap Err c.in-Err-ShortInput.field-0-is))

pub returns-in-Err-BadType-clause-ends : goal.returns-in-Err-BadType-clause-ends
returns-in-Err-BadType-clause-ends c =
    stuck c.args.message.now c.args.start c.loop-found.place c.loop-found.room _ c.loop-found.invariant (c.in-Err-BadType.ensures ∙ ap Err c.in-Err-BadType.field-0-is) (λ to e. cc)

pub returns-in-Err-BadType-clause-fault : goal.returns-in-Err-BadType-clause-fault
returns-in-Err-BadType-clause-fault c =
    let P : ReadFault → Type 0 = λ f. Stuck c.args.message.now c.args.start 255 f in
    subst P (malformed c.form_error.result _ c.form_error.ensures)
    (c.loop-found.invariant.faults Malformed (malformed_at c.args.message.now c.loop-found.place c.loop-found.room _ (c.in-Err-BadType.ensures ∙ ap Err c.in-Err-BadType.field-0-is)))

pub returns-then-is_root-clause-ends : goal.returns-then-is_root-clause-ends
returns-then-is_root-clause-ends c =
    ends_at_root c.args.message.now c.args.start c.loop-found.place c.loop-found.room (octets_of c.in-Ok.found.0) _ c.loop-found.invariant c.in-Ok.ensures (c.is_root.ensures.0 c.if-is_root.true)

pub returns-then-room-len-clause-ends : goal.returns-then-room-len-clause-ends
returns-then-room-len-clause-ends c =
    too_long c.args.message.now c.args.start c.loop-found.place c.loop-found.room (octets_of c.in-Ok.found.0) _ c.loop-found.invariant c.in-Ok.ensures
    (λ e. let x : true ≡ false = sym (c.is_root.ensures.1 e) ∙ c.if-is_root.false in cc) (omega (arith, c.len.ensures.value))

pub returns-then-room-len-clause-fault : goal.returns-then-room-len-clause-fault
returns-then-room-len-clause-fault c =
    let P : ReadFault → Type 0 = λ f. Stuck c.args.message.now c.args.start 255 f in
    subst P (malformed c.form_error-then-room-len.result _ c.form_error-then-room-len.ensures)
    (c.loop-found.invariant.faults Malformed (no_room_behind c.args.message.now c.loop-found.place c.loop-found.room (octets_of c.in-Ok.found.0) _ c.in-Ok.ensures
    (λ e. let x : true ≡ false = sym (c.is_root.ensures.1 e) ∙ c.if-is_root.false in cc) (omega (arith, c.len.ensures.value))))

pub overflow_sub-place : goal.overflow_sub-place
overflow_sub-place c = behind_short c.args.message.now c.loop-found.place (octets_of c.in-Ok.found.0) _ c.loop-found.invariant.inside c.in-Ok.ensures

pub loop-found-preserved : goal.loop-found-preserved
loop-found-preserved c =
    let m = c.args.message.now in
    let l = octets_of c.in-Ok.found.0 in
    let q = length m - length c.in-Ok.found.1.now in
    let room : c.loop-found.room - (length l + 1) ≡ c.loop-found.room - (c.len-in-loop-found.result + 1) = ap (λ k. c.loop-found.room - (k + 1)) (sym c.len-in-loop-found.ensures.value) in
    let P : ℕ → Type 0 = λ r. Passed m c.args.start q r in
    subst P room
    (passes_label m c.args.start c.loop-found.place c.loop-found.room l c.in-Ok.found.1.now c.loop-found.invariant c.in-Ok.ensures
    (λ e. let x : true ≡ false = sym (c.is_root.ensures.1 e) ∙ c.if-is_root.false in cc) (omega (arith, c.len.ensures.value)))
