use Rattle.std.proofs.Common.{◌≡◌, ◌+◌, ◌<◌, length, ◌∙◌, sym, ap, Some, Err, arith}
use Rattle.std.specs.Prelude.{slice_get}
use Rattle.std.proofs.lemmas.Option.{slice_get-get_or, slice_get_past}
use Rattle.names_parsed.proofs.HeadSteps.{step_pointer, step_none_left, step_half, step_forward, malformed}
use Rattle.names_parsed.proofs.head.pointer_head.Goals as goal

pub returns-then-pointers-eq0 : goal.returns-then-pointers-eq0
returns-then-pointers-eq0 c =
    step_none_left (c.args.room + 1) c.args.message.now c.args.place c.args.head c.args.pointers c.requires.head c.requires.large c.if-pointers-eq0.true
    ∙ ap Err (malformed c.form_error.result _ c.form_error.ensures)

pub returns-then-place-message : goal.returns-then-place-message
returns-then-place-message c =
    let m = c.args.message.now in
    step_half c.args.pointers (c.args.room + 1) m c.args.place c.args.head c.requires.head c.requires.large (omega (arith, c.if-pointers-eq0.false))
    (slice_get_past m (c.args.place + 1) (omega arith))

pub returns-then-to-place : goal.returns-then-to-place
returns-then-to-place c =
    let m = c.args.message.now in
    let p = c.args.place in
    let within : p + 1 < length m = omega arith in
    let next : slice_get m (p + 1) ≡ Some c.from.result = slice_get-get_or m (p + 1) 0 within ∙ ap Some (sym c.from.ensures) in
    step_forward c.args.pointers (c.args.room + 1) m p c.args.head c.from.result c.requires.head c.requires.large (omega (arith, c.if-pointers-eq0.false)) next c.if-to-place.true
    ∙ ap Err (malformed c.form_error-then-to-place.result _ c.form_error-then-to-place.ensures)

pub returns : goal.returns
returns c =
    let m = c.args.message.now in
    let p = c.args.place in
    let within : p + 1 < length m = omega arith in
    let next : slice_get m (p + 1) ≡ Some c.from.result = slice_get-get_or m (p + 1) 0 within ∙ ap Some (sym c.from.ensures) in
    let some : 0 < c.args.pointers = omega (arith, c.if-pointers-eq0.false) in record {
      some = some;
      before = omega arith;
      inside = omega (arith, within);
      onward = step_pointer c.args.pointers (c.args.room + 1) m p c.args.head c.from.result c.requires.head c.requires.large some next (omega arith);
    }
