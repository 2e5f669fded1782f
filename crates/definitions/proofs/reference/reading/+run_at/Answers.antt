use Rattle.std.proofs.Common.{◌≡◌, ◌+◌, ◌-◌, ◌≤◌, Some, length, sym, ap, ◌∙◌, arith}
use Rattle.std.specs.Prelude.{slice_get}
use Rattle.std.proofs.lemmas.Option.{slice_get-get_or}
use Rattle.definitions.specs.Reading.{with_label, run_at}
use Rattle.definitions.proofs.PlainReading.{run_at-read, fault_behind, same_reading}
use Rattle.definitions.proofs.reference.reading.+run_at.Goals as goal

pub returns-in-Ok : goal.returns-in-Ok
returns-in-Ok t c =
    let m = c.args.message.now in
    let p = c.args.place in
    let n = c.in-Some.head.now in
    let head : slice_get m p ≡ Some n = slice_get-get_or m p 0 c.in-Some.ensures.lookup.3.0 ∙ ap Some (sym (c.in-Some.ensures.lookup.3.1 0)) in
    let inside : p + 1 + n ≤ length m = omega (arith, c.in-Some.ensures.lookup.3.0) in
    let read : run_at c.args.heads c.args.pointers c.args.room m p ≡ with_label c.in_ok-label.label (run_at (c.args.heads - 1) c.args.pointers (c.args.room - (n + 1)) m (p + 1 + n)) =
    run_at-read c.args.heads c.args.pointers c.args.room m p n c.in_ok-label.label c.if-heads-eq0.false head (omega (arith, c.if-size-eq0.false)) (omega arith) inside (omega arith) c.in_ok-label.ensures in
    same_reading _ _ _ _ c.with_label.ensures (read ∙ ap (with_label c.in_ok-label.label) c.in-Ok.ensures)

pub returns-in-Err : goal.returns-in-Err
returns-in-Err t c =
    let m = c.args.message.now in
    let p = c.args.place in
    let n = c.in-Some.head.now in
    let head : slice_get m p ≡ Some n = slice_get-get_or m p 0 c.in-Some.ensures.lookup.3.0 ∙ ap Some (sym (c.in-Some.ensures.lookup.3.1 0)) in
    let inside : p + 1 + n ≤ length m = omega (arith, c.in-Some.ensures.lookup.3.0) in
    let read : run_at c.args.heads c.args.pointers c.args.room m p ≡ with_label c.in_ok-label.label (run_at (c.args.heads - 1) c.args.pointers (c.args.room - (n + 1)) m (p + 1 + n)) =
    run_at-read c.args.heads c.args.pointers c.args.room m p n c.in_ok-label.label c.if-heads-eq0.false head (omega (arith, c.if-size-eq0.false)) (omega arith) inside (omega arith) c.in_ok-label.ensures in
    fault_behind c.in_ok-label.label c.in-Err.error _ _ c.in-Err.ensures read
