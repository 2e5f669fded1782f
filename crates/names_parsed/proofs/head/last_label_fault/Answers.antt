use Rattle.std.proofs.Common.{◌+◌, ◌∙◌, ap, Err, arith}
use Rattle.names_parsed.proofs.HeadSteps.{step_label_short, step_label_last, step_label_long, malformed}
use Rattle.names_parsed.proofs.head.last_label_fault.Goals as goal
use Rattle.names_parsed.proofs.head.last_label_fault.Goals.{then-message-place-via-then-message-place, then-message-place-via-else-message-place+then-room-len}

pub returns-then-message-place : goal.returns-then-message-place
returns-then-message-place c =
    let m = c.args.message.now in
    let p = c.args.place in
    let n = c.args.len in
    elim c.then-message-place.branch [
      | then-message-place-via-then-message-place w ↦ step_label_short c.args.pointers (c.args.room + 1) m p n c.requires.head c.requires.some c.requires.short (omega arith)
      | then-message-place-via-else-message-place+then-room-len w ↦
          step_label_last c.args.pointers (c.args.room + 1) m p n c.requires.head c.requires.some c.requires.short (omega arith) (omega arith) (omega (arith, c.requires.room))
    ]

pub returns : goal.returns
returns c =
    step_label_long c.args.pointers (c.args.room + 1) c.args.message.now c.args.place c.args.len c.requires.head c.requires.some c.requires.short (omega arith) (omega arith)
    ∙ ap Err (malformed c.form_error.result _ c.form_error.ensures)
