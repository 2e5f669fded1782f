use Rattle.std.proofs.Common.{◌+◌, ◌≤◌, ◌<◌, length, ◌∙◌, ap, Err, arith}
use Rattle.names_parsed.proofs.HeadSteps.{step_label, step_label_long, malformed}
use Rattle.names_parsed.proofs.head.label_head.Goals as goal

pub returns-then-room-len : goal.returns-then-room-len
returns-then-room-len c =
    step_label_long c.args.pointers (c.args.room + 1) c.args.message.now c.args.place c.args.len c.requires.head c.requires.some c.requires.short (omega arith) (omega arith)
    ∙ ap Err (malformed c.form_error.result _ c.form_error.ensures)

pub returns : goal.returns
returns c =
    let m = c.args.message.now in
    let n = c.args.len in
    let fits : n + 2 ≤ c.args.room + 1 = omega arith in
    let inside : c.args.place + 1 + n < length m = omega arith in record {
      some = c.requires.some;
      fits = fits;
      inside = inside;
      onward = step_label c.args.pointers (c.args.room + 1) m c.args.place n c.requires.head c.requires.some c.requires.short (omega (arith, inside)) fits (omega (arith, c.requires.room));
    }
