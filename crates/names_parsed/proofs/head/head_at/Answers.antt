use Rattle.std.proofs.Common.{◌≡◌, ◌+◌, ◌<◌, ◌∙◌, sym, ap, Some, Err, arith}
use Rattle.std.specs.Prelude.{slice_get}
use Rattle.std.proofs.lemmas.Option.{slice_get-get_or}
use Rattle.names_parsed.proofs.HeadSteps.{step_root, step_type, malformed}
use Rattle.names_parsed.proofs.head.head_at.Goals as goal
use Rattle.names_parsed.proofs.head.head_at.Goals.{else-head-ne0-via-then-head-ne0+else-head-le63, else-head-ne0-via-else-head-ne0}

pub returns-then-head-eq0 : goal.returns-then-head-eq0
returns-then-head-eq0 c =
    let m = c.args.message.now in
    let p = c.args.place in
    let head : slice_get m p ≡ Some c.from-head.result = slice_get-get_or m p 0 c.requires.inside ∙ ap Some (sym c.from-head.ensures) in
    (c.requires.inside, step_root c.args.pointers (c.args.room + 1) m p c.from-head.result head c.if-head-eq0.true)

pub returns : goal.returns
returns c =
    let m = c.args.message.now in
    let p = c.args.place in
    let head : slice_get m p ≡ Some c.from-head.result = slice_get-get_or m p 0 c.requires.inside ∙ ap Some (sym c.from-head.ensures) in
    let large : 63 < c.from-head.result = elim c.else-head-ne0.branch [ else-head-ne0-via-then-head-ne0+else-head-le63 w ↦ omega arith | else-head-ne0-via-else-head-ne0 w ↦ omega arith ] in
    step_type c.args.pointers (c.args.room + 1) m p c.from-head.result head large (omega arith)
    ∙ ap Err (malformed c.form_error.result _ c.form_error.ensures)
