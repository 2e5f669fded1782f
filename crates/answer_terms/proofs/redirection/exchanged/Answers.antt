use Rattle.std.proofs.Common.{◌∙◌, refl}
use Rattle.answer_terms.proofs.Exchanging.{leads_nowhere}
use Rattle.answer_terms.proofs.redirection.exchanged.Goals as goal

pub returns-in-Err : goal.returns-in-Err
returns-in-Err c =
    let parts = c.in-Ok.ensures.ok in
    let long = rw c.for_ref.ensures at (c.in-Err.ensures.long.0 refl) in
    leads_nowhere c.args.name.now c.args.owner.now c.args.target.now c.in-Ok.front parts.0 (parts.1 ∙ c.in_ok-copy_name.ensures) parts.2 long
