use Rattle.std.proofs.Common.{ap, ◌∙◌, ◌++◌}
use Rattle.definitions.proofs.PlainSpelling.{windows-more}
use Rattle.definitions.proofs.reference.bitmap.windows_below.Goals as goal

pub loop-number-preserved : goal.loop-number-preserved
loop-number-preserved c =
    windows-more c.args.types.now c.loop-number.number c.loop-number.octets.items c.append.new.self.items c.loop-number.invariant
    (c.in_ok-append.ensures.items ∙ ap (λ x. c.loop-number.octets.items ++ x) c.in_ok-window.ensures)
