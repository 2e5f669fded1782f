use Rattle.std.proofs.Common.{◌+◌, get_or, arith}
use Rattle.std.proofs.lemmas.List.{get_or_default}
use Rattle.std.proofs.lemmas.List.Edits.{map_over_more}
use Rattle.denial_sorted.proofs.starts.raise.Goals as goal

pub loop-at-preserved : goal.loop-at-preserved
loop-at-preserved c =
    let i = c.loop-at.at in
    let ys = c.loop-at.places in
    map_over_more (λ s. s + 1) c.args.places.now ys i (get_or ys i 0) c.loop-at-test.true c.loop-at.invariant (get_or_default ys i 0 (get_or ys i 0) (omega arith))
