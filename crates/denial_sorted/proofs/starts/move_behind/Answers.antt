use Rattle.std.proofs.Common.{take, drop, slice_set, sym, ap, ◌∙◌}
use Rattle.denial_sorted.specs.Neighbour.{moved}
use Rattle.denial_sorted.proofs.Moved.{set_behind}
use Rattle.denial_sorted.proofs.starts.move_behind.Goals as goal

pub returns-in-Behind : goal.returns-in-Behind
returns-in-Behind c =
    let held = c.args.starts.now.items in
    ap (λ ss. slice_set ss c.args.at c.args.place) c.raise_from.ensures.items
    ∙ set_behind c.args.at held c.args.place (c.requires.some c.in-Behind.is)
    ∙ ap (λ k. moved k c.args.place (take c.args.at held) (drop c.args.at held)) (sym c.in-Behind.is)
