use Rattle.std.proofs.Common.{sym, ◌∙◌}
use Rattle.std.specs.Ordering.{ordering_then}
use Rattle.denial_fields.proofs.TwoParts.{parts_then}
use Rattle.denial_fields.proofs.ended.cmp_ended.Goals as goal

pub returns : goal.returns
returns c =
    c.then.ensures ∙ (λ i. ordering_then (c.cmp.ensures i) (c.cmp-2.ensures i))
    ∙ sym (parts_then c.args.head.now c.args.other_head.now c.args.rest.now c.args.other_rest.now c.requires)
