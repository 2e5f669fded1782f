use Rattle.std.proofs.Common.{◌∙◌, ap, map, subst, sym}
use Rattle.std.specs.List.{AllByRecursion}
use Rattle.messages.specs.HandedRr.{handed_of}
use Rattle.server_glue.specs.Glue.{IsAddress}
use Rattle.server_glue.proofs.Kept.{in_order, sorted_kept}
use Rattle.server_glue.proofs.addresses.Addresses.of.Goals as goal

pub invariant_of-result : goal.invariant_of-result
invariant_of-result c =
    subst (λ vs. AllByRecursion IsAddress (map handed_of vs)) (sym c.in_ok-records.ensures) (sorted_kept c.in_ok-addresses.addresses.items c.in_ok-addresses.ensures.each)

pub returns : goal.returns
returns c =
    ap (map handed_of) c.in_ok-records.ensures ∙ in_order c.in_ok-addresses.addresses.items (map handed_of c.args.records.now) c.in_ok-addresses.ensures.copies c.in_ok-addresses.ensures.each
