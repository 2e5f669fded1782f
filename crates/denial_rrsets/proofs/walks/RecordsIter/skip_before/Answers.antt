use Rattle.std.proofs.Common.{sym, ap, ◌∙◌}
use Rattle.definitions.specs.Name.{at_or_above}
use Rattle.denial_rrsets.proofs.FromFirst.{first_passes, nothing_passes}
use Rattle.denial_rrsets.proofs.walks.RecordsIter.skip_before.Goals as goal

pub returns-in_default : goal.returns-in_default
returns-in_default g c = nothing_passes (λ r. at_or_above (g.N.Labels.name c.args.apex.now) (g.N.Labels.name r.owner)) c.args.self.now c.in_default.ensures

pub returns-else-not-is_below : goal.returns-else-not-is_below
returns-else-not-is_below g c =
    let p = at_or_above (g.N.Labels.name c.args.apex.now) in
    first_passes (λ r. p (g.N.Labels.name r.owner)) c.args.self.now c.in-Some.rr.now c.in-Some.ensures (ap (λ n. p (g.N.Labels.name n)) (sym c.owner.ensures) ∙ sym c.if-not-is_below.ensures)
