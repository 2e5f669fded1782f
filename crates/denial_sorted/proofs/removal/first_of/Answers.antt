use Rattle.denial_sorted.proofs.Asked.{unasked_all}
use Rattle.denial_sorted.proofs.removal.first_of.Goals as goal

pub returns-in_default : goal.returns-in_default
returns-in_default g c = unasked_all g.N.Labels.name g.D.RecordData.type_of (g.N.Labels.name c.args.name.now) c.args.class.now c.args.rtype.now c.args.records.now c.in_default.ensures
