use Rattle.std.proofs.Common.{rules}
use Rattle.denial_sorted.proofs.OneClass.{one_class}
use Rattle.denial_sorted.proofs.search.only_class.Goals as goal

pub returns-then-eq : goal.returns-then-eq
returns-then-eq g c = one_class g.N.Labels.name g.D.RecordData.type_of g.D.CanonicalOrd.canonical c.args.records.now c.in_ok-first.first.now c.in_ok-last.last.now c.class-then-eq.result c.requires c.in_ok-first.ensures.value c.in_ok-last.ensures.value (search rules) (search rules)
