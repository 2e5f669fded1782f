use Rattle.std.proofs.Common.{None, length, refl}
use Rattle.denial_sorted.specs.Removing.{is_asked}
use Rattle.denial_sorted.proofs.Asked.{all_hold, spans_only_class}
use Rattle.denial_sorted.proofs.removal.span_of_any.Goals as goal

pub returns-in-Some : goal.returns-in-Some
returns-in-Some g c = spans_only_class g.N.Labels.name g.D.RecordData.type_of (g.N.Labels.name c.args.name.now) c.in-Some.class c.args.records.now c.span_of.result c.in-Some.ensures c.span_of.ensures

pub returns-in-None : goal.returns-in-None
returns-in-None g c = all_hold (is_asked g.N.Labels.name g.D.RecordData.type_of (g.N.Labels.name c.args.name.now) None None) c.args.records.now (length c.args.records.now) refl
