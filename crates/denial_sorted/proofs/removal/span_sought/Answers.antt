use Rattle.std.proofs.Common.{ℕ, Option, None, sym, subst}
use Rattle.denial_sorted.specs.Removing.{is_asked}
use Rattle.denial_sorted.specs.Spans.{HoldsAll}
use Rattle.denial_sorted.proofs.Asked.{spans_class}
use Rattle.denial_sorted.proofs.removal.span_sought.Goals as goal

pub returns-in-Some : goal.returns-in-Some
returns-in-Some g c =
    let P : Option ℕ → Type 0 = λ k. HoldsAll (is_asked g.N.Labels.name g.D.RecordData.type_of (g.N.Labels.name c.args.name.now) k None) c.args.records.now c.span_of.result in
    subst P (sym c.in-Some.is) (spans_class g.N.Labels.name g.D.RecordData.type_of (g.N.Labels.name c.args.name.now) c.in-Some.class c.args.records.now c.span_of.result c.span_of.ensures)
