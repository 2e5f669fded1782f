use Rattle.std.proofs.Common.{ap, sym, ◌∙◌, arith, inl, inr}
use Rattle.std.proofs.lemmas.Bool.{cases_lt}
use Rattle.denial_sorted.specs.Removing.{is_asked}
use Rattle.denial_sorted.proofs.Asked.{unasked_before, unasked_behind}
use Rattle.denial_sorted.proofs.Removed.{first_at, more_fail}
use Rattle.denial_sorted.proofs.Putting.{at_place, none_at}
use Rattle.denial_sorted.proofs.removal.first_in.Goals as goal

pub loop-place-init : goal.loop-place-init
loop-place-init g c = λ k d l. unasked_before g.N.Labels.name g.D.RecordData.type_of (g.N.Labels.name c.args.name.now) c.args.class.now c.args.rtype.now c.args.records.now c.args.span c.requires k d l (omega (arith, c.requires.0, c.requires.1))

pub returns-then-is_of : goal.returns-then-is_of
returns-then-is_of g c =
    let asked = is_asked g.N.Labels.name g.D.RecordData.type_of (g.N.Labels.name c.args.name.now) c.args.class.now c.args.rtype.now in
    let at = at_place c.args.records.now c.loop-place.place c.index-records-place.result (omega (arith, c.requires.1)) c.index-records-place.is in
    first_at asked c.args.records.now c.loop-place.place (omega (arith, c.requires.1)) c.loop-place.invariant (λ d. ap asked (at d) ∙ sym (c.if-is_of.ensures))

pub loop-place-preserved : goal.loop-place-preserved
loop-place-preserved g c =
    let asked = is_asked g.N.Labels.name g.D.RecordData.type_of (g.N.Labels.name c.args.name.now) c.args.class.now c.args.rtype.now in
    let at = at_place c.args.records.now c.loop-place.place c.index-records-place.result (omega (arith, c.requires.1)) c.index-records-place.is in
    more_fail asked c.args.records.now c.loop-place.place c.loop-place.invariant (λ d. ap asked (at d) ∙ sym (c.if-is_of.ensures))

pub returns : goal.returns
returns g c =
    let asked = is_asked g.N.Labels.name g.D.RecordData.type_of (g.N.Labels.name c.args.name.now) c.args.class.now c.args.rtype.now in
    none_at asked c.args.records.now (λ k d l. elim (cases_lt k c.loop-place.place) [
      | inl b ↦ c.loop-place.invariant k d b
      | inr b ↦ unasked_behind g.N.Labels.name g.D.RecordData.type_of (g.N.Labels.name c.args.name.now) c.args.class.now c.args.rtype.now c.args.records.now c.args.span c.requires k d (omega arith) l
    ])
