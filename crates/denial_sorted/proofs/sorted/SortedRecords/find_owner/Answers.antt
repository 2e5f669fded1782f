use Rattle.std.proofs.Common.{List, filter, sym, ap, ◌∙◌, subst}
use Rattle.plain.specs.declared.record.Record.{Record}
use Rattle.denial_rrsets.specs.Groups.{IsGroup, of_one_owner}
use Rattle.denial_sorted.specs.Owned.{is_owned}
use Rattle.denial_sorted.proofs.Asked.{filter_no_span, filter_span}
use Rattle.denial_sorted.proofs.Spanned.{span_group}
use Rattle.denial_sorted.proofs.sorted.SortedRecords.find_owner.Goals as goal

pub returns-in_default : goal.returns-in_default
returns-in_default g c =
    let owned = is_owned g.N.Labels.name c.args.class (g.O.Labels.name c.args.owner.now) in
    ap (filter owned) (sym (c.as_slice-records.ensures.value ∙ c.self.view_is)) ∙ filter_no_span owned c.as_slice-records.result.now c.in_default.ensures

pub new-requires : goal.new-requires
new-requires g c =
    let P : List (Record g.row.N.Denot g.row.D.Denot) → Type 0 = λ rs. IsGroup (of_one_owner g.N.Labels.name) rs in
    subst P (sym c.new_from_owned.ensures) (span_group g.N.Labels.name g.D.RecordData.type_of g.D.CanonicalOrd.canonical c.args.class (g.O.Labels.name c.args.owner.now) c.as_slice-records.result.now c.in-Some.span c.in-Some.ensures)

pub returns : goal.returns
returns g c =
    let owned = is_owned g.N.Labels.name c.args.class (g.O.Labels.name c.args.owner.now) in
    c.new.ensures ∙ c.new_from_owned.ensures ∙ sym (filter_span owned c.as_slice-records.result.now c.in-Some.span c.in-Some.ensures) ∙ ap (filter owned) (c.as_slice-records.ensures.value ∙ c.self.view_is)
