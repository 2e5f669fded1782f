use Rattle.std.proofs.Common.{List, sym, ap, ◌∙◌}
use Rattle.plain.specs.declared.record.Record.{Record}
use Rattle.denial_rrsets.specs.Groups.{found_set, groups, is_at, of_one_set}
use Rattle.denial_sorted.proofs.Found.{found_in_span, found_nowhere}
use Rattle.denial_sorted.proofs.sorted.SortedRecords.find_apex_rtype.Goals as goal

pub returns-in_default-span_of : goal.returns-in_default-span_of
returns-in_default-span_of g c =
    let found = λ (rs : List (Record g.row.N.Denot g.row.D.Denot)). found_set g.D.RecordData.type_of (is_at g.N.Labels.name g.D.RecordData.type_of (g.N.Labels.name c.args.apex.now) c.args.rtype) (groups (of_one_set g.N.Labels.name g.D.RecordData.type_of) rs) in
    found_nowhere g.N.Labels.name g.D.RecordData.type_of (g.N.Labels.name c.args.apex.now) c.args.rtype c.in-Some.class c.as_slice-records.result.now c.in-Some.ensures c.in_default-span_of.ensures
    ∙ ap found (c.as_slice-records.ensures.value ∙ c.self.view_is)

pub returns : goal.returns
returns g c =
    let found = λ (rs : List (Record g.row.N.Denot g.row.D.Denot)). found_set g.D.RecordData.type_of (is_at g.N.Labels.name g.D.RecordData.type_of (g.N.Labels.name c.args.apex.now) c.args.rtype) (groups (of_one_set g.N.Labels.name g.D.RecordData.type_of) rs) in
    let rs = c.as_slice-records.result.now in
    c.first_at-2.ensures ∙ ap found c.new_from_owned-2.ensures
    ∙ sym (found_in_span g.N.Labels.name g.D.RecordData.type_of (g.N.Labels.name c.args.apex.now) c.args.rtype c.in-Some.class rs c.in-Some-span_of.span c.in-Some.ensures c.in-Some-span_of.ensures)
    ∙ ap found (c.as_slice-records.ensures.value ∙ c.self.view_is)
