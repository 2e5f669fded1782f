use Rattle.std.proofs.Common.{◌∙◌, ap, sym, length, arith}
use Rattle.plain.specs.Records.{record_canonical_cmp}
use Rattle.std.specs.List.{list_any}
use Rattle.denial_rrsets.specs.GroupLaws.{one_owner_equivalence}
use Rattle.denial_rrsets.specs.Groups.{of_one_owner}
use Rattle.denial_sorted.specs.Removing.{is_asked}
use Rattle.denial_rrsets.specs.Starts.{starts_in}
use Rattle.denial_sorted.proofs.Fewer.{fewer_left}
use Rattle.denial_sorted.proofs.Removed.{without_rises, without_none, removed_at}
use Rattle.denial_sorted.proofs.sorted.SortedRecords.remove_first_by_name_class_rtype.Goals as goal

pub invariant_of-self : goal.invariant_of-self
invariant_of-self g c =
    let by = record_canonical_cmp g.N.Labels.name g.D.RecordData.type_of g.D.CanonicalOrd.canonical in
    let asked = is_asked g.N.Labels.name g.D.RecordData.type_of (g.N.Labels.name c.args.name.now) c.args.class c.args.rtype in
    let left = c.remove.ensures.items ∙ removed_at asked c.deref.result.now c.self.inside.records.items c.in-Some.place c.deref.ensures.value c.in-Some.ensures in (
      c.self.invariant.0,
      rw left (without_rises asked by c.self.inside.records.items c.self.invariant.1),
      cc,
    )

pub returns-in_default-clause-left : goal.returns-in_default-clause-left
returns-in_default-clause-left g c =
    let asked = is_asked g.N.Labels.name g.D.RecordData.type_of (g.N.Labels.name c.args.name.now) c.args.class c.args.rtype in
    without_none asked c.args.self.now (ap (list_any asked) (sym (c.deref.ensures.value ∙ c.self.view_is)) ∙ c.in_default.ensures)

pub fill-requires : goal.fill-requires
fill-requires g c =
    let asked = is_asked g.N.Labels.name g.D.RecordData.type_of (g.N.Labels.name c.args.name.now) c.args.class c.args.rtype in
    let alike = of_one_owner g.N.Labels.name in
    let held = c.self.inside.records.items in
    let left = c.remove.ensures.items ∙ removed_at asked c.deref.result.now held c.in-Some.place c.deref.ensures.value c.in-Some.ensures in
    let few = fewer_left alike (one_owner_equivalence g.N.Labels.name) asked held in
    let now = ap (λ rs. length (starts_in alike rs)) (c.deref-3.ensures.value ∙ left) in
    let before = ap length c.self.invariant.2 in
    omega (arith, c.self.inside.starts.ok.0, c.self.inside.starts.ok.1)
