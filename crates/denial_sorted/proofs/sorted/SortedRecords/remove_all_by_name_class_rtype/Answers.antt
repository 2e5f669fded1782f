use Rattle.std.proofs.Common.{not, rules, length, sym, ◌∙◌, ap, arith}
use Rattle.std.specs.List.{filter, list_any}
use Rattle.std.proofs.lemmas.Fn.{filter_same}
use Rattle.std.proofs.lemmas.List.Kept.{IsStrictlySortedBy-filter}
use Rattle.plain.specs.Records.{record_canonical_cmp}
use Rattle.denial_rrsets.specs.GroupLaws.{one_owner_equivalence}
use Rattle.denial_rrsets.specs.Groups.{of_one_owner}
use Rattle.denial_sorted.specs.Removing.{is_asked}
use Rattle.denial_rrsets.specs.Starts.{starts_in}
use Rattle.denial_sorted.proofs.Fewer.{fewer_kept}
use Rattle.denial_sorted.proofs.Removed.{kept_all}
use Rattle.denial_sorted.proofs.sorted.SortedRecords.remove_all_by_name_class_rtype.Goals as goal

pub invariant_of-self : goal.invariant_of-self
invariant_of-self g c =
    let by = record_canonical_cmp g.N.Labels.name g.D.RecordData.type_of g.D.CanonicalOrd.canonical in
    let asked = is_asked g.N.Labels.name g.D.RecordData.type_of (g.N.Labels.name c.args.name.now) c.args.class c.args.rtype in
    let kept = filter_same _ (λ r. not (asked r)) _ (λ x b f' k. search rules) c.self.inside.records.items c.retain.new.self.items c.retain.ensures.filtered in (
      c.self.invariant.0,
      rw kept (IsStrictlySortedBy-filter by (λ r. not (asked r)) c.self.inside.records.items c.self.invariant.1),
      cc,
    )

pub returns-clause-left : goal.returns-clause-left
returns-clause-left g c =
    let asked = is_asked g.N.Labels.name g.D.RecordData.type_of (g.N.Labels.name c.args.name.now) c.args.class c.args.rtype in
    filter_same _ (λ r. not (asked r)) _ (λ x b f' k. search rules) c.self.inside.records.items c.retain.new.self.items c.retain.ensures.filtered ∙ ap (filter (λ r. not (asked r))) c.self.view_is

pub returns-in_default-clause-left : goal.returns-in_default-clause-left
returns-in_default-clause-left g c =
    let asked = is_asked g.N.Labels.name g.D.RecordData.type_of (g.N.Labels.name c.args.name.now) c.args.class c.args.rtype in
    kept_all asked c.args.self.now (ap (list_any asked) (sym (c.deref.ensures.value ∙ c.self.view_is)) ∙ c.in_default.ensures)

pub fill-requires : goal.fill-requires
fill-requires g c =
    let asked = is_asked g.N.Labels.name g.D.RecordData.type_of (g.N.Labels.name c.args.name.now) c.args.class c.args.rtype in
    let alike = of_one_owner g.N.Labels.name in
    let held = c.self.inside.records.items in
    let kept = filter_same _ (λ r. not (asked r)) _ (λ x b f' k. search rules) held c.retain.new.self.items c.retain.ensures.filtered in
    let few = fewer_kept alike (one_owner_equivalence g.N.Labels.name) (λ r. not (asked r)) held in
    let now = ap (λ rs. length (starts_in alike rs)) (c.deref-3.ensures.value ∙ kept) in
    let before = ap length c.self.invariant.2 in
    omega (arith, c.self.inside.starts.ok.0, c.self.inside.starts.ok.1)
