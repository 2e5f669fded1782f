use Rattle.std.proofs.Common.{◌≡◌, true, sym, ap, subst, ◌∙◌}
use Rattle.std.specs.List.{AllByRecursion, find}
use Rattle.definitions.specs.Name.{same}
use Rattle.answer_terms.proofs.ZoneData.{data_are, label_count-low}
use Rattle.answer_zone_records.specs.GroupRecords.{HoldsRrset}
use Rattle.answer_zone_records.specs.OwnedRecords.{is_of_type, ttl_in}
use Rattle.answer_zone_records.proofs.OwnedFacts.{all_owned, rrset_owned, ttl_owned}
use Rattle.answer_zone.proofs.zone.ZoneRecords.rrset.Goals as goal

pub returns : goal.returns
returns g c =
    let apex = c.args.self.now.apex in
    let rs = c.args.self.now.records in
    let q = c.args.source.now in
    let o = c.args.owner in
    let t = c.args.rtype in
    let held = rrset_owned c.args.own q t rs c.in_ok-data.data.records.items c.in_ok-data.data.canonical.items
    (subst (λ os. HoldsRrset c.args.own q t os c.in_ok-data.data.records.items c.in_ok-data.data.canonical.items) c.requires
    (c.in_ok-data.ensures q (subst (AllByRecursion (λ r. same r.owner q ≡ true)) (sym c.requires) (all_owned q rs)))) in
    record {
      owner_is = c.new.ensures.owner;
      labels_are = c.new.ensures.label_count ∙ c.rrsig_label_count-count.ensures ∙ sym (label_count-low q);
      rtype_is = c.new.ensures.rtype;
      ttl_is = c.new.ensures.ttl ∙ c.ttl-ttl.ensures ∙ ap (λ os. ttl_in (find (is_of_type t) os)) c.requires ∙ ttl_owned q t rs;
      written_is = c.new.ensures.written ∙ held.written o;
      canonical_is = c.new.ensures.canonical ∙ held.canonical ∙ data_are apex rs c.keeps.ensures.published.rising q t;
      signed_is = c.new.ensures.signed;
    }
