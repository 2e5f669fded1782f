use Rattle.std.proofs.Common.{◌≡◌, length, map, take, not, eqb, ltb, vec_len, ap, sym, ◌∙◌, None, arith}
use Rattle.std.proofs.Math.Seq.{take-length}
use Rattle.std.proofs.lemmas.List.{length-map}
use Rattle.messages.proofs.Lists.{map-map, same_octets}
use Rattle.answer_zone_records.specs.GroupRecords.{record_under}
use Rattle.answer_terms.specs.Served.{written_rr}
use Rattle.answer_zone_records.proofs.ZoneGroups.{not_empty, written_more}
use Rattle.answer_zone_records.proofs.group.RrGroup.canonical_form.Goals as goal

pub loop-octets-preserved : goal.loop-octets-preserved
loop-octets-preserved c =
    let owner = c.args.owner in
    let t = c.args.rtype in
    let ttl = c.args.ttl in
    written_more (record_under owner t) (λ d. written_rr owner t ttl d.items) c.loop-octets.records.items c.push.new.self.items
    (record { owner = None; ttl = ttl; octets = c.in_ok-clone.field-0 }) c.deref-octets-items.result.now c.loop-octets.octets-index c.octets-item.result
    c.in_ok-push.ensures.items c.loop-octets-test.true c.octets-item.is
    (ap (written_rr owner t ttl) (same_octets c.octets-item.result.items c.in_ok-clone.field-0.items c.in_ok-clone.ensures.cases.0))
    c.loop-octets.invariant

pub returns : goal.returns
returns c =
    let owner = c.args.owner in
    let t = c.args.rtype in
    let ttl = c.args.ttl in
    let all : c.loop-octets.octets-index ≡ length c.deref-octets-items.result.now = omega arith in
    let written = c.new.ensures.written ∙ c.loop-octets.invariant
    ∙ ap (map (λ d. written_rr owner t ttl d.items)) (ap (λ k. take k c.deref-octets-items.result.now) all ∙ take-length c.deref-octets-items.result.now ∙ c.deref-octets-items.ensures.value)
    ∙ sym (map-map (written_rr owner t ttl) (λ d. d.items) c.args.canonical.items) in
    let size : vec_len c.args.canonical ≡ length c.args.canonical.items = omega (arith, c.deref-octets-items.ensures.len, ap length c.deref-octets-items.ensures.value) in
    let signed = c.new.ensures.signed ∙ ap not c.is_empty-signed.ensures ∙ ap (λ n. not (eqb n 0)) size ∙ not_empty (length c.args.canonical.items) ∙ ap (ltb 0) (sym (length-map c.args.canonical.items (λ d. d.items))) in
    λ i. record {
      owner = c.new.ensures.owner i;
      labels = c.new.ensures.label_count i;
      rtype = c.new.ensures.rtype i;
      ttl = c.new.ensures.ttl i;
      written = written i;
      canonical = c.new.ensures.canonical i;
      signed = signed i;
    }
