use Rattle.std.proofs.Common.{map, sym, ap, ◌∙◌, false}
use Rattle.plain.specs.ZoneData.{zone_canonical, zone_type}
use Rattle.denial_nsec_chain.specs.Chain.{nsec_chain, record_of}
use Rattle.denial_chain_owners.specs.Ttls.{has_unequal_ttls}
use Rattle.messages.proofs.Lists.{map-map}
use Rattle.answer_zone_records.specs.MadeLinks.{link_of}
use Rattle.answer_zone_records.proofs.ZoneWords.{links_are_of}
use Rattle.answer_zone_records.proofs.chain.chain_of.Goals as goal

pub returns-clause-links : goal.returns-clause-links
returns-clause-links c =
    let apex = c.args.apex.now in
    c.in_ok-owned.ensures
    ∙ ap (map (λ r. link_of (record_of (λ n. n) r))) c.deref.ensures.value
    ∙ sym (map-map link_of (record_of (λ n. n)) c.in_ok-nsecs.nsecs.items)
    ∙ ap (map link_of) (c.in_ok-nsecs.ensures.chain ∙ (λ i. nsec_chain (λ n. n) apex (c.new.ensures i) (c.owner_rrs.ensures.records i)))
    ∙ links_are_of apex c.args.records.now

pub returns-clause-ttls : goal.returns-clause-ttls
returns-clause-ttls c =
    ap (has_unequal_ttls (λ n. n) zone_type (zone_canonical (λ n. n)) c.args.apex.now false) (sym c.owner_rrs.ensures.records) ∙ c.in_ok-nsecs.ensures.ttls
