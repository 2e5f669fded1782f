use Rattle.std.proofs.Common.{ap, subst, ◌∙◌}
use Rattle.std.specs.List.{AllByRecursion}
use Rattle.definitions.specs.Laws.{IsNsec3Chain}
use Rattle.denial_nsec3_hash.specs.Hashing.{hash_by}
use Rattle.denial_nsec3_chain.specs.Chain.{leaves_out, nsec3_chain, zone_among}
use Rattle.denial_nsec3_chain.specs.Faults.{HasNoFault, IsNsec3Fault}
use Rattle.answer_zone_records.specs.MadeLinks.{HasOctets, hashed_around}
use Rattle.answer_zone_records.proofs.HashedMade.{is_made, is_unmade, links_are}
use Rattle.answer_zone_records.proofs.hash_chain.hash_chain_of.Goals as goal

pub returns-clause-links : goal.returns-clause-links
returns-clause-links g c =
    let apex = c.args.apex.now in
    let rs = c.args.records.now in
    let answers = g.H.Nsec3Hasher.hash_of c.args.hasher.now in
    let p = c.args.parameters.now in
    let made = c.in-Ok.made.nsec3s.items in
    let k = c.in-Ok.ensures.chain in
    c.in_ok-hashed_links.ensures.links
    ∙ ap hashed_around c.deref.ensures.value
    ∙ links_are answers apex rs c.config_of-config.result p.iterations p.salt.now p.opt_out c.config_of-config.ensures.params c.config_of-config.ensures.dnskeys c.config_of-config.ensures.excluding k.0 made
    (k.2 ∙ ap (λ xs. nsec3_chain (λ n. n) apex answers c.config_of-config.result xs k.0) c.owner_rrs.ensures.records)
    (subst (λ xs. IsNsec3Chain (hash_by answers c.config_of-config.result.params) (zone_among (λ n. n) apex xs) (leaves_out c.config_of-config.result)) c.owner_rrs.ensures.records c.in-Ok.ensures.speaks)

pub returns-clause-made : goal.returns-clause-made
returns-clause-made g c =
    let apex = c.args.apex.now in
    let rs = c.args.records.now in
    let answers = g.H.Nsec3Hasher.hash_of c.args.hasher.now in
    let p = c.args.parameters.now in
    let k = c.in-Ok.ensures.chain in
    is_made answers apex rs c.config_of-config.result p.iterations p.salt.now p.opt_out c.config_of-config.ensures.params c.config_of-config.ensures.dnskeys c.config_of-config.ensures.excluding k.0
    (subst (λ xs. HasNoFault (λ n. n) apex answers c.config_of-config.result xs k.0) c.owner_rrs.ensures.records k.1)
    (subst (AllByRecursion HasOctets) (returns-clause-links g c) c.in_ok-hashed_links.ensures.octets)

pub returns-in-Err-clause-refused : goal.returns-in-Err-clause-refused
returns-in-Err-clause-refused g c =
    let apex = c.args.apex.now in
    let rs = c.args.records.now in
    let answers = g.H.Nsec3Hasher.hash_of c.args.hasher.now in
    let p = c.args.parameters.now in
    is_unmade answers apex rs c.config_of-config.result p.iterations p.salt.now p.opt_out c.config_of-config.ensures.params c.config_of-config.ensures.dnskeys c.config_of-config.ensures.excluding c.in-Err.error
    (subst (λ xs. IsNsec3Fault (λ n. n) apex answers c.config_of-config.result xs c.in-Err.error) c.owner_rrs.ensures.records c.in-Err.ensures.refused)
