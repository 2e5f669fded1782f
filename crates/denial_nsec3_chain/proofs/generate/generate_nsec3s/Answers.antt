use Rattle.std.proofs.Common.{Bool, List, map, subst, sym, ap, ◌∙◌}
use Rattle.definitions.specs.Name.{Name}
use Rattle.plain.specs.ZoneData.{zone_canonical, zone_type}
use Rattle.denial_nsec3_names.specs.Chained.{some_fails, TwoShare}
use Rattle.denial_chain_owners.specs.Kept.{kept_groups}
use Rattle.denial_chain_owners.specs.Refused.{IsOwnersFault}
use Rattle.denial_chain_owners.specs.Ttls.{has_unequal_ttls}
use Rattle.denial_nsec3_chain.specs.Linked.{linked, links_around}
use Rattle.denial_nsec3_chain.proofs.Generated.{chain_made, in_order, link_fault, names_listed, no_fault, owners_fault, speaks_now}
use Rattle.denial_nsec3_chain.proofs.generate.generate_nsec3s.Goals as goal

pub returns-in-Err-clause-refused : goal.returns-in-Err-clause-refused
returns-in-Err-clause-refused g c =
    let name = g.N.Labels.name in
    let apex = g.N.Labels.name c.args.apex.now in
    let P : Bool → Type 0 = λ b. IsOwnersFault name apex b c.args.records c.in-Err.error in
    owners_fault name apex (g.H.Nsec3Hasher.hash_of c.args.hasher.now) c.args.config.now c.args.records c.requires.class c.requires.order c.in-Err.error (subst P c.excludes.ensures c.in-Err.ensures.refused)

pub hashed_chain-requires : goal.hashed_chain-requires
hashed_chain-requires g c =
    let name = g.N.Labels.name in
    let apex = g.N.Labels.name c.args.apex.now in
    let are = c.deref.ensures.value ∙ c.in-Ok.ensures.owners ∙ ap (λ b. kept_groups name zone_type (zone_canonical name) apex b c.args.records) c.excludes.ensures in
    in_order name apex (g.H.Nsec3Hasher.hash_of c.args.hasher.now) c.args.config.now c.args.records c.requires.class c.requires.order c.deref.result.now are

pub returns-in-Err-Failed-clause-refused : goal.returns-in-Err-Failed-clause-refused
returns-in-Err-Failed-clause-refused g c =
    let name = g.N.Labels.name in
    let apex = g.N.Labels.name c.args.apex.now in
    let answers = g.H.Nsec3Hasher.hash_of c.args.hasher.now in
    let are = c.deref.ensures.value ∙ c.in-Ok.ensures.owners ∙ ap (λ b. kept_groups name zone_type (zone_canonical name) apex b c.args.records) c.excludes.ensures in
    ap (some_fails answers c.args.config.now.params) (sym (names_listed name apex answers c.args.config.now c.args.records c.requires.class c.requires.order c.deref.result.now are c.in-Ok.chain.soa c.in-Ok.ensures.soa))
    ∙ (rw c.in-Err-Failed.field-0-is at c.in-Err-Failed.ensures.refused)

pub returns-in-Err-Collision-clause-refused : goal.returns-in-Err-Collision-clause-refused
returns-in-Err-Collision-clause-refused g c =
    let name = g.N.Labels.name in
    let apex = g.N.Labels.name c.args.apex.now in
    let answers = g.H.Nsec3Hasher.hash_of c.args.hasher.now in
    let are = c.deref.ensures.value ∙ c.in-Ok.ensures.owners ∙ ap (λ b. kept_groups name zone_type (zone_canonical name) apex b c.args.records) c.excludes.ensures in
    let P : List Name → Type 0 = λ ns. TwoShare answers c.args.config.now.params ns in
    let refused = rw c.in-Err-Collision.field-0-is at c.in-Err-Collision.ensures.refused in
    subst P (names_listed name apex answers c.args.config.now c.args.records c.requires.class c.requires.order c.deref.result.now are c.in-Ok.chain.soa c.in-Ok.ensures.soa) refused

pub returns-in-Err-nsec3s_of-clause-refused : goal.returns-in-Err-nsec3s_of-clause-refused
returns-in-Err-nsec3s_of-clause-refused g c =
    let name = g.N.Labels.name in
    let apex = g.N.Labels.name c.args.apex.now in
    let answers = g.H.Nsec3Hasher.hash_of c.args.hasher.now in
    let are = c.deref.ensures.value ∙ c.in-Ok.ensures.owners ∙ ap (λ b. kept_groups name zone_type (zone_canonical name) apex b c.args.records) c.excludes.ensures in
    let f = c.in-Err-nsec3s_of.error in
    link_fault name apex answers c.args.config.now c.args.records c.requires.class c.requires.order c.deref.result.now are c.in-Ok.chain.soa c.in-Ok.ensures.soa c.in-Ok-hashed_chain.hashed.items c.in-Ok-hashed_chain.ensures.chain c.in-Ok-hashed_chain.ensures.hashed f
    c.in-Err-nsec3s_of.ensures.refused

pub returns-clause-chain : goal.returns-clause-chain
returns-clause-chain g c =
    let name = g.N.Labels.name in
    let apex = g.N.Labels.name c.args.apex.now in
    let answers = g.H.Nsec3Hasher.hash_of c.args.hasher.now in
    let cfg = c.args.config.now in
    let rs = c.args.records in
    let are = c.deref.ensures.value ∙ c.in-Ok.ensures.owners ∙ ap (λ b. kept_groups name zone_type (zone_canonical name) apex b c.args.records) c.excludes.ensures in
    let s = c.in-Ok.chain.soa in
    let hs = c.in-Ok-hashed_chain.hashed.items in
    let ttls = ap (λ b. has_unequal_ttls name zone_type (zone_canonical name) apex b rs) (sym c.excludes.ensures) ∙ c.in-Ok.ensures.ttls in (
      s,
      no_fault name apex answers cfg rs c.requires.class c.requires.order c.deref.result.now are s c.in-Ok.ensures.soa hs c.in-Ok-hashed_chain.ensures.chain ttls c.in-Ok-hashed_chain.ensures.hashed c.in-Ok-nsec3s_of.ensures.fit,
      ap (λ v. v.items) c.new.ensures.chain ∙ c.in-Ok-nsec3s_of.ensures.ok
          ∙ (λ i. map (linked name zone_type apex (record { params = cfg.params; dnskey = cfg.assume_dnskeys_will_be_added; ttl = c.chain_ttl.ensures i })) (links_around hs))
          ∙ chain_made name apex answers cfg rs c.requires.class c.requires.order c.deref.result.now are s c.in-Ok.ensures.soa hs c.in-Ok-hashed_chain.ensures.chain,
      c.new.ensures.param ∙ c.in_ok-nsec3param.ensures.ok,
    )

pub returns-clause-speaks : goal.returns-clause-speaks
returns-clause-speaks g c =
    let name = g.N.Labels.name in
    let apex = g.N.Labels.name c.args.apex.now in
    let answers = g.H.Nsec3Hasher.hash_of c.args.hasher.now in
    let are = c.deref.ensures.value ∙ c.in-Ok.ensures.owners ∙ ap (λ b. kept_groups name zone_type (zone_canonical name) apex b c.args.records) c.excludes.ensures in
    speaks_now name apex answers c.args.config.now c.args.records c.requires.class c.requires.order c.deref.result.now are c.in-Ok.chain.soa c.in-Ok.ensures.soa c.in-Ok-hashed_chain.hashed.items c.in-Ok-hashed_chain.ensures.chain
