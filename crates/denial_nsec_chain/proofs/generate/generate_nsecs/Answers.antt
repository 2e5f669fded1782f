use Rattle.std.proofs.Common.{◌∙◌}
use Rattle.denial_nsec_chain.proofs.Chained.{chain_speaks, made_chain}
use Rattle.denial_nsec_chain.proofs.generate.generate_nsecs.Goals as goal

pub returns-clause-chain : goal.returns-clause-chain
returns-clause-chain g c =
    made_chain g.N.Labels.name (g.N.Labels.name c.args.apex.now) c.args.records c.requires.class c.requires.order c.args.config.assume_dnskeys_will_be_added c.in_ok-chain.chain.soa c.in_ok-chain.ensures.soa
    c.chain_ttl-ttl.result c.chain_ttl-ttl.ensures c.deref.result.now (c.deref.ensures.value ∙ c.in_ok-chain.ensures.owners) _ c.in_ok-nsecs.ensures.ok

pub returns-clause-speaks : goal.returns-clause-speaks
returns-clause-speaks g c =
    chain_speaks g.N.Labels.name (g.N.Labels.name c.args.apex.now) c.args.records c.requires.class c.requires.order c.args.config.assume_dnskeys_will_be_added c.in_ok-chain.chain.soa c.in_ok-chain.ensures.soa
