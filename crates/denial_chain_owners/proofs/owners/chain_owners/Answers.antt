use Rattle.std.proofs.Common.{◌∙◌, sym}
use Rattle.denial_chain_owners.proofs.ChainParts.{soa_kept, ttls_kept}
use Rattle.denial_chain_owners.proofs.owners.chain_owners.Goals as goal

pub returns-in_default-clause-refused : goal.returns-in_default-clause-refused
returns-in_default-clause-refused g c =
    sym (soa_kept g.N.Labels.name (g.N.Labels.name c.args.apex.now) c.args.excluding c.args.records c.requires.class c.requires.order c.deref.result.now (c.deref.ensures.value ∙ c.in_ok-owners.ensures))
    ∙ sym c.soa_ttls.ensures ∙ c.in_default.is

pub returns-then-have_unlike_ttls-clause-refused : goal.returns-then-have_unlike_ttls-clause-refused
returns-then-have_unlike_ttls-clause-refused g c =
    sym (ttls_kept g.N.Labels.name (g.N.Labels.name c.args.apex.now) c.args.excluding c.args.records c.requires.class c.requires.order c.deref-2.result.now (c.deref-2.ensures.value ∙ c.in_ok-owners.ensures))
    ∙ sym c.have_unlike_ttls.ensures ∙ c.if-have_unlike_ttls.true

pub returns-clause-soa : goal.returns-clause-soa
returns-clause-soa g c =
    sym (soa_kept g.N.Labels.name (g.N.Labels.name c.args.apex.now) c.args.excluding c.args.records c.requires.class c.requires.order c.deref.result.now (c.deref.ensures.value ∙ c.in_ok-owners.ensures))
    ∙ sym c.soa_ttls.ensures ∙ c.in-Some.is

pub returns-clause-ttls : goal.returns-clause-ttls
returns-clause-ttls g c =
    sym (ttls_kept g.N.Labels.name (g.N.Labels.name c.args.apex.now) c.args.excluding c.args.records c.requires.class c.requires.order c.deref-2.result.now (c.deref-2.ensures.value ∙ c.in_ok-owners.ensures))
    ∙ sym c.have_unlike_ttls.ensures ∙ c.if-have_unlike_ttls.false
