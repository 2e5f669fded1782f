use Rattle.std.proofs.Common.{◌≡◌, List, map, sym, ap, subst, ◌∙◌}
use Rattle.definitions.specs.Name.{Name, low}
use Rattle.answer_terms.specs.GroupView.{Adds}
use Rattle.answer_terms.specs.Links.{ChainLink, said_of}
use Rattle.answer_zone_records.specs.Round.{IsRound}
use Rattle.answer_terms.specs.Served.{chain_ttl}
use Rattle.answer_zone.proofs.zone.ZoneRecords.push_named_proofs.Goals as goal

pub push_links-requires : goal.push_links-requires
push_links-requires g c =
    let name : c.self.inside.apex ≡ c.args.self.now.apex = ap (λ z. z.apex) c.self.view_is in
    subst (λ (ls : List ChainLink). IsRound c.self.inside.apex ls) (sym c.deref.ensures.value) (subst (λ (n : Name). IsRound n c.args.links.now.items) (sym name) c.requires)

pub returns-clause-adds : goal.returns-clause-adds
returns-clause-adds g c =
    let z = c.args.self.now in
    let old = c.args.groups.now.items in
    let new = c.push_links.new.groups.items in
    let qs : List Name = map (λ n. low n.now) c.args.names.now in
    let links = c.args.links.now.items in
    let name : c.self.inside.apex ≡ z.apex = ap (λ z. z.apex) c.self.view_is in
    let ttl : c.self.inside.link_ttl ≡ chain_ttl z.apex z.records = c.self.invariant.3 ∙ ap (λ z. chain_ttl z.apex z.records) c.self.view_is in
    let ls : c.deref.result.now ≡ links = c.deref.ensures.value in
    subst (Adds old new) (λ i. said_of (name i) (ttl i) qs (ls i)) c.in_ok-push_links.ensures
