use Rattle.std.proofs.Common.{◌≡◌, List, map, sym, ap, subst, ◌∙◌}
use Rattle.answer_terms.specs.GroupView.{Adds}
use Rattle.answer_terms.specs.HashedLinks.{HashedLink, hashed_said_of}
use Rattle.answer_zone_records.specs.Round.{IsCircle}
use Rattle.answer_terms.specs.Hashing.{hash_in}
use Rattle.answer_terms.specs.Served.{chain_ttl}
use Rattle.answer_zone.proofs.zone.ZoneRecords.push_hashed_proofs.Goals as goal

pub push_hashed_links-requires : goal.push_hashed_links-requires
push_hashed_links-requires g c = subst (λ (ls : List HashedLink). IsCircle ls) (sym c.deref.ensures.value) c.requires

pub returns-clause-adds : goal.returns-clause-adds
returns-clause-adds g c =
    let z = c.args.self.now in
    let old = c.args.groups.now.items in
    let new = c.push_hashed_links.new.groups.items in
    let hash = hash_in (g.H.Nsec3Hasher.hash_of z.hasher) z.mode in
    let links = c.args.links.now.items in
    let ttl : c.self.inside.link_ttl ≡ chain_ttl z.apex z.records = c.self.invariant.3 ∙ ap (λ z. chain_ttl z.apex z.records) c.self.view_is in
    let hs : map (λ h. h.items) c.deref-2.result.now ≡ map (λ n. hash n.now) c.args.names.now = ap (map (λ h. h.items)) c.deref-2.ensures.value ∙ c.in_ok-hashes.ensures.hashes in
    let ls : c.deref.result.now ≡ links = c.deref.ensures.value in
    subst (Adds old new) (λ i. hashed_said_of (ttl i) (hs i) (ls i)) c.in_ok-push_hashed_links.ensures
