use Rattle.std.proofs.Common.{◌≡◌, ℕ, [], ◌∷◌, ◌++◌, map, true, sym, ap, subst, ◌∙◌}
use Rattle.std.specs.Prelude.{if◌then◌else◌}
use Rattle.std.specs.List.{AllZip}
use Rattle.definitions.specs.Name.{Name, low}
use Rattle.definitions.specs.Zone.{data_at}
use Rattle.answer_terms.specs.Accepting.{zone_with}
use Rattle.answer_terms.specs.GroupView.{Presents}
use Rattle.answer_terms.specs.Served.{ServedRrset, chain_ttl, written_under, rrset, ttl_among, under, written_among}
use Rattle.answer_zone.specs.HashedZone.{served_by}
use Rattle.answer_zone.proofs.zone.ZoneRecords.under_name.Goals as goal

pub returns : goal.returns
returns g c =
    let apex = c.args.self.now.apex in
    let rs = c.args.self.now.records in
    let o = low c.args.source.now in
    let t = c.args.rtype in
    let v = c.in_ok-rrset.field-0 in
    let s = served_by g.H.Nsec3Hasher.hash_of c.args.self.now in
    let one : c.push.new.self.items ≡ v ∷ [] = c.in_ok-push.ensures.items ∙ ap (λ x. x ++ v ∷ []) c.new-groups.ensures.items in
    let G : Name → ℕ → ServedRrset = λ n m. record { owner = n; source = o; rtype = t; ttl = m; written = map (written_under n) (written_among rs o t); datas = data_at (zone_with apex rs) o t; signed = true } in
    let name = c.in_ok-owner.ensures in
    let ttl = sym (ap (λ b. if b then chain_ttl apex rs else ttl_among rs o t) c.requires.plain) in
    let is : Presents v (under c.args.name.now (rrset s o t)) = subst (Presents v) (λ i. G (name i) (ttl i)) c.in_ok-rrset.ensures in
    subst (λ gs. AllZip Presents gs (under c.args.name.now (rrset s o t) ∷ [])) (sym one) (is, tt)
