use Rattle.std.proofs.Common.{◌≡◌, ◌∷◌, [], ◌++◌, sym, ap, subst, ◌∙◌}
use Rattle.std.specs.List.{AllZip}
use Rattle.definitions.specs.Name.{low}
use Rattle.answer_terms.specs.GroupView.{Presents}
use Rattle.answer_terms.specs.Served.{rrset, unsigned_ns}
use Rattle.answer_zone.specs.HashedZone.{served_by}
use Rattle.answer_zone.proofs.Verdicts.{unsigned_presents}
use Rattle.answer_zone.proofs.zone.ZoneRecords.name_servers.Goals as goal

pub returns : goal.returns
returns g c =
    let s = served_by g.H.Nsec3Hasher.hash_of c.args.self.now in
    let n = low c.args.cut.now.name.now in
    let one : c.push.new.self.items ≡ c.unsigned.result ∷ [] = c.in_ok-push.ensures.items ∙ ap (λ x. x ++ c.unsigned.result ∷ []) c.new-groups.ensures.items in
    let is = unsigned_presents c.in_ok-servers.servers c.unsigned.result (rrset s n 2) c.unsigned.ensures c.in_ok-servers.ensures in
    subst (λ gs. AllZip Presents gs (unsigned_ns s n)) (sym one) (is, tt)
