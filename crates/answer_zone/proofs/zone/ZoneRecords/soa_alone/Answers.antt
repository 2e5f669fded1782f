use Rattle.std.proofs.Common.{◌≡◌, ◌∷◌, [], ◌++◌, sym, ap, subst, ◌∙◌}
use Rattle.std.specs.List.{AllZip}
use Rattle.answer_terms.specs.GroupView.{Presents}
use Rattle.answer_terms.specs.Served.{soa}
use Rattle.answer_zone.specs.HashedZone.{served_by}
use Rattle.answer_zone.proofs.zone.ZoneRecords.soa_alone.Goals as goal

pub returns : goal.returns
returns g c =
    let s = served_by g.H.Nsec3Hasher.hash_of c.args.self.now in
    let one : c.push.new.self.items ≡ c.in_ok-soa.field-0 ∷ [] = c.in_ok-push.ensures.items ∙ ap (λ x. x ++ c.in_ok-soa.field-0 ∷ []) c.new-groups.ensures.items in
    subst (λ gs. AllZip Presents gs (soa s ∷ [])) (sym one) (c.in_ok-soa.ensures, tt)
