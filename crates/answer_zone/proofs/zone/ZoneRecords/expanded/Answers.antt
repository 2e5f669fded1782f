use Rattle.std.proofs.Common.{List, [], ◌∷◌, ◌++◌, refl, sym, ap, subst, ◌∙◌}
use Rattle.std.specs.List.{AllZip}
use Rattle.definitions.specs.Name.{Name, low}
use Rattle.answer_terms.specs.GroupView.{Presents}
use Rattle.answer_terms.specs.Served.{proofs_of}
use Rattle.answer_zone.specs.HashedZone.{AreHashed, served_by}
use Rattle.answer_zone.proofs.zone.ZoneRecords.expanded.Goals as goal

pub returns-clause-answer : goal.returns-clause-answer
returns-clause-answer g c =
    let s = served_by g.H.Nsec3Hasher.hash_of c.args.self.now in
    let more = c.in_ok-push_proofs.ensures.adds in
    record {
      flags_are = refl;
      found_are = c.in_ok-under_name.ensures;
      rest_are = subst (λ qs. AllZip Presents c.push_proofs.new.groups.items (proofs_of s qs)) c.covered_name-covered.ensures
          (subst (λ gs. AllZip Presents gs (proofs_of s (low c.covered_name-covered.result.now ∷ []))) (sym (more.2 ∙ ap (λ x. x ++ more.0) c.new-authority.ensures.items)) more.1);
    }

pub returns-clause-hashed : goal.returns-clause-hashed
returns-clause-hashed g c =
    let z = c.args.self.now in
    subst (λ (qs : List Name). AreHashed (g.H.Nsec3Hasher.hash_of z.hasher) z.mode qs) c.covered_name-covered.ensures c.in_ok-push_proofs.ensures.hashed
