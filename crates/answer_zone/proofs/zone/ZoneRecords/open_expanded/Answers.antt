use Rattle.std.proofs.Common.{◌++◌, false, refl, sym, ap, subst, ◌∙◌}
use Rattle.std.specs.List.{AllZip}
use Rattle.definitions.specs.Name.{low}
use Rattle.denial_laws.specs.OwnFacts.{open_spoken}
use Rattle.answer_terms.specs.Accepting.{zone_with}
use Rattle.answer_terms.specs.GroupView.{Presents}
use Rattle.answer_terms.specs.Served.{proofs_of}
use Rattle.answer_zone.specs.HashedZone.{served_by}
use Rattle.answer_zone.proofs.zone.ZoneRecords.open_expanded.Goals as goal

pub returns-clause-answer : goal.returns-clause-answer
returns-clause-answer g c =
    let z = c.args.self.now in
    let s = served_by g.H.Nsec3Hasher.hash_of z in
    let said = open_spoken (zone_with z.apex z.records) z.mode (low c.args.name.now) false in
    let more = c.in_ok-push_open_proofs.ensures.adds in
    record {
      flags_are = refl;
      found_are = c.in_ok-under_name.ensures;
      rest_are = subst (λ gs. AllZip Presents gs (proofs_of s said)) (sym (more.2 ∙ ap (λ x. x ++ more.0) c.new-authority.ensures.items)) more.1;
    }
