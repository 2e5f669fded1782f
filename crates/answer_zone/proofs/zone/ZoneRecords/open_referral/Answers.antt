use Rattle.std.proofs.Common.{[], false, refl, sym, subst}
use Rattle.std.specs.List.{AllZip}
use Rattle.definitions.specs.Name.{low}
use Rattle.denial_laws.specs.OwnFacts.{open_spoken}
use Rattle.answer_terms.specs.Accepting.{zone_with}
use Rattle.answer_terms.specs.GroupView.{Presents}
use Rattle.answer_terms.specs.Served.{proofs_of, unsigned_ns}
use Rattle.answer_zone.specs.HashedZone.{served_by}
use Rattle.answer_zone_records.proofs.ZoneLinks.{added}
use Rattle.answer_zone.proofs.zone.ZoneRecords.open_referral.Goals as goal

pub returns-clause-answer : goal.returns-clause-answer
returns-clause-answer g c =
    let z = c.args.self.now in
    let s = served_by g.H.Nsec3Hasher.hash_of z in
    let said = open_spoken (zone_with z.apex z.records) z.mode (low c.args.name.now) false in
    record {
      flags_are = refl;
      found_are = subst (λ gs. AllZip Presents gs []) (sym c.new.ensures.items) tt;
      rest_are = added c.in_ok-authority.authority.items c.push_open_proofs.new.groups.items (unsigned_ns s (low c.args.cut.now.name.now)) (proofs_of s said) c.in_ok-authority.ensures c.in_ok-push_open_proofs.ensures.adds;
    }
