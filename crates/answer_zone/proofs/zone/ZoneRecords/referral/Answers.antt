use Rattle.std.proofs.Common.{[], ◌∷◌, ◌++◌, refl, sym, subst}
use Rattle.std.specs.List.{AllZip}
use Rattle.definitions.specs.Name.{low}
use Rattle.answer_terms.specs.GroupView.{Presents}
use Rattle.answer_terms.specs.Served.{if_any, proofs_of, unsigned_ns}
use Rattle.answer_zone.specs.HashedZone.{served_by}
use Rattle.answer_zone_records.proofs.ZoneLinks.{adds_then, added}
use Rattle.answer_zone.proofs.zone.ZoneRecords.referral.Goals as goal

pub returns-clause-answer : goal.returns-clause-answer
returns-clause-answer g c =
    let s = served_by g.H.Nsec3Hasher.hash_of c.args.self.now in
    let n = low c.args.cut.now.name.now in
    let old = c.in_ok-authority.authority.items in
    let mid = c.push_ds.new.groups.items in
    let all = c.push_proofs.new.groups.items in
    record {
      flags_are = refl;
      found_are = subst (λ gs. AllZip Presents gs []) (sym c.new.ensures.items) tt;
      rest_are = added old all (unsigned_ns s n) (if_any s n 43 ++ proofs_of s (n ∷ [])) c.in_ok-authority.ensures
          (adds_then old mid all (if_any s n 43) (proofs_of s (n ∷ [])) c.in_ok-push_ds.ensures c.in_ok-push_proofs.ensures.adds);
    }
