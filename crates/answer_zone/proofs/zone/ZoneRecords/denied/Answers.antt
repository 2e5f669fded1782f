use Rattle.std.proofs.Common.{List, [], ◌∷◌, sym, ap, subst, ◌∙◌}
use Rattle.definitions.specs.Name.{Name, low}
use Rattle.answer_terms.specs.Accepting.{zone_with}
use Rattle.answer_terms.specs.Served.{proofs_of, soa}
use Rattle.answer_terms.proofs.ZoneData.{if_ok_map}
use Rattle.answer_zone.specs.HashedZone.{HashesEach, served_by}
use Rattle.answer_terms.specs.ModeView.{mode_of}
use Rattle.answer_zone.specs.ZoneAnswers.{Holds}
use Rattle.answer_zone.proofs.Spoken.{denied_hashes, denied_names}
use Rattle.answer_zone.proofs.zone.ZoneRecords.denied.Goals as goal

pub returns-in-Nsec : goal.returns-in-Nsec
returns-in-Nsec g c =
    let z = c.args.self.now in
    let s = served_by g.H.Nsec3Hasher.hash_of z in
    let said = denied_names (zone_with z.apex z.records) z.mode (low c.args.name.now) c.args.around.now c.requires.around (sym (ap (λ z. z.mode) c.self.view_is) ∙ ap mode_of c.in-Nsec.is) in
    let hash = g.H.Nsec3Hasher.hash_of z.hasher in
    record {
      answer = if_ok_map _ _ c.missing.result (λ a h. subst (λ (qs : List Name). Holds c.args.flags [] (soa s ∷ proofs_of s qs) a) said h) c.missing.ensures.answer;
      hashed = subst (λ (qs : List Name). HashesEach hash z.mode qs c.missing.result) said c.missing.ensures.hashed;
    }

pub returns-in-Nsec3 : goal.returns-in-Nsec3
returns-in-Nsec3 g c =
    let z = c.args.self.now in
    let s = served_by g.H.Nsec3Hasher.hash_of z in
    let said = denied_hashes (zone_with z.apex z.records) z.mode (low c.args.name.now) c.args.around.now c.in-Nsec3.iterations c.in-Nsec3.salt c.in-Nsec3.opt_out c.requires.around (sym (ap (λ z. z.mode) c.self.view_is) ∙ ap mode_of c.in-Nsec3.is) in
    let hash = g.H.Nsec3Hasher.hash_of z.hasher in
    record {
      answer = if_ok_map _ _ c.missing-in-Nsec3.result (λ a h. subst (λ (qs : List Name). Holds c.args.flags [] (soa s ∷ proofs_of s qs) a) said h) c.missing-in-Nsec3.ensures.answer;
      hashed = subst (λ (qs : List Name). HashesEach hash z.mode qs c.missing-in-Nsec3.result) said c.missing-in-Nsec3.ensures.hashed;
    }
