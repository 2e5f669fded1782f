use Rattle.std.proofs.Common.{List, ap, sym, subst, ◌∙◌}
use Rattle.std.proofs.lemmas.Result.{on_ok_weaker}
use Rattle.definitions.specs.Name.{Name, low}
use Rattle.denial_laws.specs.OwnFacts.{open_spoken}
use Rattle.answer_terms.specs.Accepting.{zone_with}
use Rattle.answer_terms.specs.GroupView.{Adds}
use Rattle.answer_terms.specs.Served.{proofs_of}
use Rattle.answer_zone.specs.HashedZone.{HashesEach, served_by}
use Rattle.answer_zone.proofs.Spoken.{open_names, open_star_names}
use Rattle.answer_zone.proofs.zone.ZoneRecords.push_open_proofs.Goals as goal

pub returns-then-star : goal.returns-then-star
returns-then-star g c =
    let z = c.args.self.now in
    let s = served_by g.H.Nsec3Hasher.hash_of z in
    let zone = zone_with z.apex z.records in
    let q = low c.args.name.now in
    let said = open_star_names zone z.mode q c.in_ok-around.around c.in_ok-around.ensures ∙ ap (open_spoken zone z.mode q) (sym c.if-star.true) in
    record {
      adds = on_ok_weaker c.push_proofs.result (λ a. subst (λ qs. Adds c.args.groups.now.items c.push_proofs.new.groups.items (proofs_of s qs)) said a) c.push_proofs.ensures.adds;
      hashed = subst (λ (qs : List Name). HashesEach (g.H.Nsec3Hasher.hash_of z.hasher) z.mode qs c.push_proofs.result) said c.push_proofs.ensures.hashed;
    }

pub returns : goal.returns
returns g c =
    let z = c.args.self.now in
    let s = served_by g.H.Nsec3Hasher.hash_of z in
    let zone = zone_with z.apex z.records in
    let q = low c.args.name.now in
    let said = open_names zone z.mode q c.in_ok-around.around c.in_ok-around.ensures ∙ ap (open_spoken zone z.mode q) (sym c.if-star.false) in
    record {
      adds = on_ok_weaker c.push_proofs-2.result (λ a. subst (λ qs. Adds c.args.groups.now.items c.push_proofs-2.new.groups.items (proofs_of s qs)) said a) c.push_proofs-2.ensures.adds;
      hashed = subst (λ (qs : List Name). HashesEach (g.H.Nsec3Hasher.hash_of z.hasher) z.mode qs c.push_proofs-2.result) said c.push_proofs-2.ensures.hashed;
    }
