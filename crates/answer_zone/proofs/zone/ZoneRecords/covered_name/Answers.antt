use Rattle.std.proofs.Common.{sym, ap, ◌∙◌}
use Rattle.definitions.specs.Name.{low}
use Rattle.answer_terms.specs.Accepting.{zone_with}
use Rattle.answer_terms.specs.ModeView.{mode_of}
use Rattle.answer_zone.proofs.Spoken.{covered_hash, covered_itself}
use Rattle.answer_zone.proofs.zone.ZoneRecords.covered_name.Goals as goal

pub returns-in-Nsec : goal.returns-in-Nsec
returns-in-Nsec g c =
    let z = c.args.self.now in
    covered_itself (zone_with z.apex z.records) z.mode (low c.args.name.now) (sym (ap (λ z. z.mode) c.self.view_is) ∙ ap mode_of c.in-Nsec.is)

pub returns-in-Nsec3 : goal.returns-in-Nsec3
returns-in-Nsec3 g c =
    let z = c.args.self.now in
    covered_hash (zone_with z.apex z.records) z.mode (low c.args.name.now) c.args.around.now c.in-Nsec3.iterations c.in-Nsec3.salt c.in-Nsec3.opt_out c.requires.around (sym (ap (λ z. z.mode) c.self.view_is) ∙ ap mode_of c.in-Nsec3.is)
