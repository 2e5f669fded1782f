use Rattle.std.proofs.Common.{true, sym, ap, ◌∙◌}
use Rattle.std.specs.List.{list_any}
use Rattle.definitions.specs.Name.{at_or_above}
use Rattle.definitions.specs.Zone.{kept_owners}
use Rattle.definitions.specs.ZoneChain.{optout_of}
use Rattle.answer_terms.specs.Accepting.{zone_with}
use Rattle.answer_zone.proofs.zone.ZoneRecords.near_kept.Goals as goal

pub returns : goal.returns
returns g c = λ a h.
    let kept = c.self.invariant.5 (ap (λ z. optout_of z.mode) c.self.view_is ∙ c.requires) in
    sym (ap (λ z. list_any (at_or_above a) (kept_owners (zone_with z.apex z.records) true)) c.self.view_is)
    ∙ kept.shows a ∙ ap (list_any (at_or_above a)) (sym c.deref.ensures.value) ∙ c.neighbours_of.ensures.shows a h
