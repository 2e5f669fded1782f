use Rattle.std.proofs.Common.{◌≡◌, ◌&&◌, true, false, ap, ◌∙◌}
use Rattle.definitions.specs.Name.{Name, at_or_above, low, strictly_above}
use Rattle.definitions.specs.Zone.{star_under}
use Rattle.definitions.proofs.ZoneNames.{low-low}
use Rattle.denial_laws.specs.OwnFacts.{kept_ancestor}
use Rattle.denial_laws.proofs.NameFacts.{above-low, strictly_at}
use Rattle.answer_terms.specs.Accepting.{zone_with}
use Rattle.answer_terms.proofs.ZoneData.{if_ok_map}
use Rattle.answer_zone.specs.Placed.{shown_ancestor}
use Rattle.answer_zone.proofs.Enclosers.{shown_is_kept}
use Rattle.answer_zone.proofs.Placing.{exists_here, none_further, none_strictly}
use Rattle.answer_zone.proofs.zone.ZoneRecords.closest_wildcard.Goals as goal

pub returns : goal.returns
returns g c =
    let x = c.args.self.now in
    let z = zone_with x.apex x.records in
    let q = c.args.name.now in
    let near = c.args.near.now in
    let none = none_strictly z (low q) (low-low q) c.requires.uncut in
    let shows_kept = λ (a : Name) (s : strictly_above a q ≡ true).
    exists_here x.apex x.records a (none_further z (low a) (low q) none (above-low a q ∙ strictly_at a q s)) ∙ ap (λ b. at_or_above x.apex a && b) (c.requires.near.shows a (strictly_at a q s)) in
    let is : low c.in_ok-encloser.encloser ≡ kept_ancestor z false (low q) =
    ap low (c.in_ok-encloser.ensures.ancestor ∙ ap (λ z. shown_ancestor z.apex near q) c.self.view_is) ∙ shown_is_kept x.apex near z false q shows_kept in
    if_ok_map (λ s. s ≡ star_under c.in_ok-encloser.encloser) (λ s. low s ≡ star_under (kept_ancestor z false (low q))) c.wildcard_under.result
    (λ s h. ap low h ∙ ap star_under is) c.wildcard_under.ensures
