use Rattle.std.proofs.Common.{◌≡◌, ◌&&◌, true, false, sym, ap, ◌∙◌}
use Rattle.std.specs.List.{list_any}
use Rattle.definitions.specs.Name.{Name, at_or_above, low, strictly_above}
use Rattle.definitions.specs.Zone.{kept, kept_owners}
use Rattle.definitions.specs.ZoneChain.{optout_of}
use Rattle.definitions.proofs.ZoneNames.{low-low}
use Rattle.denial_laws.specs.OwnFacts.{kept_ancestor}
use Rattle.denial_laws.proofs.NameFacts.{above-low, strictly_at}
use Rattle.answer_zone_records.specs.Near.{shows}
use Rattle.answer_terms.specs.Accepting.{zone_with}
use Rattle.answer_terms.proofs.ZoneData.{if_ok_map}
use Rattle.answer_zone.specs.Placed.{shown_ancestor}
use Rattle.answer_zone.proofs.Enclosers.{shown_is_kept}
use Rattle.answer_zone.proofs.Placing.{any_lowered, exists_here, none_further, none_strictly}
use Rattle.answer_zone.proofs.zone.ZoneRecords.chain_encloser.Goals as goal

pub returns-then-opts_out-clause-ancestor : goal.returns-then-opts_out-clause-ancestor
returns-then-opts_out-clause-ancestor g c =
    let x = c.args.self.now in
    let z = zone_with x.apex x.records in
    let q = c.args.name.now in
    let near = c.near_kept.result in
    let ex : optout_of x.mode ≡ true = sym (ap (λ z. optout_of z.mode) c.self.view_is) ∙ sym c.opts_out.ensures ∙ c.if-opts_out.true in
    let shows_kept : (a : Name) → strictly_above a q ≡ true → kept z true (low a) ≡ (at_or_above x.apex a && shows near a) = λ a s.
    ap (λ b. b && list_any (at_or_above (low a)) (kept_owners z true)) (above-low x.apex a)
    ∙ ap (λ b. at_or_above x.apex a && b) (any_lowered a (kept_owners z true) ∙ c.near_kept.ensures a (strictly_at a q s)) in
    let is : low (shown_ancestor x.apex near q) ≡ kept_ancestor z (optout_of x.mode) (low q) = shown_is_kept x.apex near z true q shows_kept ∙ ap (λ b. kept_ancestor z b (low q)) (sym ex) in
    if_ok_map (λ e. e ≡ shown_ancestor c.self.inside.apex near q) (λ e. low e ≡ kept_ancestor z (optout_of x.mode) (low q)) c.encloser_of.result
    (λ e h. ap low (h ∙ ap (λ z. shown_ancestor z.apex near q) c.self.view_is) ∙ is) c.encloser_of.ensures.ancestor

pub returns-else-opts_out-clause-ancestor : goal.returns-else-opts_out-clause-ancestor
returns-else-opts_out-clause-ancestor g c =
    let x = c.args.self.now in
    let z = zone_with x.apex x.records in
    let q = c.args.name.now in
    let near = c.args.near.now in
    let ex : optout_of x.mode ≡ false = sym (ap (λ z. optout_of z.mode) c.self.view_is) ∙ sym c.opts_out.ensures ∙ c.if-opts_out.false in
    let none = none_strictly z (low q) (low-low q) (c.requires.uncut ex) in
    let shows_kept = λ (a : Name) (s : strictly_above a q ≡ true).
    exists_here x.apex x.records a (none_further z (low a) (low q) none (above-low a q ∙ strictly_at a q s)) ∙ ap (λ b. at_or_above x.apex a && b) (c.requires.near.shows a (strictly_at a q s)) in
    let is : low (shown_ancestor x.apex near q) ≡ kept_ancestor z (optout_of x.mode) (low q) = shown_is_kept x.apex near z false q shows_kept ∙ ap (λ b. kept_ancestor z b (low q)) (sym ex) in
    if_ok_map (λ e. e ≡ shown_ancestor c.self.inside.apex near q) (λ e. low e ≡ kept_ancestor z (optout_of x.mode) (low q)) c.encloser_of-else-opts_out.result
    (λ e h. ap low (h ∙ ap (λ z. shown_ancestor z.apex near q) c.self.view_is) ∙ is) c.encloser_of-else-opts_out.ensures.ancestor
