use Rattle.std.proofs.Common.{◌≡◌, ◌+◌, ◌<◌, length, ap, ◌∙◌, arith}
use Rattle.definitions.specs.Name.{low}
use Rattle.definitions.specs.Zone.{star_under}
use Rattle.definitions.specs.ZoneChain.{optout_of}
use Rattle.denial_laws.specs.OwnFacts.{kept_ancestor}
use Rattle.answer_terms.specs.Accepting.{zone_with}
use Rattle.answer_zone.proofs.Enclosers.{closer_found}
use Rattle.answer_zone.proofs.zone.ZoneRecords.around.Goals as goal

pub returns : goal.returns
returns g c =
    let z = c.args.self.now in
    let zone = zone_with z.apex z.records in
    let q = low c.args.name.now in
    let n = c.args.name.now in
    let e = c.in_ok-encloser.encloser in
    let encloser : low e ≡ kept_ancestor zone (optout_of z.mode) q = c.in_ok-encloser.ensures.ancestor in
    let count = c.one_more-count.result in
    let few : length e < length n → count ≡ length e + 1 = λ h. c.one_more-count.ensures.fewer (omega (arith, h, c.depth.ensures, c.depth-2.ensures)) ∙ ap (λ k. k + 1) c.depth.ensures in
    record {
      encloser = encloser;
      closer = closer_found zone (optout_of z.mode) n e c.in_ok-closer.closer count encloser c.in_ok-closer.ensures.labels few;
      star = ap low c.in_ok-star.ensures ∙ ap star_under encloser;
    }
