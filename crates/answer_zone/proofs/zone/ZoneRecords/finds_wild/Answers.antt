use Rattle.std.proofs.Common.{false, sym, ap, ◌∙◌}
use Rattle.std.specs.Prelude.{nat_lt}
use Rattle.definitions.specs.Name.{low}
use Rattle.definitions.specs.Zone.{cut_above}
use Rattle.answer_zone.specs.Questions.{zone_of}
use Rattle.answer_zone.specs.ZoneAnswers.{answered}
use Rattle.answer_zone.proofs.Placing.{uncut_encloser}
use Rattle.answer_zone.proofs.Replies.{star_found, star_lacks, unexpanded}
use Rattle.answer_zone.proofs.zone.ZoneRecords.finds_wild.Goals as goal

pub returns-then-not-expands : goal.returns-then-not-expands
returns-then-not-expands g c =
    let x = c.args.self.now in
    sym (ap (λ v. nat_lt 0 (answered v)) (unexpanded x.apex x.records c.args.name.now c.args.rtype c.requires.own.0 c.keeps.ensures.published.soa c.requires.gone c.in_ok-star.star c.in_ok-star.ensures c.expands.result c.expands.ensures c.if-not-expands.true))

pub returns-then-has : goal.returns-then-has
returns-then-has g c =
    let x = c.args.self.now in
    sym (ap (λ v. nat_lt 0 (answered v)) (star_found x.apex x.records c.args.name.now c.args.rtype c.requires.own.0 c.keeps.ensures.published.soa c.requires.gone c.in_ok-star.star c.in_ok-star.ensures c.expands.result c.expands.ensures c.if-not-expands.false c.owned-wild.result c.owned-wild.ensures c.has.result c.has.ensures c.if-has.true))

pub returns : goal.returns
returns g c =
    let x = c.args.self.now in
    sym (ap (λ v. nat_lt 0 (answered v)) (star_lacks x.apex x.records c.args.name.now c.args.rtype c.requires.own.0 c.keeps.ensures.published.soa c.requires.gone c.in_ok-star.star c.in_ok-star.ensures c.expands.result c.expands.ensures c.if-not-expands.false c.owned-wild.result c.owned-wild.ensures c.has.result c.has.ensures c.if-has.false))

pub expands-requires-clause-uncut : goal.expands-requires-clause-uncut
expands-requires-clause-uncut g c = λ inside.
    ap (cut_above (zone_of c.args.self.now)) c.in_ok-star.ensures ∙ uncut_encloser (zone_of c.args.self.now) false (low c.args.name.now) c.requires.own.1
