use Rattle.std.proofs.Common.{sym, ap}
use Rattle.std.specs.Prelude.{nat_lt}
use Rattle.answer_zone.specs.Questions.{zone_of}
use Rattle.answer_zone.specs.ZoneAnswers.{answered}
use Rattle.answer_zone.proofs.Verdicts.{referred}
use Rattle.answer_zone.proofs.zone.ZoneRecords.finds.Goals as goal

pub returns-in-Away : goal.returns-in-Away
returns-in-Away g c = sym (ap (λ v. nat_lt 0 (answered v)) (referred (zone_of c.args.self.now) c.args.name.now c.args.rtype _ c.in-Away.ensures.0))
