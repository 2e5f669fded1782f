-- One zone with either chain has one verdict of a question.
use Rattle.std.proofs.Common.{false, List, ap, ◌∙◌, subst}
use Rattle.definitions.specs.Name.{Name}
use Rattle.definitions.specs.Zone.{Verdict, verdict}
use Rattle.definitions.specs.ZoneChain.{Nsec, Nsec3}
use Rattle.messages.specs.HandedRr.{HandedRr}
use Rattle.messages.specs.Message.{Asked}
use Rattle.answer_terms.specs.Accepting.{zone_of}
use Rattle.answer_judge.specs.BothChains.{ChainsSayTheSame}
use Rattle.answer_judge.specs.Judged.{AnswersAs}
use Rattle.answer_judge.specs.Judging.{Says}

abbrev verdict_of : List HandedRr → Name → Asked → Verdict
verdict_of rs apex asked = verdict (zone_of apex rs) false asked.name asked.rtype

pub chains_say_the_same : ChainsSayTheSame
chains_say_the_same a b k named hashed rs iterations salt apex_is asked_is w u x y =
    let one = ap (λ n. verdict_of rs n hashed.asked) apex_is ∙ ap (verdict_of rs named.apex) asked_is in (
      verdict_of rs named.apex named.asked,
      x.is.given Nsec rs w,
      subst (λ v. AnswersAs y.answer (Says v)) one (y.is.given (Nsec3 iterations salt false) rs u),
    )
