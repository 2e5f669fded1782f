use Rattle.std.proofs.Common.{sym, ap, ◌∙◌}
use Rattle.std.specs.Prelude.{is_some}
use Rattle.answer_judge_facts.specs.declared.groups.SignedRrset.{SignedRrset}
use Rattle.answer_judge_facts.proofs.ChainRuns.{ranked_apart}
use Rattle.answer_judge_facts.proofs.GroupPlaces.{none_proved, proved_at}
use Rattle.answer_judge_facts.proofs.facts.is_verified.Goals as goal

pub returns-in-None : goal.returns-in-None
returns-in-None c = sym (none_proved c.args.owner.now c.args.rtype c.args.groups.now c.in-None.ensures.found)

pub returns-in-Some : goal.returns-in-Some
returns-in-Some c =
    let gs = c.args.groups.now in
    let x = c.index-groups-place.result in
    c.is_some.ensures ∙ ap (λ (g : SignedRrset). is_some g.verified) (sym c.index-groups-place.is)
    ∙ sym (proved_at c.args.owner.now c.args.rtype gs c.in-Some.place x (ranked_apart gs c.requires.ranked) c.in-Some.ensures.within c.index-groups-place.is (c.in-Some.ensures.found x c.index-groups-place.is))
