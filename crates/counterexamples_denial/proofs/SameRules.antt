-- With all choices made rightly the rules are those of `denial_laws`.
use Rattle.std.proofs.Common.{refl, sym, ◌∙◌}
use Rattle.denial_laws.proofs.Sound.{true_facts_decide_truly}
use Rattle.denial_laws.proofs.Complete.{own_answers_decide}
use Rattle.counterexamples_denial.specs.Falsely.{RightChoicesAreTheRules, RightChoicesAreNeverFalse, RightChoicesMissNothing}

pub same_rules : RightChoicesAreTheRules
same_rules apex hash f q t = refl

pub never_false : RightChoicesAreNeverFalse
never_false mode d =
    let says = sym (same_rules d.zone.name d.hash d.facts d.name d.rtype) ∙ d.says in
    d.otherwise (true_facts_decide_truly d.zone d.hash mode d.facts d.name d.rtype d.said d.servable d.fits d.holds says)

pub none_missed : RightChoicesMissNothing
none_missed mode d =
    let says = own_answers_decide d.zone d.hash mode d.name d.rtype d.servable d.unshared d.fits d.inside d.asked d.unaliased in
    d.misses (same_rules d.zone.name d.hash _ d.name d.rtype ∙ says)
