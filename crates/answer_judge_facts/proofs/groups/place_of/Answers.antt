use Rattle.std.proofs.Common.{◌≡◌, true, rules, sym, subst}
use Rattle.std.specs.List.{list_any}
use Rattle.std.specs.Prelude.{IfSome, MatchOption, ◌<◌, false, get_or, length}
use Rattle.answer_judge_facts.specs.Marked.{is_of}
use Rattle.answer_judge_facts.specs.declared.groups.SignedRrset.{SignedRrset}
use Rattle.answer_judge_facts.proofs.GroupPlaces.{found_by_closure, within}
use Rattle.answer_judge_facts.proofs.groups.place_of.Goals as goal

pub returns-clause-within : goal.returns-clause-within
returns-clause-within c =
    let gs = c.args.groups.now in
    subst (λ r. IfSome r (λ i. i < length gs)) (sym c.ok.ensures.value) (within c.args.owner.now c.args.rtype gs c.requires c.binary_search_by.result c.binary_search_by.ensures.bound)

pub returns-clause-found : goal.returns-clause-found
returns-clause-found c =
    let gs = c.args.groups.now in
    let o = c.args.owner.now in
    let t = c.args.rtype in
    subst (λ r. MatchOption r (list_any (is_of o t) gs ≡ false) (λ i. (g : SignedRrset) → g ≡ get_or gs i g → is_of o t g ≡ true)) (sym c.ok.ensures.value)
    (found_by_closure o t gs c.requires (λ a r f k. search rules) c.binary_search_by.result c.binary_search_by.ensures.position)
