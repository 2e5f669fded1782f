use Rattle.std.proofs.Common.{◌≡◌, ◌&&◌, ◌+◌, ◌-◌, false, length, map, take, drop, subst, sym, ap, ◌∙◌, arith}
use Rattle.std.specs.Prelude.{MatchOption}
use Rattle.std.proofs.lemmas.List.{drop_all, length-take}
use Rattle.messages.specs.Record.{spelled}
use Rattle.answer_judge_facts.specs.Marked.{has_place, holds_one}
use Rattle.answer_judge_facts.specs.Ranked.{IsRun, alike_len, run_data}
use Rattle.answer_judge_facts.proofs.ChainRuns.{Gathering, all_gathered, nothing_yet}
use Rattle.answer_judge_facts.proofs.ChainSteps.{run_types, step_more, step_none, take_rest}
use Rattle.answer_judge_facts.proofs.facts.read_chain_groups.Goals as goal

pub loop-start-init : goal.loop-start-init
loop-start-init c =
    let m = c.args.message.now in
    let apex = c.args.apex.now in
    let rs = map spelled c.args.chained.now in (
      subst (Gathering m apex rs rs) (sym c.new-groups.ensures.items) (nothing_yet m apex rs c.requires.chain c.requires.sorted),
      omega arith,
    )

pub read_chain_group-requires-clause-alike : goal.read_chain_group-requires-clause-alike
read_chain_group-requires-clause-alike c =
    let vs = c.args.chained.now in
    let i = c.loop-start.start in
    let v = c.index-chained-start.result in
    let end = i + 1 + c.alike_len.result in
    let ends : end ≡ i + 1 + alike_len (spelled v) (map spelled (drop (i + 1) vs)) = ap (λ n. i + 1 + n) (c.alike_len.ensures.value ∙ ap (λ ws. alike_len (spelled v) (map spelled ws)) (take_rest (i + 1) vs)) in
    run_types c.args.message.now c.args.apex.now vs i v c.loop-start.groups.items c.loop-start-test.true c.index-chained-start.is c.loop-start.invariant.0 end ends

pub loop-start-preserved-in_ok-push : goal.loop-start-preserved-in_ok-push
loop-start-preserved-in_ok-push c =
    let m = c.args.message.now in
    let apex = c.args.apex.now in
    let vs = c.args.chained.now in
    let i = c.loop-start.start in
    let v = c.index-chained-start.result in
    let gs = c.loop-start.groups.items in
    let g = c.in-Some.group in
    let end = i + 1 + c.alike_len.result in
    let ends : end ≡ i + 1 + alike_len (spelled v) (map spelled (drop (i + 1) vs)) = ap (λ n. i + 1 + n) (c.alike_len.ensures.value ∙ ap (λ ws. alike_len (spelled v) (map spelled ws)) (take_rest (i + 1) vs)) in
    let ds = run_data m (map spelled (take (end - i) (drop i vs))) in
    let made : IsRun m apex (spelled v) ds g = subst (λ o. MatchOption o ((has_place v.rtype apex v.owner && holds_one v.rtype ds) ≡ false) (IsRun m apex (spelled v) ds)) c.in-Some.is c.in_ok-found.ensures in (
      subst (Gathering m apex (map spelled vs) (map spelled (drop end vs))) (sym c.in_ok-push.ensures.items) (step_more m apex vs i v gs c.loop-start-test.true c.index-chained-start.is c.loop-start.invariant.0 end ends g made),
      omega (arith, c.loop-start-test.true, c.alike_len.ensures.bound, length-take (length vs - (i + 1)) (drop (i + 1) vs)),
    )

pub loop-start-preserved : goal.loop-start-preserved
loop-start-preserved c =
    let m = c.args.message.now in
    let apex = c.args.apex.now in
    let vs = c.args.chained.now in
    let i = c.loop-start.start in
    let v = c.index-chained-start.result in
    let gs = c.loop-start.groups.items in
    let end = i + 1 + c.alike_len.result in
    let ends : end ≡ i + 1 + alike_len (spelled v) (map spelled (drop (i + 1) vs)) = ap (λ n. i + 1 + n) (c.alike_len.ensures.value ∙ ap (λ ws. alike_len (spelled v) (map spelled ws)) (take_rest (i + 1) vs)) in
    let ds = run_data m (map spelled (take (end - i) (drop i vs))) in
    let none : (has_place v.rtype apex v.owner && holds_one v.rtype ds) ≡ false = subst (λ o. MatchOption o ((has_place v.rtype apex v.owner && holds_one v.rtype ds) ≡ false) (IsRun m apex (spelled v) ds)) c.in_default.is c.in_ok-found.ensures in (
      step_none m apex vs i v gs c.loop-start-test.true c.index-chained-start.is c.loop-start.invariant.0 end ends none,
      omega (arith, c.loop-start-test.true, c.alike_len.ensures.bound, length-take (length vs - (i + 1)) (drop (i + 1) vs)),
    )

pub returns-clause-gathered : goal.returns-clause-gathered
returns-clause-gathered c =
    let m = c.args.message.now in
    let apex = c.args.apex.now in
    let vs = c.args.chained.now in
    let gs = c.loop-start.groups.items in
    all_gathered m apex (map spelled vs) gs (subst (λ ws. Gathering m apex (map spelled vs) (map spelled ws) gs) (drop_all c.loop-start.start vs (omega arith)) c.loop-start.invariant.0)
