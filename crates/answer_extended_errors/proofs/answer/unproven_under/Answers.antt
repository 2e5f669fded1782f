use Rattle.std.proofs.Common.{rules, ◌≡◌, ◌==◌, true, false, [], ◌∷◌, ◌++◌, filter, length, map, sym, ap, subst, ◌∙◌}
use Rattle.std.specs.Prelude.{IfOk}
use Rattle.std.specs.List.{AllByRecursion}
use Rattle.std.specs.List.Sorted.{IsPermutation, IsSortedBy}
use Rattle.std.specs.Ordering.{is_lt}
use Rattle.definitions.specs.Limits.{pointer_limit}
use Rattle.messages.specs.Questions.{asked_of}
use Rattle.messages.specs.Record.{spelled}
use Rattle.answer_scheme.specs.Answers.{with_test}
use Rattle.answer_judge_facts.specs.Marked.{AreGathered, data_in, held_by, is_chain}
use Rattle.answer_judge_facts.specs.Ranked.{AreRanked, chain_cmp}
use Rattle.answer_judge_facts.specs.Verified.{rrset_in}
use Rattle.answer_judge_facts.proofs.ChainsWhole.{all_chain, gathered_whole}
use Rattle.answer_judge_facts.proofs.GroupPlaces.{one_ranked}
use Rattle.answer_extended_errors.specs.Groups.{groups_error}
use Rattle.answer_extended_errors.proofs.GroupErrors.{asked_is, chains_are, data_empty, unproven_is}
use Rattle.answer_extended_errors.proofs.answer.unproven_under.Goals as goal

pub read_chain_groups-requires : goal.read_chain_groups-requires
read_chain_groups-requires g c =
    let is = sym c.deref.ensures.value in
    let ys = map spelled c.in_ok-chained.chained.items in
    record {
      chain = subst (λ vs. AllByRecursion (λ r. is_chain r ≡ true) (map spelled vs)) is (all_chain c.args.message.now c.args.trust.now.apex.now (map spelled c.args.records.now) ys c.in_ok-chained.ensures.moved);
      sorted = subst (λ vs. IsSortedBy (λ a b. is_lt (chain_cmp a b)) (map spelled vs)) is c.in_ok-chained.ensures.sorted;
    }

pub error_of_groups-requires-clause-ranked : goal.error_of_groups-requires-clause-ranked
error_of_groups-requires-clause-ranked g c = subst AreRanked (sym c.deref_mut.ensures.value) c.in_ok-chain.ensures.ranked

pub error_of_groups-requires-2-clause-ranked : goal.error_of_groups-requires-2-clause-ranked
error_of_groups-requires-2-clause-ranked g c =
    let x = c.in_ok-group.group in
    let all : c.deref_mut-2.result.now ≡ x ∷ [] = c.deref_mut-2.ensures.value ∙ c.in_ok-push.ensures.items ∙ ap (λ gs. gs ++ x ∷ []) c.in_ok-asked.ensures.items in
    subst AreRanked (sym all) (one_ranked x)

pub returns-then-is_empty-clause-exact : goal.returns-then-is_empty-clause-exact
returns-then-is_empty-clause-exact g c = λ test fits.
    let w = held_by (with_test (g.C.Checks.answers c.args.check_run.now.checks.now) test) c.args.trust.now in
    let m = c.args.message.now in
    let rs = map spelled c.args.records.now in
    let q = asked_of c.args.question.now in
    let x = c.in_ok-group.group in
    let items : data_in x ≡ rrset_in pointer_limit m rs q.name q.rtype = c.in_ok-group.ensures.items ∙ ap (λ n. rrset_in pointer_limit m rs n q.rtype) c.in_ok-owner.ensures in
    let none : (length (rrset_in pointer_limit m rs q.name q.rtype) == 0) ≡ true = ap (λ ds. length ds == 0) (sym items) ∙ data_empty x c.is_empty.result true (c.is_empty.ensures ∙ ap (λ n. n == 0) x.items.ok.0) c.if-is_empty.true in
    let ys = map spelled c.deref.result.now in
    let moved = subst (λ vs. IsPermutation (filter is_chain rs) (map spelled vs)) (sym c.deref.ensures.value) c.in_ok-chained.ensures.moved in
    let chains = c.in_ok-chain.chain.items in
    let whole : AreGathered m w.apex rs rs chains = gathered_whole m w.apex rs ys moved chains c.in_ok-chain.ensures.gathered in
    let path = ap (λ gs. groups_error w m gs rs) c.deref_mut.ensures.value ∙ unproven_is w m rs q true chains none (chains_are m w.apex rs chains whole) in
    subst (λ x. IfOk c.error_of_groups.result (λ e. e ≡ x)) path (c.error_of_groups.ensures.exact test fits)

pub returns-clause-exact : goal.returns-clause-exact
returns-clause-exact g c = λ test fits.
    let w = held_by (with_test (g.C.Checks.answers c.args.check_run.now.checks.now) test) c.args.trust.now in
    let m = c.args.message.now in
    let rs = map spelled c.args.records.now in
    let q = asked_of c.args.question.now in
    let x = c.in_ok-group.group in
    let owner = c.in_ok-group.ensures.owner ∙ c.in_ok-owner.ensures in
    let items : data_in x ≡ rrset_in pointer_limit m rs q.name q.rtype = c.in_ok-group.ensures.items ∙ ap (λ n. rrset_in pointer_limit m rs n q.rtype) c.in_ok-owner.ensures in
    let some : (length (data_in x) == 0) ≡ false = data_empty x c.is_empty.result false (c.is_empty.ensures ∙ ap (λ n. n == 0) x.items.ok.0) c.if-is_empty.false in
    let filled : (length (rrset_in pointer_limit m rs q.name q.rtype) == 0) ≡ false = ap (λ ds. length ds == 0) (sym items) ∙ some in
    let all : c.deref_mut-2.result.now ≡ x ∷ [] = c.deref_mut-2.ensures.value ∙ c.in_ok-push.ensures.items ∙ ap (λ gs. gs ++ x ∷ []) c.in_ok-asked.ensures.items in
    let those = asked_is m rs q x owner c.in_ok-group.ensures.rtype items c.in_ok-group.ensures.unverified some in
    let path = ap (λ gs. groups_error w m gs rs) all ∙ unproven_is w m rs q false (x ∷ []) filled those in
    subst (λ x. IfOk c.error_of_groups-2.result (λ e. e ≡ x)) path (c.error_of_groups-2.ensures.exact test fits)
