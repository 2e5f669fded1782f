use Rattle.std.proofs.Common.{◌≡◌, inl, length, map, sym, refl, subst, ◌∙◌, filter, rules}
use Rattle.std.specs.Prelude.{IfOk}
use Rattle.std.specs.List.Sorted.{IsPermutation, IsSortedBy}
use Rattle.std.specs.Ordering.{is_lt}
use Rattle.messages.specs.Record.{spelled}
use Rattle.answer_scheme.specs.Answers.{with_test}
use Rattle.answer_judge_facts.specs.Marked.{held_by, is_chain}
use Rattle.answer_judge_facts.specs.Ranked.{AreRanked, AskedLast, chain_cmp}
use Rattle.answer_judge_facts.proofs.GroupPlaces.{ranked_next}
use Rattle.answer_judge_facts.proofs.JudgeFacts.{over}
use Rattle.answer_judge_facts.proofs.JudgeSought.{answer_is}
use Rattle.answer_verified_records.proofs.VerifiedGroups.{numbers_are}
use Rattle.answer_verified_records.proofs.answer.verified_in_answer.Goals as goal

pub sought_groups-requires : goal.sought_groups-requires
sought_groups-requires g c =
    let is = sym c.deref.ensures.value in
    record {
      moved = subst (λ vs. IsPermutation (filter is_chain (map spelled c.args.records.now)) (map spelled vs)) is c.in_ok-chained.ensures.moved;
      sorted = subst (λ vs. IsSortedBy (λ a b. is_lt (chain_cmp a b)) (map spelled vs)) is c.in_ok-chained.ensures.sorted;
      other = c.requires.other;
    }

pub verify_groups-requires-clause-ranked : goal.verify_groups-requires-clause-ranked
verify_groups-requires-clause-ranked g c = subst AreRanked (sym c.deref_mut.ensures.value) c.in_ok-groups.ensures.ranked

pub numbers_of_verified-requires-clause-ranked : goal.numbers_of_verified-requires-clause-ranked
numbers_of_verified-requires-clause-ranked g c =
    let own = g.C.Checks.answers c.args.check_run.now.checks.now in
    let m = c.args.message.now in
    let rs = map spelled c.args.records.now in
    let old = c.in_ok-groups.groups in
    let now = c.verify_groups.new.groups in
    let len : old.len ≡ length now = search rules in
    let ranked = subst AreRanked (sym c.deref_mut.ensures.value) c.in_ok-groups.ensures.ranked in
    subst AreRanked (sym (c.deref-2.ensures.value ∙ over now old.items old.len len)) (ranked_next (held_by own c.args.trust.now) m rs c.deref_mut.result.now now (c.in_ok-verify_groups.ensures.marked own.verifies (inl refl)) ranked)

pub returns-clause-exact : goal.returns-clause-exact
returns-clause-exact g c = λ test fits.
    let w = held_by (with_test (g.C.Checks.answers c.args.check_run.now.checks.now) test) c.args.trust.now in
    let m = c.args.message.now in
    let rs = map spelled c.args.records.now in
    let q = c.args.name.now in
    let t = c.args.rtype in
    let gs = c.deref_mut.result.now in
    let last : AskedLast m w.apex rs q t gs = subst (AskedLast m w.apex rs q t) (sym c.deref_mut.ensures.value) c.in_ok-groups.ensures in
    let sought = answer_is m w.apex rs q t gs last in
    let old = c.in_ok-groups.groups in
    let now = c.verify_groups.new.groups in
    let len : old.len ≡ length now = search rules in
    let all = c.deref-2.ensures.value ∙ over now old.items old.len len ∙ c.in_ok-verify_groups.ensures.marked test fits in
    subst (λ x. IfOk c.numbers_of_verified.result (λ v. v.items ≡ x)) (numbers_are w m rs q t gs sought c.deref-2.result.now all) c.numbers_of_verified.ensures
