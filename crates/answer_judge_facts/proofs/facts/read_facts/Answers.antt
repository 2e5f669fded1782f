use Rattle.std.proofs.Common.{rules, ◌≡◌, ◌+◌, ℕ, List, [], filter, length, map, refl, inl, sym, ap, subst, ◌∙◌}
use Rattle.std.specs.List.Sorted.{IsPermutation, IsSortedBy}
use Rattle.std.specs.Ordering.{is_lt}
use Rattle.definitions.specs.Limits.{pointer_limit}
use Rattle.definitions.specs.Name.{Name}
use Rattle.messages.specs.Message.{Spelled}
use Rattle.messages.specs.Record.{spelled}
use Rattle.answer_scheme.specs.Answers.{SignatureTest, with_test}
use Rattle.answer_judge_facts.specs.Asked.{Implies, PassesGroups, is_tried_among}
use Rattle.answer_judge_facts.specs.Marked.{held_by, is_chain, marked}
use Rattle.answer_judge_facts.specs.Ranked.{AreRanked, AskedLast, chain_cmp}
use Rattle.answer_judge_facts.specs.Sought.{answer_sought}
use Rattle.answer_judge_facts.specs.Verified.{Trusting}
use Rattle.answer_judge_facts.specs.declared.groups.SignedRrset.{SignedRrset}
use Rattle.answer_judge_facts.proofs.GroupPlaces.{ranked_next}
use Rattle.answer_judge_facts.proofs.JudgeAsked.{sought_passes}
use Rattle.answer_judge_facts.proofs.JudgeCounted.{tries_are}
use Rattle.answer_judge_facts.proofs.JudgeFacts.{facts_verified, marked_last, over}
use Rattle.answer_judge_facts.proofs.JudgeValidity.{seconds_are, ttls_are}
use Rattle.answer_judge_facts.proofs.JudgeSought.{answer_is}
use Rattle.answer_judge_facts.proofs.JudgeTimes.{times_verified}
use Rattle.answer_judge_facts.proofs.facts.read_facts.Goals as goal

pub sought_groups-requires : goal.sought_groups-requires
sought_groups-requires g c =
    let is = sym c.deref.ensures.value in
    record {
      moved = subst (λ vs. IsPermutation (filter is_chain (map spelled c.args.records.now)) (map spelled vs)) is c.in_ok-chained.ensures.moved;
      sorted = subst (λ vs. IsSortedBy (λ a b. is_lt (chain_cmp a b)) (map spelled vs)) is c.in_ok-chained.ensures.sorted;
      other = c.requires.other;
    }

pub verify_groups-requires-clause-ranked : goal.verify_groups-requires-clause-ranked
verify_groups-requires-clause-ranked g c = subst AreRanked (sym c.deref_mut.ensures.value) c.in_ok-groups.ensures.ranked

pub facts_of_groups-requires : goal.facts_of_groups-requires
facts_of_groups-requires g c =
    let own = g.C.Checks.answers c.args.check_run.now.checks.now in
    let m = c.args.message.now in
    let rs = map spelled c.args.records.now in
    let old = c.in_ok-groups.groups in
    let now = c.verify_groups.new.groups in
    let len : old.len ≡ length now = search rules in
    let ranked = subst AreRanked (sym c.deref_mut.ensures.value) c.in_ok-groups.ensures.ranked in
    subst AreRanked (sym (over now old.items old.len len)) (ranked_next (held_by own c.args.trust.now) m rs c.deref_mut.result.now now (c.in_ok-verify_groups.ensures.marked own.verifies (inl refl)) ranked)

pub returns-clause-proves : goal.returns-clause-proves
returns-clause-proves g c = λ test h.
    let w = held_by (with_test (g.C.Checks.answers c.args.check_run.now.checks.now) test) c.args.trust.now in
    let m = c.args.message.now in
    let rs = map spelled c.args.records.now in
    let q = c.args.name.now in
    let t = c.args.rtype in
    let gs = c.deref_mut.result.now in
    let last : AskedLast m w.apex rs q t gs = subst (AskedLast m w.apex rs q t) (sym c.deref_mut.ensures.value) c.in_ok-groups.ensures in
    let sought = answer_is m w.apex rs q t gs last in
    let old = c.in_ok-groups.groups in
    let now = c.verify_groups.new.groups in
    let len : old.len ≡ length now = search rules in
    let all = over now old.items old.len len ∙ c.in_ok-verify_groups.ensures.marked test h in (
      c.in_ok-facts.ensures (map (marked w m rs) last.chains) (marked w m rs last.asked) (all ∙ marked_last w m rs q t gs last) ∙ facts_verified w m rs q t gs last,
      c.are_unlike-has_unlike_times.ensures ∙ times_verified w m rs q t gs sought c.deref-2.result.now (c.deref-2.ensures.value ∙ all),
      c.in_ok-verify_groups.ensures.tried test h ∙ ap (λ n. c.args.check_run.now.count + n) (tries_are w m (answer_sought pointer_limit m w.apex rs q t) gs rs sought),
    )

pub returns-clause-lasts : goal.returns-clause-lasts
returns-clause-lasts g c = λ test h.
    let w = held_by (with_test (g.C.Checks.answers c.args.check_run.now.checks.now) test) c.args.trust.now in
    let m = c.args.message.now in
    let rs = map spelled c.args.records.now in
    let q = c.args.name.now in
    let t = c.args.rtype in
    let gs = c.deref_mut.result.now in
    let last : AskedLast m w.apex rs q t gs = subst (AskedLast m w.apex rs q t) (sym c.deref_mut.ensures.value) c.in_ok-groups.ensures in
    let sought = answer_is m w.apex rs q t gs last in
    let old = c.in_ok-groups.groups in
    let now = c.verify_groups.new.groups in
    let len : old.len ≡ length now = search rules in
    let all = over now old.items old.len len ∙ c.in_ok-verify_groups.ensures.marked test h in
    let new = c.deref-3.result.now in
    let marks = c.deref-3.ensures.value ∙ all in
    let ttl = c.validity_of_groups-validity.ensures.ttl ∙ ttls_are w m rs q t gs sought new marks in
    let seconds = c.validity_of_groups-validity.ensures.seconds ∙ seconds_are w m rs q t gs sought new marks in
    λ i. record { ttl = ttl i; seconds = seconds i }

pub validity_of_groups-validity-requires : goal.validity_of_groups-validity-requires
validity_of_groups-validity-requires g c =
    let own = g.C.Checks.answers c.args.check_run.now.checks.now in
    let m = c.args.message.now in
    let rs = map spelled c.args.records.now in
    let old = c.in_ok-groups.groups in
    let now = c.verify_groups.new.groups in
    let len : old.len ≡ length now = search rules in
    let ranked = subst AreRanked (sym c.deref_mut.ensures.value) c.in_ok-groups.ensures.ranked in
    subst AreRanked (sym (c.deref-3.ensures.value ∙ over now old.items old.len len)) (ranked_next (held_by own c.args.trust.now) m rs c.deref_mut.result.now now (c.in_ok-verify_groups.ensures.marked own.verifies (inl refl)) ranked)

-- what passes for the signatures that are tried passes for the groups of what is sought
module _ (test : SignatureTest) (w : Trusting) (m : List ℕ) (rs : List Spelled) (q : Name) (t : ℕ) (gs now : List SignedRrset) (is : now ≡ gs) (last : AskedLast m w.apex rs q t gs) where
  groups_pass : Implies (is_tried_among w pointer_limit m (answer_sought pointer_limit m w.apex rs q t) [] rs) test → PassesGroups test w m now rs
  groups_pass passes = subst (λ ys. PassesGroups test w m ys rs) (sym is) (sought_passes test w m (answer_sought pointer_limit m w.apex rs q t) gs rs (answer_is m w.apex rs q t gs last) passes)

pub returns-clause-asked : goal.returns-clause-asked
returns-clause-asked g c = λ test passes.
    let w = held_by (g.C.Checks.answers c.args.check_run.now.checks.now) c.args.trust.now in
    c.in_ok-verify_groups.ensures.asked test
    (groups_pass test w c.args.message.now (map spelled c.args.records.now) c.args.name.now c.args.rtype c.in_ok-groups.groups.items c.deref_mut.result.now c.deref_mut.ensures.value c.in_ok-groups.ensures passes)

pub returns-in_err-verify_groups-clause-asked : goal.returns-in_err-verify_groups-clause-asked
returns-in_err-verify_groups-clause-asked g c = λ test passes.
    let w = held_by (g.C.Checks.answers c.args.check_run.now.checks.now) c.args.trust.now in
    c.verify_groups.ensures.asked test
    (groups_pass test w c.args.message.now (map spelled c.args.records.now) c.args.name.now c.args.rtype c.in_ok-groups.groups.items c.deref_mut.result.now c.deref_mut.ensures.value c.in_ok-groups.ensures passes)

pub returns-in_err-facts-clause-asked : goal.returns-in_err-facts-clause-asked
returns-in_err-facts-clause-asked g c = λ test passes.
    let w = held_by (g.C.Checks.answers c.args.check_run.now.checks.now) c.args.trust.now in
    c.verify_groups.ensures.asked test
    (groups_pass test w c.args.message.now (map spelled c.args.records.now) c.args.name.now c.args.rtype c.in_ok-groups.groups.items c.deref_mut.result.now c.deref_mut.ensures.value c.in_ok-groups.ensures passes)
