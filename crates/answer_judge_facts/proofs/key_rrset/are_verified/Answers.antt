use Rattle.std.proofs.Common.{rules, ◌≡◌, false, subst, ◌||◌, [], ◌∷◌, ◌+◌, ◌++◌, map, take, drop, length, refl, inl, sym, ap, ◌∙◌, arith}
use Rattle.std.specs.Prelude.{MatchOption, Some, is_some}
use Rattle.definitions.specs.Limits.{pointer_limit}
use Rattle.answer_judge_facts.specs.declared.groups.SignedRrset.{SignedRrset}
use Rattle.answer_judge_facts.specs.Asked.{PassesGroups}
use Rattle.answer_judge_facts.specs.Validity.{least_or_max}
use Rattle.answer_judge_facts.specs.Verified.{is_verified}
use Rattle.answer_judge_facts.proofs.JudgeMarks.{marked_is}
use Rattle.messages.specs.Record.{spelled}
use Rattle.answer_judge_facts.specs.Sought.{keys_sought}
use Rattle.answer_judge_facts.specs.Marked.{held_by, marked, tries_in}
use Rattle.answer_scheme.specs.Answers.{with_test}
use Rattle.answer_judge_facts.proofs.JudgeAsked.{sought_passes}
use Rattle.answer_judge_facts.proofs.JudgeCounted.{tries_are}
use Rattle.answer_judge_facts.proofs.JudgeFacts.{last_of, over}
use Rattle.answer_judge_facts.proofs.JudgeValidity.{key_seconds_are}
use Rattle.answer_judge_facts.proofs.JudgeSought.{keys_are}
use Rattle.answer_judge_facts.specs.Ranked.{AreRanked}
use Rattle.answer_judge_facts.proofs.GroupPlaces.{one_ranked}
use Rattle.answer_judge_facts.proofs.key_rrset.are_verified.Goals as goal

pub returns-clause-tried : goal.returns-clause-tried
returns-clause-tried g c = λ test h.
    let a = held_by (with_test (g.C.Checks.answers c.args.check_run.now.checks.now) test) c.args.trust.now in
    let apex = c.args.trust.now.apex.now in
    let m = c.args.message.now in
    let ks = c.args.keys.now in
    let rs = map spelled c.args.records.now in
    let x = c.in_ok-key_group.field-0 in
    let e = c.in_ok-key_group.ensures in
    let old : c.deref_mut.result.now ≡ x ∷ [] = c.deref_mut.ensures.value ∙ c.in_ok-push.ensures.items ∙ ap (λ gs. gs ++ x ∷ []) c.in_ok-groups.ensures.items in
    c.in_ok-verify_groups.ensures.tried test h
    ∙ ap (λ n. c.args.check_run.now.count + n) (ap (λ ys. tries_in a m ys rs) old ∙ tries_are a m (keys_sought apex ks) (x ∷ []) rs (keys_are apex ks x e.owner e.rtype e.items e.unverified))

pub returns-clause-exact : goal.returns-clause-exact
returns-clause-exact g c = λ test h.
    let a = held_by (with_test (g.C.Checks.answers c.args.check_run.now.checks.now) test) c.args.trust.now in
    let m = c.args.message.now in
    let rs = map spelled c.args.records.now in
    let x = c.in_ok-key_group.field-0 in
    let e = c.in_ok-key_group.ensures in
    let y = marked a m rs x in
    let old : c.deref_mut.result.now ≡ x ∷ [] = c.deref_mut.ensures.value ∙ c.in_ok-push.ensures.items ∙ ap (λ gs. gs ++ x ∷ []) c.in_ok-groups.ensures.items in
    let all : c.verify_groups.new.groups ≡ y ∷ [] = c.in_ok-verify_groups.ensures.marked test h ∙ ap (map (marked a m rs)) old in
    let len : c.push.new.self.len ≡ length c.verify_groups.new.groups = search rules in
    let now = c.verify_groups.new.groups in
    let over_all : take c.push.new.self.len (now ++ drop (length now) c.push.new.self.items) ≡ now = over now c.push.new.self.items c.push.new.self.len len in
    let last = c.pop.ensures.value y (omega (arith, len, ap length all)) ∙ ap Some (last_of [] y (take c.push.new.self.len (now ++ drop (length now) c.push.new.self.items)) c.push.new.self.len (over_all ∙ all) (len ∙ sym (ap length over_all)) y) in
    subst (λ o. MatchOption o (c.was_verified.result ≡ false) (λ (g : SignedRrset). c.was_verified.result ≡ is_some g.verified)) last c.was_verified.ensures ∙ marked_is a m rs x
    ∙ (λ i. is_some (e.unverified i) || is_verified a pointer_limit m rs (e.owner i) (e.rtype i) (e.items i))

pub returns-clause-lasts : goal.returns-clause-lasts
returns-clause-lasts g c = λ test h.
    let w = held_by (with_test (g.C.Checks.answers c.args.check_run.now.checks.now) test) c.args.trust.now in
    let m = c.args.message.now in
    let rs = map spelled c.args.records.now in
    let x = c.in_ok-key_group.field-0 in
    let e = c.in_ok-key_group.ensures in
    let y = marked w m rs x in
    let old : c.deref_mut.result.now ≡ x ∷ [] = c.deref_mut.ensures.value ∙ c.in_ok-push.ensures.items ∙ ap (λ gs. gs ++ x ∷ []) c.in_ok-groups.ensures.items in
    let all : c.verify_groups.new.groups ≡ y ∷ [] = c.in_ok-verify_groups.ensures.marked test h ∙ ap (map (marked w m rs)) old in
    let len : c.push.new.self.len ≡ length c.verify_groups.new.groups = search rules in
    let now = c.verify_groups.new.groups in
    let is = c.deref.ensures.value ∙ over now c.push.new.self.items c.push.new.self.len len ∙ all in
    c.seconds_of.ensures ∙ ap least_or_max (key_seconds_are w m rs c.args.keys.now x c.deref.result.now e.owner e.rtype e.items e.unverified is)

pub seconds_of-requires : goal.seconds_of-requires
seconds_of-requires g c =
    let own = g.C.Checks.answers c.args.check_run.now.checks.now in
    let w = held_by own c.args.trust.now in
    let m = c.args.message.now in
    let rs = map spelled c.args.records.now in
    let x = c.in_ok-key_group.field-0 in
    let y = marked w m rs x in
    let old : c.deref_mut.result.now ≡ x ∷ [] = c.deref_mut.ensures.value ∙ c.in_ok-push.ensures.items ∙ ap (λ gs. gs ++ x ∷ []) c.in_ok-groups.ensures.items in
    let all : c.verify_groups.new.groups ≡ y ∷ [] = c.in_ok-verify_groups.ensures.marked own.verifies (inl refl) ∙ ap (map (marked w m rs)) old in
    let len : c.push.new.self.len ≡ length c.verify_groups.new.groups = search rules in
    let now = c.verify_groups.new.groups in
    subst AreRanked (sym (c.deref.ensures.value ∙ over now c.push.new.self.items c.push.new.self.len len ∙ all)) (one_ranked y)

pub verify_groups-requires-clause-ranked : goal.verify_groups-requires-clause-ranked
verify_groups-requires-clause-ranked g c =
    let x = c.in_ok-key_group.field-0 in
    let old : c.deref_mut.result.now ≡ x ∷ [] = c.deref_mut.ensures.value ∙ c.in_ok-push.ensures.items ∙ ap (λ gs. gs ++ x ∷ []) c.in_ok-groups.ensures.items in
    subst AreRanked (sym old) (one_ranked x)

pub returns-clause-asked : goal.returns-clause-asked
returns-clause-asked g c = λ test passes.
    let w = held_by (g.C.Checks.answers c.args.check_run.now.checks.now) c.args.trust.now in
    let m = c.args.message.now in
    let ks = c.args.keys.now in
    let rs = map spelled c.args.records.now in
    let x = c.in_ok-key_group.field-0 in
    let e = c.in_ok-key_group.ensures in
    let old : c.deref_mut.result.now ≡ x ∷ [] = c.deref_mut.ensures.value ∙ c.in_ok-push.ensures.items ∙ ap (λ gs. gs ++ x ∷ []) c.in_ok-groups.ensures.items in
    let groups = sought_passes test w m (keys_sought w.apex ks) (x ∷ []) rs (keys_are w.apex ks x e.owner e.rtype e.items e.unverified) passes in
    c.in_ok-verify_groups.ensures.asked test (subst (λ gs. PassesGroups test w m gs rs) (sym old) groups)

pub returns-in_err-verify_groups-clause-asked : goal.returns-in_err-verify_groups-clause-asked
returns-in_err-verify_groups-clause-asked g c = λ test passes.
    let w = held_by (g.C.Checks.answers c.args.check_run.now.checks.now) c.args.trust.now in
    let m = c.args.message.now in
    let ks = c.args.keys.now in
    let rs = map spelled c.args.records.now in
    let x = c.in_ok-key_group.field-0 in
    let e = c.in_ok-key_group.ensures in
    let old : c.deref_mut.result.now ≡ x ∷ [] = c.deref_mut.ensures.value ∙ c.in_ok-push.ensures.items ∙ ap (λ gs. gs ++ x ∷ []) c.in_ok-groups.ensures.items in
    let groups = sought_passes test w m (keys_sought w.apex ks) (x ∷ []) rs (keys_are w.apex ks x e.owner e.rtype e.items e.unverified) passes in
    c.verify_groups.ensures.asked test (subst (λ gs. PassesGroups test w m gs rs) (sym old) groups)
