use Rattle.std.proofs.Common.{rules, ◌≡◌, ◌⊎◌, [], ◌∷◌, map, true, false, refl, sym, subst, ap, ◌∙◌, inl, arith}
use Rattle.messages.specs.Record.{spelled}
use Rattle.answer_scheme.specs.Answers.{SignatureTest, with_test}
use Rattle.answer_judge_facts.specs.Asked.{PassesRecord}
use Rattle.answer_judge_keys.specs.Trusted.{is_signature}
use Rattle.answer_judge_facts.specs.Marked.{held_by, is_tried_in, marked}
use Rattle.answer_judge_facts.specs.Counted.{one_if}
use Rattle.answer_judge_facts.proofs.JudgeAsked.{agreed, agreed_by, next_passes}
use Rattle.answer_judge_facts.proofs.JudgeCounted.{tries_last, tries_next, tries_unsigned}
use Rattle.answer_judge_facts.proofs.JudgeTried.{untried, unsigned, after_next, after_last, signatures_next, signatures_same}
use Rattle.answer_judge_facts.proofs.GroupPlaces.{ranked_next}
use Rattle.answer_judge_facts.proofs.groups.verify_groups.Goals as goal
use Rattle.answer_judge_facts.proofs.groups.verify_groups.Goals.{then-eq+in_ok-verify_record, else-eq}

pub loop-record-preserved : goal.loop-record-preserved
loop-record-preserved g c =
    let agrees = g.C.Checks.agrees in
    let own = g.C.Checks.answers c.args.check_run.now.checks.now in
    let trust = c.args.trust.now in
    let m = c.args.message.now in
    let rs = c.args.records.now in
    let i = c.loop-record.record-index in
    let r = c.record-item.result in
    let at = c.loop-record-test.true in
    let item = c.record-item.is in
    let inv = c.loop-record.invariant in
    elim c.if-eq.branch [
      | then-eq+in_ok-verify_record w ↦
          let a = held_by own trust in
          let is : is_signature (spelled r) ≡ true = sym c.eq.ensures ∙ w.if-eq.true in
          let ensures = w.in_ok-verify_record.ensures in
          let back : (test : SignatureTest) → agrees c.if-eq.check_run.checks.now test → agrees c.loop-record.check_run.checks.now test =
          λ test h. ensures.agrees test (subst (λ v. agrees v.checks.now test) w.check_run-is h) in
          let now : (test : SignatureTest) → (test ≡ own.verifies) ⊎ agrees c.if-eq.check_run.checks.now test → (test ≡ (g.C.Checks.answers c.loop-record.check_run.checks.now).verifies) ⊎ agrees w.verify_record.new.check_run.checks.now test =
          λ test h. agreed_by own _ test _ inv.5 (subst (λ v. (test ≡ own.verifies) ⊎ agrees v.checks.now test) w.check_run-is h) in
          let one : (test : SignatureTest) → (test ≡ own.verifies) ⊎ agrees c.if-eq.check_run.checks.now test → c.if-eq.groups ≡ map (marked (held_by (with_test own test) trust) m (spelled r ∷ [])) c.loop-record.groups =
          λ test h. w.groups-is ∙ ensures.marked test (now test h) ∙ ap (λ v. map (marked (held_by (with_test v test) trust) m (spelled r ∷ [])) c.loop-record.groups) inv.5 in
          let first = one own.verifies (inl refl) in (
            omega (arith, ap (λ v. v.count) w.check_run-is, ensures.bound, inv.0, signatures_next rs i r at item is),
            omega (arith, inv.1, ap (λ v. v.count) w.check_run-is, ensures.bound),
            (λ test h. after_next (held_by (with_test own test) trust) m rs i r c.args.groups.now _ _ at item (one test h) (inv.2 test (agreed own.verifies test _ _ (back test) h))),
            search rules,
            search rules,
            search rules,
            (λ test h.
                let b = held_by (with_test own test) trust in
                omega (
                  arith,
                  inv.6 test (agreed own.verifies test _ _ (back test) h),
                  ap (λ v. v.count) w.check_run-is,
                  ensures.tried test (now test h),
                  ap (λ v. one_if (is_tried_in (held_by (with_test v test) trust) m c.loop-record.groups (spelled r))) inv.5,
                  tries_next b m rs i r c.loop-record.groups c.if-eq.groups at item (one test h),
                )),
            search rules,
            ranked_next a m (spelled r ∷ []) c.loop-record.groups c.if-eq.groups first inv.8,
            (λ test h. inv.9 test (back test h)),
            (λ test passes.
                let before = inv.10 test passes in
                let next = next_passes test a m rs i r c.loop-record.groups c.if-eq.groups at item first before.0 in (
                  next.1,
                  (λ asked. subst (λ v. g.C.Checks.asked_only v.checks.now test) (sym w.check_run-is) (ensures.asked test (subst (λ v. PassesRecord test (held_by v trust) m c.loop-record.groups (spelled r)) (sym inv.5) next.0) (before.1 asked))),
                )),
          )
      | else-eq w ↦
          let a = held_by own trust in
          let other : is_signature (spelled r) ≡ false = sym c.eq.ensures ∙ w.if-eq.false in
          let back : (test : SignatureTest) → agrees c.if-eq.check_run.checks.now test → agrees c.loop-record.check_run.checks.now test =
          λ test h. subst (λ v. agrees v.checks.now test) w.check_run-is h in
          let one : (test : SignatureTest) → c.if-eq.groups ≡ map (marked (held_by (with_test own test) trust) m (spelled r ∷ [])) c.loop-record.groups =
          λ test. w.groups-is ∙ untried (held_by (with_test own test) trust) m (spelled r) c.loop-record.groups (λ x. unsigned (held_by (with_test own test) trust) m (spelled r) x other) in
          let first = one own.verifies in (
            omega (arith, ap (λ v. v.count) w.check_run-is, inv.0, signatures_same rs i r at item other),
            omega (arith, inv.1, ap (λ v. v.count) w.check_run-is),
            (λ test h. after_next (held_by (with_test own test) trust) m rs i r c.args.groups.now _ _ at item (one test) (inv.2 test (agreed own.verifies test _ _ (back test) h))),
            search rules,
            search rules,
            search rules,
            (λ test h.
                let b = held_by (with_test own test) trust in
                omega (
                  arith,
                  inv.6 test (agreed own.verifies test _ _ (back test) h),
                  ap (λ v. v.count) w.check_run-is,
                  ap one_if (tries_unsigned b m (spelled r) c.loop-record.groups other),
                  tries_next b m rs i r c.loop-record.groups c.if-eq.groups at item (one test),
                )),
            search rules,
            ranked_next a m (spelled r ∷ []) c.loop-record.groups c.if-eq.groups first inv.8,
            (λ test h. inv.9 test (back test h)),
            (λ test passes.
                let before = inv.10 test passes in
                let next = next_passes test a m rs i r c.loop-record.groups c.if-eq.groups at item first before.0 in
                (next.1, (λ asked. subst (λ v. g.C.Checks.asked_only v.checks.now test) (sym w.check_run-is) (before.1 asked)))),
          )
    ]

pub returns-clause-marked : goal.returns-clause-marked
returns-clause-marked g c = λ test h.
    let a = held_by (with_test (g.C.Checks.answers c.args.check_run.now.checks.now) test) c.args.trust.now in
    after_last a c.args.message.now c.args.records.now c.loop-record.record-index c.args.groups.now c.loop-record.groups (omega arith) (c.loop-record.invariant.2 test h)

pub returns-clause-tried : goal.returns-clause-tried
returns-clause-tried g c = λ test h.
    let a = held_by (with_test (g.C.Checks.answers c.args.check_run.now.checks.now) test) c.args.trust.now in
    omega (arith, c.loop-record.invariant.6 test h, tries_last a c.args.message.now c.args.records.now c.loop-record.record-index c.loop-record.groups (omega arith))

pub returns-in_err-verify_record-clause-asked : goal.returns-in_err-verify_record-clause-asked
returns-in_err-verify_record-clause-asked g c = λ test passes before.
    let a = held_by (g.C.Checks.answers c.args.check_run.now.checks.now) c.args.trust.now in
    let m = c.args.message.now in
    let r = c.record-item.result in
    let groups = c.loop-record.groups in
    let kept = c.loop-record.invariant.10 test passes in
    let next = next_passes test a m c.args.records.now c.loop-record.record-index r groups (map (marked a m (spelled r ∷ [])) groups) c.loop-record-test.true c.record-item.is refl kept.0 in
    c.verify_record.ensures.asked test (subst (λ v. PassesRecord test (held_by v c.args.trust.now) m groups (spelled r)) (sym c.loop-record.invariant.5) next.0) (kept.1 before)
