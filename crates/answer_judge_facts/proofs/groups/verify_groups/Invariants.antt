use Rattle.std.proofs.Common.{◌≡◌, ◌+◌, ◌≤◌, drop, map, length}
use Rattle.std.specs.List.{filter}
use Rattle.messages.specs.Record.{spelled}
use Rattle.answer_scheme.specs.Answers.{EachAgreeing, SignatureTest}
use Rattle.answer_judge_facts.specs.Asked.{PassesGroups}
use Rattle.answer_judge_keys.specs.Trusted.{is_signature}
use Rattle.answer_judge_facts.specs.Marked.{held_by, marked, tries_in}
use Rattle.answer_judge_facts.specs.Ranked.{AreRanked}
use Rattle.answer_judge_facts.proofs.groups.verify_groups.Given as goal

abbrev pub invariant-loop-record : goal.invariant-loop-record
invariant-loop-record g l =
    let c = g.C.Checks in
    let v = l.check_run in
    let old = l.fn.check_run in
    let own = c.answers old.checks.now in
    let rest = map spelled (drop l.record-index l.records) in
    let all = map spelled l.records in
    (v.count + length (filter is_signature rest) ≤ old.count + length (filter is_signature all))
    × (v.count ≤ old.count + l.record-index)
    × EachAgreeing own (c.agrees v.checks.now) (λ a. let w = held_by a l.trust in map (marked w l.message rest) l.groups ≡ map (marked w l.message all) l.fn.groups)
    × (c.verified v.checks.now + old.count ≡ c.verified old.checks.now + v.count)
    × (c.hashed v.checks.now ≡ c.hashed old.checks.now) × (c.answers v.checks.now ≡ c.answers old.checks.now)
    × EachAgreeing own (c.agrees v.checks.now) (λ a. let w = held_by a l.trust in v.count + tries_in w l.message l.groups rest ≡ old.count + tries_in w l.message l.fn.groups all)
    × (v.checks.ghost_name ≡ old.checks.ghost_name)
    × AreRanked l.groups
    × ((test : SignatureTest) → c.agrees v.checks.now test → c.agrees old.checks.now test)
    × ((test : SignatureTest) → let w = held_by own l.trust in PassesGroups test w l.message l.fn.groups all → PassesGroups test w l.message l.groups rest × (c.asked_only old.checks.now test → c.asked_only v.checks.now test))
