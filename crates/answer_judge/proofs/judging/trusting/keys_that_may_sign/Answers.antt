use mathlib.Core.Path.{transport}
use Rattle.std.proofs.Common.{◌≡◌, ℕ, Bool, List, ◌+◌, [], map, filter, refl, inr, sym, ap, subst, ◌∙◌, arith}
use Rattle.definitions.specs.Dnskey.{Dnskey, dnskey_data}
use Rattle.definitions.specs.Limits.{pointer_limit}
use Rattle.definitions.specs.Zone.{sorted_data}
use Rattle.messages.specs.Message.{Spelled}
use Rattle.messages.specs.Record.{spelled}
use Rattle.answer_scheme.specs.Answers.{Answers, SignatureTest, with_test}
use Rattle.answer_judge.specs.Stages.{are_signed, tries_of_keys, trusting_named}
use Rattle.answer_judge_facts.specs.Asked.{Implies, is_tried_among}
use Rattle.answer_judge_facts.specs.Counted.{tries}
use Rattle.answer_judge_facts.specs.Trusted.{is_trusted}
use Rattle.answer_judge.specs.Judging.{JudgeInput}
use Rattle.answer_judge_facts.specs.Validity.{key_seconds, least_or_max}
use Rattle.answer_judge_facts.specs.Sought.{keys_sought}
use Rattle.answer_judge_facts.specs.Verified.{Trusting, is_verified}
use Rattle.answer_judge_facts.proofs.JudgeAsked.{agreed_by}
use Rattle.answer_judge.proofs.judging.trusting.keys_that_may_sign.Goals as goal

-- what was found out of the keys, said of what is handed in
module _ (own : Answers) (test : SignatureTest) (h now : JudgeInput) (is : now ≡ h) (rs : List Spelled) (ks held trusted : List Dnskey) (named : trusted ≡ filter (is_trusted own h.apex h.ds) ks) (items : held ≡ ks) (checks : Answers) (same : checks ≡ own) (moment : ℕ) (at : moment ≡ h.now) where
  abbrev w : Trusting
  w = record { answers = with_test checks test; apex = now.apex; keys = trusted; now = moment }

  w_is : w ≡ trusting_named (with_test own test) h ks
  w_is = λ i. record { answers = with_test (same i) test; apex = (is i).apex; keys = named i; now = at i }

  found_out : (b : Bool) (n count : ℕ) → n ≡ 0 → b ≡ is_verified w pointer_limit now.dnskey_bytes rs now.apex 48 (sorted_data (map dnskey_data held)) → count ≡ n + tries w pointer_limit now.dnskey_bytes (keys_sought now.apex held) [] rs
      → (b ≡ are_signed (with_test own test) pointer_limit h rs ks) × (count ≡ tries_of_keys (with_test own test) pointer_limit h rs ks)
  found_out b n count zero signed tried =
      let due : tries w pointer_limit now.dnskey_bytes (keys_sought now.apex held) [] rs ≡ tries_of_keys (with_test own test) pointer_limit h rs ks =
      (λ i. tries (w_is i) pointer_limit (is i).dnskey_bytes (keys_sought (is i).apex (items i)) [] rs) in (
        signed ∙ (λ i. is_verified (w_is i) pointer_limit (is i).dnskey_bytes rs (is i).apex 48 (sorted_data (map dnskey_data (items i)))),
        omega (arith, tried, zero, due),
      )

  lasts_as : (n : ℕ) → n ≡ least_or_max (key_seconds w pointer_limit now.dnskey_bytes rs held) → n ≡ least_or_max (key_seconds (trusting_named (with_test own test) h ks) pointer_limit h.dnskey_bytes rs ks)
  lasts_as n e = e ∙ (λ i. least_or_max (key_seconds (w_is i) pointer_limit (is i).dnskey_bytes rs (items i)))

  -- where a test passes for the signatures that are tried then, it passes for them as they are held against the keys
  tried_pass : Implies (is_tried_among (trusting_named own h ks) pointer_limit h.dnskey_bytes (keys_sought h.apex ks) [] rs) test
      → Implies (is_tried_among (record { answers = checks; apex = now.apex; keys = trusted; now = moment }) pointer_limit now.dnskey_bytes (keys_sought now.apex held) [] rs) test
  tried_pass = transport (λ i. Implies (is_tried_among (record { answers = sym same i; apex = (sym is i).apex; keys = sym named i; now = sym at i }) pointer_limit (sym is i).dnskey_bytes (keys_sought (sym is i).apex (sym items i)) [] rs) test)

pub returns-clause-signed : goal.returns-clause-signed
returns-clause-signed g c = λ test fits.
    let own = g.C.Checks.answers c.args.check_run.now.checks.now in
    let is = c.case.view_is in
    let moment = c.timestamp.ensures ∙ ap (λ (h : JudgeInput). h.now) is in
    let rest = c.in_ok-trusted.ensures.rest in
    let same = ap (λ v. g.C.Checks.answers v.checks.now) rest in
    let named = c.in_ok-index.ensures ∙ c.deref-2.ensures.value ∙ c.in_ok-trusted.ensures.trusted ∙ (λ i. filter (is_trusted own (is i).apex (is i).ds) (c.deref.ensures.value i)) in
    let first = agreed_by own _ test _ same fits in
    let none_yet = ap (λ v. v.count) rest ∙ c.requires.none_yet in
    let found = found_out own test c.args.case.now _ is (map spelled c.args.records.now) c.args.keys.items c.deref-3.result.now c.in_ok-index.index named c.deref-3.ensures.value _ same _ moment _ _ _ none_yet (c.in_ok-are_verified.ensures.exact test first) (c.in_ok-are_verified.ensures.tried test first) in
    (sym found.0 ∙ c.if-not-branch.false, found.1)

pub returns-clause-lasts : goal.returns-clause-lasts
returns-clause-lasts g c = λ test fits.
    let own = g.C.Checks.answers c.args.check_run.now.checks.now in
    let is = c.case.view_is in
    let moment = c.timestamp.ensures ∙ ap (λ (h : JudgeInput). h.now) is in
    let rest = c.in_ok-trusted.ensures.rest in
    let same = ap (λ v. g.C.Checks.answers v.checks.now) rest in
    let named = c.in_ok-index.ensures ∙ c.deref-2.ensures.value ∙ c.in_ok-trusted.ensures.trusted ∙ (λ i. filter (is_trusted own (is i).apex (is i).ds) (c.deref.ensures.value i)) in
    let first = agreed_by own _ test _ same fits in
    lasts_as own test c.args.case.now _ is (map spelled c.args.records.now) c.args.keys.items c.deref-3.result.now c.in_ok-index.index named c.deref-3.ensures.value _ same _ moment _ (c.in_ok-are_verified.ensures.lasts test first)

pub returns-then-not-branch-clause-unsigned : goal.returns-then-not-branch-clause-unsigned
returns-then-not-branch-clause-unsigned g c = λ test fits.
    let own = g.C.Checks.answers c.args.check_run.now.checks.now in
    let is = c.case.view_is in
    let moment = c.timestamp.ensures ∙ ap (λ (h : JudgeInput). h.now) is in
    let rest = c.in_ok-trusted.ensures.rest in
    let same = ap (λ v. g.C.Checks.answers v.checks.now) rest in
    let named = c.in_ok-index.ensures ∙ c.deref-2.ensures.value ∙ c.in_ok-trusted.ensures.trusted ∙ (λ i. filter (is_trusted own (is i).apex (is i).ds) (c.deref.ensures.value i)) in
    let first = agreed_by own _ test _ same fits in
    let none_yet = ap (λ v. v.count) rest ∙ c.requires.none_yet in
    let found = found_out own test c.args.case.now _ is (map spelled c.args.records.now) c.args.keys.items c.deref-3.result.now c.in_ok-index.index named c.deref-3.ensures.value _ same _ moment _ _ _ none_yet (c.in_ok-are_verified.ensures.exact test first) (c.in_ok-are_verified.ensures.tried test first) in
    inr (refl, sym found.0 ∙ c.if-not-branch.true, found.1)

-- ---- all that are verified are tried

pub returns-clause-asked : goal.returns-clause-asked
returns-clause-asked g c = λ test passes before.
    let own = g.C.Checks.answers c.args.check_run.now.checks.now in
    let is = c.case.view_is in
    let moment = c.timestamp.ensures ∙ ap (λ (h : JudgeInput). h.now) is in
    let rest = c.in_ok-trusted.ensures.rest in
    let same = ap (λ v. g.C.Checks.answers v.checks.now) rest in
    let named = c.in_ok-index.ensures ∙ c.deref-2.ensures.value ∙ c.in_ok-trusted.ensures.trusted ∙ (λ i. filter (is_trusted own (is i).apex (is i).ds) (c.deref.ensures.value i)) in
    let tried = tried_pass own test c.args.case.now _ is (map spelled c.args.records.now) c.args.keys.items c.deref-3.result.now c.in_ok-index.index named c.deref-3.ensures.value _ same _ moment passes in
    c.are_verified.ensures.asked test tried (subst (λ v. g.C.Checks.asked_only v.checks.now test) (sym rest) before)

pub returns-then-not-branch-clause-asked : goal.returns-then-not-branch-clause-asked
returns-then-not-branch-clause-asked g c = λ test passes before.
    let own = g.C.Checks.answers c.args.check_run.now.checks.now in
    let is = c.case.view_is in
    let moment = c.timestamp.ensures ∙ ap (λ (h : JudgeInput). h.now) is in
    let rest = c.in_ok-trusted.ensures.rest in
    let same = ap (λ v. g.C.Checks.answers v.checks.now) rest in
    let named = c.in_ok-index.ensures ∙ c.deref-2.ensures.value ∙ c.in_ok-trusted.ensures.trusted ∙ (λ i. filter (is_trusted own (is i).apex (is i).ds) (c.deref.ensures.value i)) in
    let tried = tried_pass own test c.args.case.now _ is (map spelled c.args.records.now) c.args.keys.items c.deref-3.result.now c.in_ok-index.index named c.deref-3.ensures.value _ same _ moment passes in
    c.are_verified.ensures.asked test tried (subst (λ v. g.C.Checks.asked_only v.checks.now test) (sym rest) before)

pub returns-in_err-are_verified-clause-asked : goal.returns-in_err-are_verified-clause-asked
returns-in_err-are_verified-clause-asked g c = λ test passes before.
    let own = g.C.Checks.answers c.args.check_run.now.checks.now in
    let is = c.case.view_is in
    let moment = c.timestamp.ensures ∙ ap (λ (h : JudgeInput). h.now) is in
    let rest = c.in_ok-trusted.ensures.rest in
    let same = ap (λ v. g.C.Checks.answers v.checks.now) rest in
    let named = c.in_ok-index.ensures ∙ c.deref-2.ensures.value ∙ c.in_ok-trusted.ensures.trusted ∙ (λ i. filter (is_trusted own (is i).apex (is i).ds) (c.deref.ensures.value i)) in
    let tried = tried_pass own test c.args.case.now _ is (map spelled c.args.records.now) c.args.keys.items c.deref-3.result.now c.in_ok-index.index named c.deref-3.ensures.value _ same _ moment passes in
    c.are_verified.ensures.asked test tried (subst (λ v. g.C.Checks.asked_only v.checks.now test) (sym rest) before)
