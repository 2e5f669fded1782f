use Rattle.std.proofs.Common.{◌≡◌, ℕ, Bool, true, false, List, map, filter, sym, ap, ◌∙◌}
use Rattle.std.specs.Prelude.{Some, None, if◌then◌else◌}
use Rattle.definitions.specs.Dnskey.{Dnskey, dnskey_data}
use Rattle.definitions.specs.Limits.{pointer_limit}
use Rattle.definitions.specs.Zone.{sorted_data}
use Rattle.messages.specs.Message.{Spelled}
use Rattle.messages.specs.Record.{spelled}
use Rattle.answer_scheme.specs.Answers.{Answers, SignatureTest, with_test}
use Rattle.answer_judge.specs.Stages.{are_signed, trusting_named}
use Rattle.answer_judge.specs.Judging.{JudgeInput}
use Rattle.answer_judge_keys.specs.Trusted.{is_trusted, is_usable}
use Rattle.answer_judge_facts.specs.Verified.{Trusting, is_verified}
use Rattle.answer_judge_facts.proofs.JudgeAsked.{agreed_by}
use Rattle.answer_verified_records.proofs.keys.signing_keys.Goals as goal

-- what was found out of the keys, said of what is handed in
module _ (own : Answers) (test : SignatureTest) (h now : JudgeInput) (is : now ≡ h) (rs : List Spelled) (ks held trusted : List Dnskey) (named : trusted ≡ filter (is_trusted own h.apex h.ds) ks) (items : held ≡ ks) (checks : Answers) (same : checks ≡ own) (moment : ℕ) (at : moment ≡ h.now) where
  abbrev w : Trusting
  w = record { answers = with_test checks test; apex = now.apex; keys = trusted; now = moment }

  w_is : w ≡ trusting_named (with_test own test) h ks
  w_is = λ i. record { answers = with_test (same i) test; apex = (is i).apex; keys = named i; now = at i }

  found_out : (b : Bool) → b ≡ is_verified w pointer_limit now.dnskey_bytes rs now.apex 48 (sorted_data (map dnskey_data held)) → b ≡ are_signed (with_test own test) pointer_limit h rs ks
  found_out b signed = signed ∙ (λ i. is_verified (w_is i) pointer_limit (is i).dnskey_bytes rs (is i).apex 48 (sorted_data (map dnskey_data (items i))))

pub returns-then-branch-clause-exact : goal.returns-then-branch-clause-exact
returns-then-branch-clause-exact g c = λ test fits.
    let own = g.C.Checks.answers c.args.check_run.now.checks.now in
    let is = c.case.view_is in
    let moment = c.timestamp.ensures ∙ ap (λ (h : JudgeInput). h.now) is in
    let rest = c.in_ok-trusted.ensures.rest in
    let same = ap (λ v. g.C.Checks.answers v.checks.now) rest in
    let named = c.in_ok-index.ensures ∙ c.deref-2.ensures.value ∙ c.in_ok-trusted.ensures.trusted ∙ (λ i. filter (is_trusted own (is i).apex (is i).ds) (c.deref.ensures.value i)) in
    let first = agreed_by own _ test _ same fits in
    let ks = c.args.keys.items in
    let found = found_out own test c.args.case.now _ is (map spelled c.args.records.now) ks c.deref-3.result.now c.in_ok-index.index named c.deref-3.ensures.value _ same _ moment _ (c.in_ok-are_verified.ensures.exact test first) in
    ap (λ (us : List Dnskey). Some us) c.usable_keys.ensures ∙ ap (λ (b : Bool). if b then Some (filter is_usable ks) else None) (sym c.if-branch.true ∙ found)

pub returns-clause-exact : goal.returns-clause-exact
returns-clause-exact g c = λ test fits.
    let own = g.C.Checks.answers c.args.check_run.now.checks.now in
    let is = c.case.view_is in
    let moment = c.timestamp.ensures ∙ ap (λ (h : JudgeInput). h.now) is in
    let rest = c.in_ok-trusted.ensures.rest in
    let same = ap (λ v. g.C.Checks.answers v.checks.now) rest in
    let named = c.in_ok-index.ensures ∙ c.deref-2.ensures.value ∙ c.in_ok-trusted.ensures.trusted ∙ (λ i. filter (is_trusted own (is i).apex (is i).ds) (c.deref.ensures.value i)) in
    let first = agreed_by own _ test _ same fits in
    let ks = c.args.keys.items in
    let found = found_out own test c.args.case.now _ is (map spelled c.args.records.now) ks c.deref-3.result.now c.in_ok-index.index named c.deref-3.ensures.value _ same _ moment _ (c.in_ok-are_verified.ensures.exact test first) in
    ap (λ (b : Bool). if b then Some (filter is_usable ks) else None) (sym c.if-branch.false ∙ found)
