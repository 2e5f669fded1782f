use Rattle.std.proofs.Common.{◌≡◌, ◌==◌, ◌&&◌, true, not, length, sym, ap, ◌∙◌}
use Rattle.std.specs.Prelude.{Some}
use Rattle.std.specs.List.{find}
use Rattle.answer_scheme.specs.Answers.{with_test}
use Rattle.answer_judge_keys.specs.Trusted.{fits_key, is_due}
use Rattle.answer_judge_facts.specs.Marked.{data_in, held_by, signed_of}
use Rattle.messages.specs.Message.{if_true}
use Rattle.messages.specs.Record.{fields_read}
use Rattle.answer_judge_facts.proofs.JudgeAsked.{answered, due_then, signs_found, tries_found}
use Rattle.answer_judge_facts.proofs.groups.verifies.Goals as goal

pub returns-then-verify-clause-signs : goal.returns-then-verify-clause-signs
returns-then-verify-clause-signs g c = λ test fits.
    let own = g.C.Checks.answers c.args.check_run.now.checks.now in
    let trust = c.args.trust.now in
    let items = data_in c.args.group.now in
    let f = fields_read c.args.signature.now in
    let due : (not (length items == 0) && is_due trust.apex.now trust.moment c.args.group.now.owner f) ≡ true = due_then c.args.group.now c.is_empty.result c.is_due.result _ (c.is_empty.ensures ∙ ap (λ n. n == 0) c.args.group.now.items.ok.0) c.if-is_empty.false c.is_due.ensures c.if-not-is_due.false in
    let found : find (fits_key f) trust.keys.now ≡ Some c.in-Some.key.now = sym c.in-Some.ensures in
    let octets = c.deref.ensures.value ∙ c.in_ok-write_signed.ensures in
    let is = answered own.verifies test _ _ _ _ _ _ fits c.verify.ensures.answer (c.verify.ensures.agrees test) in
    let signs = signs_found (with_test own test) trust.apex.now trust.keys.now trust.moment c.args.group.now.owner items f c.args.signature.now.signature c.in-Some.key.now due found in
    let passes = signs ∙ sym (is ∙ (λ i. test (c.dnskey.ensures i) (octets i) (c.signature.ensures i))) ∙ c.if-verify.true in
    ap Some c.signed_of.ensures ∙ sym (ap (λ b. if_true b (signed_of f)) passes)

pub returns-clause-signs : goal.returns-clause-signs
returns-clause-signs g c = λ test fits.
    let own = g.C.Checks.answers c.args.check_run.now.checks.now in
    let trust = c.args.trust.now in
    let items = data_in c.args.group.now in
    let f = fields_read c.args.signature.now in
    let due : (not (length items == 0) && is_due trust.apex.now trust.moment c.args.group.now.owner f) ≡ true = due_then c.args.group.now c.is_empty.result c.is_due.result _ (c.is_empty.ensures ∙ ap (λ n. n == 0) c.args.group.now.items.ok.0) c.if-is_empty.false c.is_due.ensures c.if-not-is_due.false in
    let found : find (fits_key f) trust.keys.now ≡ Some c.in-Some.key.now = sym c.in-Some.ensures in
    let octets = c.deref.ensures.value ∙ c.in_ok-write_signed.ensures in
    let is = answered own.verifies test _ _ _ _ _ _ fits c.verify.ensures.answer (c.verify.ensures.agrees test) in
    let signs = signs_found (with_test own test) trust.apex.now trust.keys.now trust.moment c.args.group.now.owner items f c.args.signature.now.signature c.in-Some.key.now due found in
    let fails = signs ∙ sym (is ∙ (λ i. test (c.dnskey.ensures i) (octets i) (c.signature.ensures i))) ∙ c.if-verify.false in
    sym (ap (λ b. if_true b (signed_of f)) fails)

pub returns-then-verify-clause-asked : goal.returns-then-verify-clause-asked
returns-then-verify-clause-asked g c = λ test passes.
    let w = held_by (g.C.Checks.answers c.args.check_run.now.checks.now) c.args.trust.now in
    let group = c.args.group.now in
    let f = fields_read c.args.signature.now in
    let due : (not (length (data_in group) == 0) && is_due w.apex w.now group.owner f) ≡ true = due_then group c.is_empty.result c.is_due.result _ (c.is_empty.ensures ∙ ap (λ n. n == 0) group.items.ok.0) c.if-is_empty.false c.is_due.ensures c.if-not-is_due.false in
    let found : find (fits_key f) w.keys ≡ Some c.in-Some.key.now = sym c.in-Some.ensures in
    let octets = c.deref.ensures.value ∙ c.in_ok-write_signed.ensures in
    c.verify.ensures.asked test ((λ i. test (c.dnskey.ensures i) (octets i) (c.signature.ensures i)) ∙ passes (tries_found w group.owner (data_in group) f c.in-Some.key.now due found) c.in-Some.key.now found)

pub returns-clause-asked : goal.returns-clause-asked
returns-clause-asked g c = λ test passes.
    let w = held_by (g.C.Checks.answers c.args.check_run.now.checks.now) c.args.trust.now in
    let group = c.args.group.now in
    let f = fields_read c.args.signature.now in
    let due : (not (length (data_in group) == 0) && is_due w.apex w.now group.owner f) ≡ true = due_then group c.is_empty.result c.is_due.result _ (c.is_empty.ensures ∙ ap (λ n. n == 0) group.items.ok.0) c.if-is_empty.false c.is_due.ensures c.if-not-is_due.false in
    let found : find (fits_key f) w.keys ≡ Some c.in-Some.key.now = sym c.in-Some.ensures in
    let octets = c.deref.ensures.value ∙ c.in_ok-write_signed.ensures in
    c.verify.ensures.asked test ((λ i. test (c.dnskey.ensures i) (octets i) (c.signature.ensures i)) ∙ passes (tries_found w group.owner (data_in group) f c.in-Some.key.now due found) c.in-Some.key.now found)
