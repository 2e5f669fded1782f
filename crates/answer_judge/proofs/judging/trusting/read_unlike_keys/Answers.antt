use Rattle.std.proofs.Common.{◌≡◌, map, inr, refl, sym, ap, subst, ◌∙◌}
use Rattle.messages.specs.Record.{spelled}
use Rattle.answer_judge_facts.specs.DnskeyAnswer.{keys_in}
use Rattle.answer_terms.specs.EqualTags.{has_equal_tags}
use Rattle.answer_judge.proofs.judging.trusting.read_unlike_keys.Goals as goal

pub returns-then-are_equal-clause-equal : goal.returns-then-are_equal-clause-equal
returns-then-are_equal-clause-equal c =
    let is = c.case.view_is in
    let keys : c.in_ok-keys.keys.items ≡ keys_in c.args.case.now.dnskey_bytes c.args.case.now.apex (map spelled c.args.records.now) = c.in_ok-keys.ensures ∙ (λ i. keys_in (is i).dnskey_bytes (is i).apex (map spelled c.args.records.now)) in
    inr (refl, sym (c.has_equal_tags-are_equal.ensures ∙ ap has_equal_tags (c.in_ok-index.ensures ∙ c.deref.ensures.value ∙ keys)) ∙ c.if-are_equal.true)

pub returns-clause-keys : goal.returns-clause-keys
returns-clause-keys c = let is = c.case.view_is in c.in_ok-keys.ensures ∙ (λ i. keys_in (is i).dnskey_bytes (is i).apex (map spelled c.args.records.now))

pub returns-clause-unlike : goal.returns-clause-unlike
returns-clause-unlike c = sym (c.has_equal_tags-are_equal.ensures ∙ ap has_equal_tags (c.in_ok-index.ensures ∙ c.deref.ensures.value)) ∙ c.if-are_equal.false
