use Rattle.std.proofs.Common.{◌≡◌, true, false, sym, ap, ◌∙◌}
use Rattle.denial_laws.specs.Nsec3Rules.{asks_star}
use Rattle.answer_judge_rules.specs.Hashing.{hash_as, open_among}
use Rattle.answer_judge_rules.proofs.Steps.{asked_found, asked_left, unasked}
use Rattle.answer_judge_rules.proofs.hashed.by_next_closer.Goals as goal

pub returns-then-not-is_denied-clause-verdict : goal.returns-then-not-is_denied-clause-verdict
returns-then-not-is_denied-clause-verdict g c =
    let h = c.args.closer.now.hash.items in
    let fs = c.args.chain.now.links.now in
    let asks : asks_star h fs ≡ false = ap (λ x. asks_star x fs) (sym c.deref.ensures.value) ∙ sym c.is_denied.ensures ∙ c.if-not-is_denied.true in
    c.left_open.ensures ∙ ap (λ x. open_among x fs) c.deref-then-not-is_denied.ensures.value
    ∙ unasked (hash_as (g.C.Checks.answers c.args.checks.now).hash c.args.chain.now.first.now) fs c.args.closer.now.name c.args.encloser.now h c.args.chain.now.rtype asks

pub returns-in-None-clause-verdict : goal.returns-in-None-clause-verdict
returns-in-None-clause-verdict g c =
    let h = c.args.closer.now.hash.items in
    let fs = c.args.chain.now.links.now in
    let asks : asks_star h fs ≡ true = ap (λ x. asks_star x fs) (sym c.deref.ensures.value) ∙ sym c.is_denied.ensures ∙ c.if-not-is_denied.false in
    c.left_open-in-None.ensures ∙ ap (λ x. open_among x fs) c.deref-in-None.ensures.value
    ∙ asked_left (hash_as (g.C.Checks.answers c.args.checks.now).hash c.args.chain.now.first.now) fs c.args.closer.now.name c.args.encloser.now h c.args.chain.now.rtype c.in_ok-found.found asks c.in-None.is c.in_ok-found.ensures.verdict

pub returns-in_default-clause-verdict : goal.returns-in_default-clause-verdict
returns-in_default-clause-verdict g c =
    let h = c.args.closer.now.hash.items in
    let fs = c.args.chain.now.links.now in
    let asks : asks_star h fs ≡ true = ap (λ x. asks_star x fs) (sym c.deref.ensures.value) ∙ sym c.is_denied.ensures ∙ c.if-not-is_denied.false in
    asked_found (hash_as (g.C.Checks.answers c.args.checks.now).hash c.args.chain.now.first.now) fs c.args.closer.now.name c.args.encloser.now h c.args.chain.now.rtype c.in_ok-found.found asks c.in_default.not-None c.in_ok-found.ensures.verdict
