use Rattle.std.proofs.Common.{◌≡◌, ◌∷◌, sym, ap, ◌∙◌, subst}
use Rattle.denial_laws.specs.Facts.{Facts}
use Rattle.denial_laws.specs.Deciding.{decided, hashed}
use Rattle.answer_judge_rules.specs.Hashes.{fails_among, hash_among}
use Rattle.answer_judge_rules.specs.Hashing.{by_hashes, fails_as, hash_as, hashed_by, HashesInTurn}
use Rattle.answer_judge_rules.proofs.Decides.{by_hashes_decided, by_hashes_hashed, fails_first}
use Rattle.answer_judge_rules.proofs.Steps.{Says}
use Rattle.answer_judge_rules.proofs.decide.by_rules.Goals as goal

pub returns-clause-verdict : goal.returns-clause-verdict
returns-clause-verdict g c =
    let a = (g.C.Checks.answers c.args.checks.now).hash in
    let apex = c.args.asked.now.apex.now in
    let r = c.facts.inside.rrset in
    let ls = c.facts.inside.links.items in
    let hs = c.facts.inside.hash_links.items in
    let h = c.in-Some.first.now in
    let rest = c.in-Some.field-0-1.now in
    let q = c.args.asked.now.name.now in
    let t = c.args.asked.now.rtype in
    let first : hs ≡ h ∷ rest = sym c.deref.ensures.value ∙ c.in-Some.ensures.cases.0 in
    subst (λ x. Says c.by_hash_links.result x)
    (ap (λ ms. by_hashes apex (hash_as a h) r ms q t) c.deref-2.ensures.value
    ∙ sym (by_hashes_decided apex a r ls hs h rest q t first (sym c.is_at_or_above.ensures ∙ c.if-not-is_at_or_above.false))
    ∙ ap (λ (f : Facts). decided apex (hash_among a f.hash_links) f q t) c.facts.view_is)
    c.by_hash_links.ensures.verdict

pub returns-clause-hashes : goal.returns-clause-hashes
returns-clause-hashes g c =
    let a = (g.C.Checks.answers c.args.checks.now).hash in
    let apex = c.args.asked.now.apex.now in
    let r = c.facts.inside.rrset in
    let ls = c.facts.inside.links.items in
    let hs = c.facts.inside.hash_links.items in
    let h = c.in-Some.first.now in
    let rest = c.in-Some.field-0-1.now in
    let q = c.args.asked.now.name.now in
    let before = g.C.Checks.hashed c.args.checks.now in
    let after = g.C.Checks.hashed c.by_hash_links.new.checks in
    let first : hs ≡ h ∷ rest = sym c.deref.ensures.value ∙ c.in-Some.ensures.cases.0 in
    subst (λ (f : Facts). HashesInTurn (fails_among a f.hash_links) (hashed apex (hash_among a f.hash_links) f q) before after c.by_hash_links.result) c.facts.view_is
    (subst (λ fails. HashesInTurn fails (hashed apex (hash_among a hs) (record { rrset = r; links = ls; hash_links = hs }) q) before after c.by_hash_links.result) (sym (fails_first a hs h rest first))
    (subst (λ ns. HashesInTurn (fails_as a h) ns before after c.by_hash_links.result)
    (ap (λ ms. hashed_by apex (hash_as a h) r ms q) c.deref-2.ensures.value
    ∙ sym (by_hashes_hashed apex a r ls hs h rest q first (sym c.is_at_or_above.ensures ∙ c.if-not-is_at_or_above.false)))
    c.by_hash_links.ensures.hashes))
