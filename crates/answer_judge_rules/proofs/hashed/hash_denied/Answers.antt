use Rattle.std.proofs.Common.{◌≡◌, true, false, ◌∷◌, [], sym, ap, ◌∙◌, subst}
use Rattle.std.specs.Prelude.{Ok}
use Rattle.definitions.specs.Name.{Name}
use Rattle.denial_laws.specs.NsecRules.{first_some}
use Rattle.denial_laws.specs.Nsec3Rules.{at_hash, hash_denied, hashed_denied, is_matched}
use Rattle.answer_judge_rules.specs.Hashing.{fails_as, hash_as, HashesInTurn}
use Rattle.answer_judge_rules.proofs.Steps.{hashed_unmatched, matched}
use Rattle.answer_judge_rules.proofs.hashed.hash_denied.Goals as goal

pub returns-then-is_matched-clause-verdict : goal.returns-then-is_matched-clause-verdict
returns-then-is_matched-clause-verdict g c =
    let q = c.in_ok-name.name.name in
    let apex = c.args.chain.now.apex.now in
    let fs = c.args.chain.now.links.now in
    let t = c.args.chain.now.rtype in
    let a = g.C.Checks.answers c.args.checks.now in
    let m : is_matched fs c.in_ok-name.name.hash.items ≡ true = ap (is_matched fs) (sym c.deref.ensures.value) ∙ sym c.is_matched.ensures ∙ c.if-is_matched.true in
    c.first_at_hash-verdict.ensures ∙ ap (λ h. first_some (at_hash apex q t h) fs) c.deref-then-is_matched.ensures.value
    ∙ matched apex c.args.chain.now.first.now fs q a (g.C.Checks.answers c.hash_name.new.checks) c.in_ok-name.name.hash.items c.hash_name.ensures.same c.in_ok-name.ensures.hash t m
    ∙ ap (λ (n : Name). hash_denied apex (hash_as a.hash c.args.chain.now.first.now) n t fs) (c.in_ok-name.ensures.name ∙ c.for_ref.ensures)

pub returns-clause-hashes : goal.returns-clause-hashes
returns-clause-hashes g c =
    let q = c.in_ok-name.name.name in
    let apex = c.args.chain.now.apex.now in
    let fs = c.args.chain.now.links.now in
    let a = g.C.Checks.answers c.args.checks.now in
    let before = g.C.Checks.hashed c.args.checks.now in
    let mid = g.C.Checks.hashed c.hash_name.new.checks in
    let after = g.C.Checks.hashed c.by_closest_encloser.new.checks in
    let m : is_matched fs c.in_ok-name.name.hash.items ≡ false = ap (is_matched fs) (sym c.deref.ensures.value) ∙ sym c.is_matched.ensures ∙ c.if-is_matched.false in
    subst (λ (n : Name). HashesInTurn (fails_as a.hash c.args.chain.now.first.now) (hashed_denied apex (hash_as a.hash c.args.chain.now.first.now) n fs) before after c.by_closest_encloser.result) (c.in_ok-name.ensures.name ∙ c.for_ref.ensures)
    (hashed_unmatched apex c.args.chain.now.first.now fs q a (g.C.Checks.answers c.hash_name.new.checks) c.in_ok-name.name.hash.items c.hash_name.ensures.same c.in_ok-name.ensures.hash
    before mid after c.in_ok-name.name c.by_closest_encloser.result m
    (subst (λ (n : Name). HashesInTurn (fails_as a.hash c.args.chain.now.first.now) (n ∷ []) before mid (Ok c.in_ok-name.name)) (sym c.in_ok-name.ensures.name) c.in_ok-name.ensures.hashes)
    c.by_closest_encloser.ensures.hashes)
