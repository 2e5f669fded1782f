use Rattle.std.proofs.Common.{◌≡◌, List, ℕ, true, ◌∷◌, [], sym, ap, ◌∙◌, subst}
use Rattle.std.specs.Prelude.{None, Ok}
use Rattle.std.proofs.lemmas.Bool.{true≢false}
use Rattle.definitions.specs.Name.{Name}
use Rattle.denial_laws.specs.Nsec3Rules.{is_matched}
use Rattle.answer_judge_rules.specs.Hashing.{fails_as, hash_as, HashesInTurn}
use Rattle.answer_judge_rules.proofs.Climbs.{child_of, climbed_out}
use Rattle.answer_judge_rules.proofs.Steps.{found, hashed_ended, hashed_found}
use Rattle.answer_judge_rules.proofs.hashed.+by_closest_encloser.Goals as goal

pub returns-then-name_eq-clause-verdict : goal.returns-then-name_eq-clause-verdict
returns-then-name_eq-clause-verdict g t c =
    sym (climbed_out c.args.chain.now.apex.now (hash_as (g.C.Checks.answers c.args.checks.now).hash c.args.chain.now.first.now) c.args.chain.now.links.now c.args.below.now.name c.args.chain.now.rtype (sym c.name_eq.ensures ∙ c.if-name_eq.true))

pub returns-then-name_eq-clause-hashes : goal.returns-then-name_eq-clause-hashes
returns-then-name_eq-clause-hashes g t c =
    let a = (g.C.Checks.answers c.args.checks.now).hash in
    hashed_ended c.args.chain.now.apex.now (hash_as a c.args.chain.now.first.now) (fails_as a c.args.chain.now.first.now) c.args.chain.now.links.now c.args.below.now.name (g.C.Checks.hashed c.args.checks.now) None (sym c.name_eq.ensures ∙ c.if-name_eq.true)

pub returns-then-is_matched-clause-verdict : goal.returns-then-is_matched-clause-verdict
returns-then-is_matched-clause-verdict g t c =
    let q = c.args.below.now.name in
    let p = c.in_ok-parent.parent.name in
    let fs = c.args.chain.now.links.now in
    let child : (l : List ℕ) × (q ≡ l ∷ p) = child_of q p (c.in_ok-parent.ensures.name ∙ c.in-Some.ensures.value) (λ e. true≢false (c.in-Some.ensures.root.1 e)) in
    let m : is_matched fs c.in_ok-parent.parent.hash.items ≡ true = ap (is_matched fs) (sym c.deref.ensures.value) ∙ sym c.is_matched.ensures ∙ c.if-is_matched.true in
    found c.args.chain.now.apex.now c.args.chain.now.first.now fs q p child.0 (g.C.Checks.answers c.args.checks.now) (g.C.Checks.answers c.hash_name.new.checks) c.in_ok-parent.parent.hash.items c.hash_name.ensures.same child.1 (sym c.name_eq.ensures ∙ c.if-name_eq.false) c.in_ok-parent.ensures.hash
    c.args.chain.now.rtype c.from_encloser.result m c.from_encloser.ensures.verdict

pub returns-then-is_matched-clause-hashes : goal.returns-then-is_matched-clause-hashes
returns-then-is_matched-clause-hashes g t c =
    let q = c.args.below.now.name in
    let p = c.in_ok-parent.parent.name in
    let fs = c.args.chain.now.links.now in
    let a = g.C.Checks.answers c.args.checks.now in
    let child : (l : List ℕ) × (q ≡ l ∷ p) = child_of q p (c.in_ok-parent.ensures.name ∙ c.in-Some.ensures.value) (λ e. true≢false (c.in-Some.ensures.root.1 e)) in
    let m : is_matched fs c.in_ok-parent.parent.hash.items ≡ true = ap (is_matched fs) (sym c.deref.ensures.value) ∙ sym c.is_matched.ensures ∙ c.if-is_matched.true in
    hashed_found c.args.chain.now.apex.now c.args.chain.now.first.now fs q p child.0 a (g.C.Checks.answers c.hash_name.new.checks) c.in_ok-parent.parent.hash.items c.hash_name.ensures.same child.1 (sym c.name_eq.ensures ∙ c.if-name_eq.false) c.in_ok-parent.ensures.hash
    (g.C.Checks.hashed c.args.checks.now) (g.C.Checks.hashed c.hash_name.new.checks) (g.C.Checks.hashed c.from_encloser.new.checks) c.in_ok-parent.parent c.from_encloser.result m
    (subst (λ (n : Name). HashesInTurn (fails_as a.hash c.args.chain.now.first.now) (n ∷ []) (g.C.Checks.hashed c.args.checks.now) (g.C.Checks.hashed c.hash_name.new.checks) (Ok c.in_ok-parent.parent)) (sym c.in_ok-parent.ensures.name) c.in_ok-parent.ensures.hashes)
    c.from_encloser.ensures.hashes
