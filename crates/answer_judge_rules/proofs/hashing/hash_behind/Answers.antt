use Rattle.std.proofs.Common.{◌∷◌, [], drop, ◌∙◌}
use Rattle.std.proofs.lemmas.Result.{err_from_is_err_and}
use Rattle.answer_judge_rules.specs.Hashing.{fails_as}
use Rattle.answer_judge_rules.proofs.InTurn.{err_memory}
use Rattle.answer_judge_rules.proofs.Hashers.{hash_found, one_hashed}
use Rattle.answer_judge_rules.proofs.hashing.hash_behind.Goals as goal

pub returns-clause-hash : goal.returns-clause-hash
returns-clause-hash g c =
    hash_found (λ v. v.items) (g.C.Checks.answers c.args.checks.now).hash c.args.chain.now.first.now (drop c.args.skipped (g.N.Labels.name c.args.name.now)) c.deref.result.now c.hash_octets.result
    (c.deref.ensures.value ∙ c.in_ok-write_lower_wire.ensures) c.hash_octets.ensures.answer

pub returns-clause-hashes : goal.returns-clause-hashes
returns-clause-hashes g c =
    one_hashed (λ v. v.items) (g.C.Checks.answers c.args.checks.now).hash c.args.chain.now.first.now (drop c.args.skipped (g.N.Labels.name c.args.name.now)) c.deref.result.now
    (g.C.Checks.hashed c.args.checks.now) (g.C.Checks.hashed c.hash_octets.new.checks) c.hash_octets.result
    (c.deref.ensures.value ∙ c.in_ok-write_lower_wire.ensures) c.hash_octets.ensures.answer c.hash_octets.ensures.failed c.hash_octets.ensures.counted

pub returns-in_err-write_lower_wire-clause-hashes : goal.returns-in_err-write_lower_wire-clause-hashes
returns-in_err-write_lower_wire-clause-hashes g c =
    let p = err_from_is_err_and c.from_residual.result c.from_residual.ensures.1 in
    err_memory (fails_as (g.C.Checks.answers c.args.checks.now).hash c.args.chain.now.first.now) (drop c.args.skipped (g.N.Labels.name c.args.name.now) ∷ []) (g.C.Checks.hashed c.args.checks.now) p.0 c.from_residual.result p.1 p.2
