use Rattle.std.proofs.Common.{◌∷◌, []}
use Rattle.std.proofs.lemmas.Result.{err_from_is_err_and}
use Rattle.answer_judge_rules.specs.Hashing.{fails_as}
use Rattle.answer_judge_rules.proofs.InTurn.{err_passed}
use Rattle.answer_judge_rules.proofs.hashing.hash_name.Goals as goal

pub returns-in_err-hash-clause-hashes : goal.returns-in_err-hash-clause-hashes
returns-in_err-hash-clause-hashes g c =
    let p = err_from_is_err_and c.from_residual.result c.from_residual.ensures.1 in
    err_passed c.hash_behind.result (fails_as (g.C.Checks.answers c.args.checks.now).hash c.args.chain.now.first.now) (c.args.name ∷ []) (g.C.Checks.hashed c.args.checks.now) (g.C.Checks.hashed c.hash_behind.new.checks) c.in_err-hash.field-0.0 p.0 c.from_residual.result p.1 p.2 c.in_err-hash.ensures.hashes
