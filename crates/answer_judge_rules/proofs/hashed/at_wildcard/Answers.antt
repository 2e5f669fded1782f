use Rattle.std.proofs.Common.{◌∷◌, []}
use Rattle.std.proofs.lemmas.Result.{err_from_is_err_and}
use Rattle.definitions.specs.Zone.{star_under}
use Rattle.answer_judge_rules.specs.Hashing.{fails_as}
use Rattle.answer_judge_rules.proofs.InTurn.{err_passed}
use Rattle.answer_judge_rules.proofs.hashed.at_wildcard.Goals as goal

pub returns-in_err-star-clause-hashes : goal.returns-in_err-star-clause-hashes
returns-in_err-star-clause-hashes g c =
    let p = err_from_is_err_and c.from_residual.result c.from_residual.ensures.1 in
    err_passed c.hash_wildcard.result (fails_as (g.C.Checks.answers c.args.checks.now).hash c.args.chain.now.first.now) (star_under c.args.encloser.now ∷ []) (g.C.Checks.hashed c.args.checks.now) (g.C.Checks.hashed c.hash_wildcard.new.checks) c.in_err-star.field-0.0 p.0 c.from_residual.result p.1 p.2 c.in_err-star.ensures.hashes
