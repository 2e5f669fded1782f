use Rattle.std.proofs.Common.{rules, ◌≡◌, Some, ap, ◌∙◌}
use Rattle.std.specs.List.{find}
use Rattle.answer_judge_keys.specs.Digests.{is_digest, is_of_type}
use Rattle.answer_judge_keys.proofs.MadeDigests.{found_names, names}
use Rattle.answer_judge_keys.proofs.digests.matches_key.Goals as goal

pub returns-in-Some-clause-named : goal.returns-in-Some-clause-named
returns-in-Some-clause-named g c =
    let a = g.C.Checks.answers c.args.check_run.now.checks.now in
    let apex = c.args.apex.now in
    let key = c.args.key.now in
    let ds = c.args.ds.now in
    let digest = c.in-Some.digest.now in
    let found : Some digest ≡ find (is_of_type ds.digest_type) c.args.made.now.items =
    c.in-Some.ensures
    ∙ ap (λ n. find (is_of_type n) c.deref.result.now) c.digest_type-algorithm.ensures
    ∙ ap (find (is_of_type ds.digest_type)) c.deref.ensures.value
    in
    names a apex key ds c.is.result (search rules) (search rules)
    (c.is.ensures ∙ ap (is_digest digest) c.digest.ensures ∙ found_names a apex key ds c.args.made.now.items digest c.requires found)
