use Rattle.std.proofs.Common.{rules, ◌≡◌, ◌==◌, true, false, [], ◌∷◌, ◌++◌, filter, length, map, sym, ap, subst, ◌∙◌}
use Rattle.std.specs.Prelude.{unwrap_or}
use Rattle.std.specs.List.{list_any}
use Rattle.definitions.specs.Limits.{pointer_limit}
use Rattle.messages.specs.Record.{fields_of, spelled}
use Rattle.answer_judge_keys.specs.DnskeyAnswer.{keys_in}
use Rattle.answer_judge_keys.specs.Trusted.{is_trusted}
use Rattle.answer_judge_facts.specs.Ranked.{AreRanked}
use Rattle.answer_judge_facts.proofs.GroupPlaces.{one_ranked}
use Rattle.answer_extended_errors.specs.Extended.{is_made, signatures_of, untimely}
use Rattle.answer_extended_errors.specs.Groups.{is_among}
use Rattle.answer_extended_errors.specs.declared.error.ExtendedError.TheVariants as e
use Rattle.answer_extended_errors.proofs.DelegationErrors.{late_or_bogus, signed_late}
use Rattle.answer_extended_errors.proofs.delegation.untrusted_keys.Goals as goal

pub signatures_over-requires : goal.signatures_over-requires
signatures_over-requires g c =
    let x = c.in_ok-read_group.field-0 in
    let all : c.deref-2.result.now ≡ x ∷ [] = c.deref-2.ensures.value ∙ c.in_ok-push.ensures.items ∙ ap (λ gs. gs ++ x ∷ []) c.in_ok-groups.ensures.items in
    subst AreRanked (sym all) (one_ranked x)

pub returns-clause-exact : goal.returns-clause-exact
returns-clause-exact g c =
    let a = g.C.Checks.answers c.args.check_run.now.checks.now in
    let apex = c.args.apex.now in
    let ds = c.args.ds.now in
    let m = c.args.message.now in
    let rs = map spelled c.args.records.now in
    let now = c.args.moment in
    let x = c.in_ok-read_group.field-0 in
    let all : c.deref-2.result.now ≡ x ∷ [] = c.deref-2.ensures.value ∙ c.in_ok-push.ensures.items ∙ ap (λ gs. gs ++ x ∷ []) c.in_ok-groups.ensures.items in
    let ss = c.in_ok-signatures.signatures.items in
    let are : map fields_of ss ≡ signatures_of pointer_limit m apex (is_among (x ∷ [])) rs = c.in_ok-signatures.ensures ∙ ap (λ gs. signatures_of pointer_limit m apex (is_among gs) rs) all in
    let made : list_any (is_made a) ds ≡ true = search rules in
    let named : (length (filter (is_trusted a apex ds) (keys_in m apex rs)) == 0) ≡ false = search rules in
    let late = c.untimely.ensures ∙ ap (λ vs. untimely now (map fields_of vs)) c.deref-3.ensures.value in
    let owner = c.in_ok-read_group.ensures.owner ∙ c.in_ok-owner.ensures in
    c.unwrap_or.ensures ∙ ap (λ o. unwrap_or o e.DnssecBogus) late ∙ late_or_bogus (untimely now (map fields_of ss))
    ∙ signed_late a apex ds m rs now x owner c.in_ok-read_group.ensures.rtype (map fields_of ss) made named are
