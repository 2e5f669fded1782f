use Rattle.std.proofs.Common.{subst, IfSome, ap, ◌∙◌}
use Rattle.answer_terms.specs.EqualTags.{has_equal_tags}
use Rattle.answer_judge_keys.specs.KeyOrder.{IsRanking}
use Rattle.answer_judge_keys.proofs.KeyClashes.{tags_moved}
use Rattle.answer_judge_keys.proofs.key_index.KeyIndex.has_equal_tags.Goals as goal

pub returns-in-Some : goal.returns-in-Some
returns-in-Some c = c.has_clashing_neighbors.ensures ∙ ap has_equal_tags c.deref.ensures.value
    ∙ tags_moved c.args.self.now c.in-Some.ranked.items (subst (λ ks. IsRanking ks c.in-Some.ranked.items) c.self.view_is (subst (λ o. IfSome o (λ v. IsRanking c.self.inside.keys.now v.items)) c.in-Some.is c.self.invariant)).moved
