use Rattle.std.proofs.Common.{rules}
use Rattle.std.proofs.lemmas.List.Elements.{filter_from_retain}
use Rattle.answer_judge_keys.specs.Trusted.{is_usable}
use Rattle.answer_judge_keys.proofs.keys.usable_keys.Goals as goal

pub returns : goal.returns
returns c = filter_from_retain _ is_usable (λ p x b q t. search rules) _ _ _ c.retain.ensures.filtered
