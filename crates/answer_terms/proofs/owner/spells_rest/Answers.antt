use Rattle.std.proofs.Common.{ap, ◌∙◌, ◌%◌}
use Rattle.std.specs.Prelude.{◌==◌}
use Rattle.answer_terms.proofs.Digits.{spells_four, spells_five, spells_seven}
use Rattle.answer_terms.proofs.owner.spells_rest.Goals as goal

pub returns-in-len4 : goal.returns-in-len4
returns-in-len4 c = ap (λ v. v % 16 == 0) c.value-in-len4.ensures ∙ spells_four c.args.digits.now c.in-len4.len_at_least c.in-len4.len_below c.requires.digits

pub returns-in-len5 : goal.returns-in-len5
returns-in-len5 c = ap (λ v. v % 2 == 0) c.value-in-len5.ensures ∙ spells_five c.args.digits.now c.in-len5.len_at_least c.in-len5.len_below c.requires.digits

pub returns-in-len7 : goal.returns-in-len7
returns-in-len7 c = ap (λ v. v % 8 == 0) c.value-in-len7.ensures ∙ spells_seven c.args.digits.now c.in-len7.len_at_least c.in-len7.len_below c.requires.digits
