use Rattle.std.proofs.Common.{sym, ◌∙◌}
use Rattle.session_grammar.proofs.NumberLemmas.{number_not_parsed}
use Rattle.session_grammar.proofs.number_fields.number_u64.Goals as goal

pub returns-in-Err : goal.returns-in-Err
returns-in-Err c = number_not_parsed c.args.text.now c.parse.result c.in-Err.field-0 c.parse.ensures.value.0 (sym c.is_digits.ensures ∙ c.if-not-is_digits.false) c.in-Err.is
