-- A question that is judged asks for none of the types that signing adds.
use Rattle.std.proofs.Common.{◌≡◌, true, false, ◌&&◌, inl, inr}
use Rattle.std.proofs.lemmas.Bool.{and_parts, or_cases}
use Rattle.denial_laws.specs.Truth.{is_added_type}
use Rattle.answer_terms.specs.Asking.{asks_alias, is_allowed}
use Rattle.answer_terms.proofs.AllowedTypes.{Unsigned, alias_unsigned, unadded, unsigned_from}
use Rattle.answer_judge.specs.Judging.{JudgeInput, is_judged}

judged_unsigned : (h : JudgeInput) → is_judged h ≡ true → Unsigned h.asked.rtype
judged_unsigned h e = elim (or_cases (h.other_question && asks_alias h.apex h.asked) (is_allowed h.apex h.asked) e) [
  | inl other ↦ alias_unsigned h.apex h.asked (and_parts h.other_question (asks_alias h.apex h.asked) other).1
  | inr allowed ↦ unsigned_from h.apex h.asked allowed
]

pub judged_type : (h : JudgeInput) → is_judged h ≡ true → is_added_type h.asked.rtype ≡ false
judged_type h e = unadded h.asked.rtype (judged_unsigned h e)
