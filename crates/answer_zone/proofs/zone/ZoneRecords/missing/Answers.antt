use Rattle.std.proofs.Common.{[], refl, sym, subst}
use Rattle.std.specs.List.{AllZip}
use Rattle.answer_terms.specs.GroupView.{Presents}
use Rattle.answer_zone.proofs.zone.ZoneRecords.missing.Goals as goal

pub returns-clause-answer : goal.returns-clause-answer
returns-clause-answer g c = record {
  flags_are = refl;
  found_are = subst (λ gs. AllZip Presents gs []) (sym c.new.ensures.items) tt;
  rest_are = c.in_ok-denial.ensures.answer;
}
