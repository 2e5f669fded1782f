use Rattle.std.proofs.Common.{[], refl, sym, subst}
use Rattle.std.specs.List.{AllZip}
use Rattle.answer_terms.specs.GroupView.{Presents}
use Rattle.answer_zone.proofs.zone.ZoneRecords.found.Goals as goal

pub returns : goal.returns
returns g c = record {
  flags_are = refl;
  found_are = c.in_ok-under_name.ensures;
  rest_are = subst (λ gs. AllZip Presents gs []) (sym c.new.ensures.items) tt;
}
