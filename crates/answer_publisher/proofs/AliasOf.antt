-- In a zone without aliases none answers.
use Rattle.std.proofs.Common.{◌≡◌, Bool, true, false, not, ◌&&◌, List, Option, Some, None, refl, sym, ap, ◌∙◌, ⊎_elim}
use Rattle.std.specs.Prelude.{◌==◌, if◌then◌else◌}
use Rattle.std.specs.List.{list_any}
use Rattle.std.specs.Option.{option_map}
use Rattle.std.proofs.lemmas.Bool.{eqb-true, false≢true, or_cases}
use Rattle.definitions.specs.Name.{Name}
use Rattle.definitions.specs.ZoneChain.{Mode}
use Rattle.denial_laws.specs.Aliases.{is_alias_type}
use Rattle.messages.specs.HandedRr.{HandedRr}
use Rattle.messages.specs.Message.{Asked}
use Rattle.answer_terms.specs.Accepting.{is_alias, zone_with}
use Rattle.answer_zone.specs.Finding.{finds, redirecting}
use Rattle.answer_zone.proofs.Found.{found_nowhere, no_alias_at, redirecting_nowhere}
use Rattle.answer_publisher.specs.Aliases.{alias_in_place, alias_of, asks_all, asks_beside, for_type, may_lead}

module _ (apex : Name) (rs : List HandedRr) (none : list_any is_alias rs ≡ false) (mode : Mode) (a : Asked) where
  no_cname : (n : Name) → finds (zone_with apex rs) n 5 ≡ false
  no_cname n = found_nowhere (zone_with apex rs) 5 refl (no_alias_at apex rs none 5 refl) n

  no_dname : (n : Name) → finds (zone_with apex rs) n 39 ≡ false
  no_dname n = found_nowhere (zone_with apex rs) 39 refl (no_alias_at apex rs none 39 refl) n

  led_nowhere : redirecting (zone_with apex rs) a.name ≡ None
  led_nowhere = redirecting_nowhere (zone_with apex rs) (no_alias_at apex rs none 39 refl) a.name

  abbrev chosen : Bool → Bool → Option Name → Option Asked
  chosen b c o = if b then Some (for_type 39 a) else if c then Some (for_type 5 a) else option_map (λ d. record { name = d; rtype = 39; class = a.class }) o

  never : (b c : Bool) → chosen (b && false) (c && false) None ≡ None
  never true true = refl
  never true false = refl
  never false true = refl
  never false false = refl

  none_in_place : alias_in_place mode (zone_with apex rs) a ≡ None
  none_in_place = (λ i. chosen (asks_all a && no_dname a.name i) (not (asks_beside mode (zone_with apex rs) a) && no_cname a.name i) (led_nowhere i)) ∙ never (asks_all a) (not (asks_beside mode (zone_with apex rs) a))

  unfound : is_alias_type a.rtype ≡ true → finds (zone_with apex rs) a.name a.rtype ≡ false
  unfound e = ⊎_elim
      (λ is. ap (finds (zone_with apex rs) a.name) (eqb-true a.rtype 5 is) ∙ no_cname a.name)
      (λ is. ap (finds (zone_with apex rs) a.name) (eqb-true a.rtype 39 is) ∙ no_dname a.name)
      (or_cases (a.rtype == 5) (a.rtype == 39) e)

  by_type : (k : Bool) → is_alias_type a.rtype ≡ k → (f : Bool) → finds (zone_with apex rs) a.name a.rtype ≡ f
      → (if f then (if k then Some a else None) else alias_in_place mode (zone_with apex rs) a) ≡ None
  by_type k e false h = none_in_place
  by_type false e true h = refl
  by_type true e true h = absurd (false≢true (sym (unfound e) ∙ h))

  by_class : (b : Bool) → (if b then None else (if finds (zone_with apex rs) a.name a.rtype then (if is_alias_type a.rtype then Some a else None) else alias_in_place mode (zone_with apex rs) a)) ≡ None
  by_class true = refl
  by_class false = by_type (is_alias_type a.rtype) refl (finds (zone_with apex rs) a.name a.rtype) refl

  pub no_alias_of : alias_of mode (zone_with apex rs) a ≡ None
  no_alias_of = by_class (not (may_lead apex a))
