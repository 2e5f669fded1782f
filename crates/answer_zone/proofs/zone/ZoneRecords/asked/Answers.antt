use Rattle.std.proofs.Common.{◌≡◌, ◌&&◌, Bool, List, Some, true, false, not, inl, refl, sym, ap, subst, ◌∙◌, eqb}
use Rattle.std.specs.List.{list_any, slice_get}
use Rattle.std.specs.Option.{option_map}
use Rattle.std.proofs.lemmas.Bool.{and_from, and_parts}
use Rattle.definitions.specs.Name.{low, strictly_above}
use Rattle.definitions.specs.Zone.{has, is_delegation}
use Rattle.definitions.proofs.ZoneNames.{low-low}
use Rattle.denial_laws.proofs.NameFacts.{strictly-low}
use Rattle.messages.specs.HandedRr.{HandedRr}
use Rattle.answer_terms.specs.Accepting.{zone_with}
use Rattle.answer_zone_records.specs.OwnedRecords.{is_of_type}
use Rattle.answer_zone.specs.Cuts.{Refers}
use Rattle.answer_zone.proofs.Placing.{cut_owned, has_owned, none_refers, not_referred_here, refers_above, refers_here}
use Rattle.answer_zone.proofs.zone.ZoneRecords.asked.Goals as goal

pub returns-in-Some : goal.returns-in-Some
returns-in-Some g c =
    let z = zone_with c.args.self.now.apex c.args.self.now.records in
    let n = c.args.name.now in
    let some = c.in-Some.ensures.some in
    (refers_above z (low n) (low-low n) c.args.rtype (low c.in-Some.cut.name.now) some.0, some.1)

pub returns-then-not-may_refer : goal.returns-then-not-may_refer
returns-then-not-may_refer g c =
    let apex = c.args.self.now.apex in
    let z = zone_with apex c.args.self.now.records in
    let n = c.args.name.now in
    let none = c.in_default.ensures.none refl in
    let off : (not (eqb c.args.rtype 43) && strictly_above (low apex) (low n)) ≡ false = ap (λ b. not (eqb c.args.rtype 43) && b) (strictly-low apex n) ∙ sym c.may_refer.ensures ∙ c.if-not-may_refer.true in
    (none_refers z (low n) (low-low n) c.args.rtype none (not_referred_here (eqb c.args.rtype 43) (strictly_above (low apex) (low n)) (has z (low n) 2) off), none, c.owned_near-owned.ensures)

pub returns-in-Ok : goal.returns-in-Ok
returns-in-Ok g c =
    let apex = c.args.self.now.apex in
    let rs = c.args.self.now.records in
    let z = zone_with apex rs in
    let n = c.args.name.now in
    let t = c.args.rtype in
    let none = c.in_default.ensures.none refl in
    let k = c.in-Ok.ensures.cut in
    let own = c.owned_near-owned.ensures in
    let both = and_parts (not (eqb t 43)) (strictly_above apex n) (sym c.may_refer.ensures ∙ c.if-not-may_refer.false) in
    let there : has z (low n) 2 ≡ true = sym (has_owned apex rs n 2) ∙ ap (list_any (is_of_type 2)) (sym own) ∙ k.1 in
    let delegation : is_delegation z (low n) ≡ true = and_from (has z (low n) 2) (strictly_above (low apex) (low n)) there (strictly-low apex n ∙ both.1) in
    let r = cut_owned rs n c.in-Ok.cut (k.0 ∙ own) (subst (λ (os : List HandedRr). Some c.in-Ok.cut.name.now ≡ option_map (λ (r : HandedRr). r.owner) (slice_get os 0)) own k.2) in
    let off : eqb t 43 ≡ false = not_true (eqb t 43) both.0 in
    (subst (Refers z (low n) t) (sym r.0) (refers_here z (low n) (low-low n) t none delegation off), r.1)
  where
    not_true : (b : Bool) → not b ≡ true → b ≡ false
    not_true true h = sym h
    not_true false h = refl

pub returns-in-Err : goal.returns-in-Err
returns-in-Err g c =
    let apex = c.args.self.now.apex in
    let rs = c.args.self.now.records in
    let z = zone_with apex rs in
    let n = c.args.name.now in
    let none = c.in_default.ensures.none refl in
    let k = c.in-Err.ensures.back in
    let own = c.owned_near-owned.ensures in
    let gone : has z (low n) 2 ≡ false = sym (has_owned apex rs n 2) ∙ ap (list_any (is_of_type 2)) (sym own) ∙ k.1 in
    (none_refers z (low n) (low-low n) c.args.rtype none (inl (ap (λ b. b && strictly_above (low apex) (low n)) gone)), none, k.0 ∙ own)
