use Rattle.std.proofs.Common.{◌≡◌, ◌&&◌, false, true, Some, refl, sym, ap, subst, ◌∙◌}
use Rattle.std.proofs.lemmas.Bool.{and_from}
use Rattle.definitions.specs.Name.{low, strictly_above}
use Rattle.definitions.specs.Zone.{has, is_delegation}
use Rattle.definitions.proofs.ZoneNames.{above_itself, low-low}
use Rattle.denial_laws.proofs.NameFacts.{strictly-low}
use Rattle.answer_terms.specs.Accepting.{zone_with}
use Rattle.answer_zone.specs.Placed.{IsCutRecords}
use Rattle.answer_zone.proofs.Placing.{AreLeft, behind_first, found, found_none, found_some, left_at_first, left_below, left_cut, left_first, left_passes, left_stops, left_takes, passed, suffixes_are, uncut_outside}
use Rattle.answer_zone.proofs.zone.ZoneRecords.cut_above.Goals as goal

pub loop-ancestor-init : goal.loop-ancestor-init
loop-ancestor-init g c =
    let z = zone_with c.args.self.now.apex c.args.self.now.records in
    let n = c.args.name.now in
    let left : c.next-itself.new.self ≡ behind_first n = passed c.iter_suffixes-ancestors.result c.next-itself.result c.next-itself.new.self c.next-itself.ensures.steps n (behind_first n) (c.iter_suffixes-ancestors.ensures ∙ suffixes_are n) in
    record {
      sought = left_at_first z n ∙ ap (left_cut z _) (sym left);
      left = subst (AreLeft n) (sym left) (left_below n n (above_itself n));
      records = tt;
    }

pub cut_at-requires : goal.cut_at-requires
cut_at-requires g c =
    let l = left_first c.args.name.now c.loop-ancestor.ancestors c.in-Some.ancestor c.next.new.self c.loop-ancestor.invariant.left c.in-Some.ensures.steps in
    sym (c.requires.shows c.in-Some.ancestor l.2)

pub loop-ancestor-preserved-in-Some-cut_at : goal.loop-ancestor-preserved-in-Some-cut_at
loop-ancestor-preserved-in-Some-cut_at g c =
    let apex = c.args.self.now.apex in
    let z = zone_with apex c.args.self.now.records in
    let a = c.in-Some.ancestor in
    let n = low c.in-Some-cut_at.cut.name.now in
    let l = left_first c.args.name.now c.loop-ancestor.ancestors a c.next.new.self c.loop-ancestor.invariant.left c.in-Some.ensures.steps in
    let some = c.in-Some-cut_at.ensures.some in
    let above : strictly_above apex a ≡ true = sym (ap (λ z. strictly_above z.apex a) c.self.view_is) ∙ sym c.is_above.ensures ∙ c.if-not-is_above.false in
    let delegation : is_delegation z (low a) ≡ true = and_from (has z (low a) 2) (strictly_above (low apex) (low a)) some.0 (strictly-low apex a ∙ above) in
    record {
      sought = c.loop-ancestor.invariant.sought ∙ ap (left_cut z (found c.loop-ancestor.topmost)) l.0 ∙ left_takes z (found c.loop-ancestor.topmost) a delegation ∙ (λ i. left_cut z (Some (sym some.1 i)) (sym l.1 i));
      left = subst (AreLeft c.args.name.now) (sym l.1) (left_below c.args.name.now a l.2);
      records = some.2;
    }

pub loop-ancestor-preserved : goal.loop-ancestor-preserved
loop-ancestor-preserved g c =
    let apex = c.args.self.now.apex in
    let z = zone_with apex c.args.self.now.records in
    let a = c.in-Some.ancestor in
    let l = left_first c.args.name.now c.loop-ancestor.ancestors a c.next.new.self c.loop-ancestor.invariant.left c.in-Some.ensures.steps in
    let plain : is_delegation z (low a) ≡ false = ap (λ b. b && strictly_above (low apex) (low a)) (c.in_default-cut_at.ensures.none refl) in
    record {
      sought = c.loop-ancestor.invariant.sought ∙ ap (left_cut z (found c.loop-ancestor.topmost)) l.0 ∙ left_passes z (found c.loop-ancestor.topmost) a plain ∙ ap (left_cut z (found c.loop-ancestor.topmost)) (sym l.1);
      left = subst (AreLeft c.args.name.now) (sym l.1) (left_below c.args.name.now a l.2);
      records = c.loop-ancestor.invariant.records;
    }

pub returns-then-not-is_above-clause-some : goal.returns-then-not-is_above-clause-some
returns-then-not-is_above-clause-some g c =
    let apex = c.args.self.now.apex in
    let z = zone_with apex c.args.self.now.records in
    let a = c.in-Some.ancestor in
    let l = left_first c.args.name.now c.loop-ancestor.ancestors a c.next.new.self c.loop-ancestor.invariant.left c.in-Some.ensures.steps in
    let outside : strictly_above (low apex) (low a) ≡ false = strictly-low apex a ∙ sym (ap (λ z. strictly_above z.apex a) c.self.view_is) ∙ sym c.is_above.ensures ∙ c.if-not-is_above.true in
    let is = c.loop-ancestor.invariant.sought ∙ ap (left_cut z (found c.loop-ancestor.topmost)) l.0 ∙ left_stops z (found c.loop-ancestor.topmost) a (uncut_outside z (low a) (low-low a) outside) in
    found_some c.loop-ancestor.topmost _ (IsCutRecords c.args.self.now.records) is c.loop-ancestor.invariant.records

pub returns-then-not-is_above-clause-none : goal.returns-then-not-is_above-clause-none
returns-then-not-is_above-clause-none g c = λ h.
    let apex = c.args.self.now.apex in
    let z = zone_with apex c.args.self.now.records in
    let a = c.in-Some.ancestor in
    let l = left_first c.args.name.now c.loop-ancestor.ancestors a c.next.new.self c.loop-ancestor.invariant.left c.in-Some.ensures.steps in
    let outside : strictly_above (low apex) (low a) ≡ false = strictly-low apex a ∙ sym (ap (λ z. strictly_above z.apex a) c.self.view_is) ∙ sym c.is_above.ensures ∙ c.if-not-is_above.true in
    let is = c.loop-ancestor.invariant.sought ∙ ap (left_cut z (found c.loop-ancestor.topmost)) l.0 ∙ left_stops z (found c.loop-ancestor.topmost) a (uncut_outside z (low a) (low-low a) outside) in
    found_none c.loop-ancestor.topmost _ is h
