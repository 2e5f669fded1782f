use Rattle.std.proofs.Common.{◌≡◌, ◌+◌, ◌<◌, [], ◌∷◌, ◌++◌, length, map, take, refl, sym, ap, subst, ◌∙◌, arith}
use Rattle.std.specs.List.{AllByRecursion}
use Rattle.std.proofs.lemmas.List.{take_all}
use Rattle.definitions.specs.Name.{low}
use Rattle.answer_zone_records.specs.ChainPlaces.{AreAt}
use Rattle.answer_zone_records.proofs.ChainSpoken.{all_more, more_names, no_more, speaks_all}
use Rattle.answer_zone_records.proofs.chain.link_places.Goals as goal
use Rattle.answer_zone_records.proofs.chain.link_places.Goals.{in-Some+in_ok-push, in_default}

pub loop-name-preserved : goal.loop-name-preserved
loop-name-preserved c =
    let ls = c.args.chain.now in
    let i = c.loop-name.name-index in
    let x = c.name-item.result in
    elim c.match-place_at.branch [
      | in-Some+in_ok-push w ↦
          let new : c.match-place_at.places.items ≡ c.loop-name.places.items ++ w.in-Some.place ∷ [] = ap (λ v. v.items) w.places-is ∙ w.in_ok-push.ensures.items in
          record {
            within = subst (AllByRecursion (λ k. k < length ls)) (sym new) (all_more (λ k. k < length ls) c.loop-name.places.items w.in-Some.place c.loop-name.invariant.within w.in-Some.ensures.within);
            at = λ apex r. subst (AreAt (speaks_all apex (map (λ n. low n.now) (take (i + 1) c.args.names.now))) ls) (sym new)
                (more_names (λ n. low n.now) apex ls c.args.names.now i x x.now c.loop-name.places.items (w.in-Some.place ∷ []) (omega arith) c.name-item.is refl
                (c.loop-name.invariant.at apex r) (w.in-Some.ensures.place apex r));
          }
      | in_default w ↦
          let new : c.match-place_at.places.items ≡ c.loop-name.places.items = ap (λ v. v.items) w.places-is in
          record {
            within = subst (AllByRecursion (λ k. k < length ls)) (sym new) c.loop-name.invariant.within;
            at = λ apex r. subst (AreAt (speaks_all apex (map (λ n. low n.now) (take (i + 1) c.args.names.now))) ls) (sym new)
                (no_more (speaks_all apex (map (λ n. low n.now) (take (i + 1) c.args.names.now))) ls c.loop-name.places.items
                (more_names (λ n. low n.now) apex ls c.args.names.now i x x.now c.loop-name.places.items [] (omega arith) c.name-item.is refl
                (c.loop-name.invariant.at apex r) (w.in_default.ensures.place apex r)));
          }
    ]

pub returns-clause-places : goal.returns-clause-places
returns-clause-places c = λ apex r.
    subst (λ ns. AreAt (speaks_all apex (map (λ n. low n.now) ns)) c.args.chain.now c.loop-name.places.items) (take_all c.loop-name.name-index c.args.names.now (omega arith)) (c.loop-name.invariant.at apex r)
