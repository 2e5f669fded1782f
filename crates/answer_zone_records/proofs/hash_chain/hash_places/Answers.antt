use Rattle.std.proofs.Common.{◌≡◌, ℕ, List, ◌+◌, ◌<◌, [], ◌∷◌, ◌++◌, length, map, take, sym, ap, subst, ◌∙◌, arith}
use Rattle.std.specs.List.{AllByRecursion}
use Rattle.std.proofs.lemmas.List.{take_all}
use Rattle.answer_terms.specs.HashedLinks.{hashed_link_at_or_around, hashed_link_speaks}
use Rattle.answer_zone_records.specs.ChainPlaces.{AreAt}
use Rattle.answer_zone_records.proofs.ChainSpoken.{all_more, more_hashes, no_more}
use Rattle.answer_zone_records.proofs.hash_chain.hash_places.Goals as goal
use Rattle.answer_zone_records.proofs.hash_chain.hash_places.Goals.{in-Some+in_ok-push, in_default}

pub loop-hash-preserved : goal.loop-hash-preserved
loop-hash-preserved c =
    let ls = c.args.chain.now in
    let i = c.loop-hash.hash-index in
    let x = c.hash-item.result in
    elim c.match-place_around.branch [
      | in-Some+in_ok-push w ↦
          let new : c.match-place_around.places.items ≡ c.loop-hash.places.items ++ w.in-Some.place ∷ [] = ap (λ v. v.items) w.places-is ∙ w.in_ok-push.ensures.items in
          record {
            within = subst (AllByRecursion (λ k. k < length ls)) (sym new) (all_more (λ k. k < length ls) c.loop-hash.places.items w.in-Some.place c.loop-hash.invariant.within w.in-Some.ensures.within);
            at = subst (AreAt (hashed_link_speaks (map (λ h. h.items) (take (i + 1) c.args.hashes.now))) ls) (sym new)
                (more_hashes ls c.args.hashes.now i x c.loop-hash.places.items (w.in-Some.place ∷ []) (omega arith) c.hash-item.is c.loop-hash.invariant.at
                (subst (λ (h : List ℕ). AreAt (λ l. hashed_link_at_or_around l h) ls (w.in-Some.place ∷ [])) c.deref.ensures.value w.in-Some.ensures.place));
          }
      | in_default w ↦
          let new : c.match-place_around.places.items ≡ c.loop-hash.places.items = ap (λ v. v.items) w.places-is in
          record {
            within = subst (AllByRecursion (λ k. k < length ls)) (sym new) c.loop-hash.invariant.within;
            at = subst (AreAt (hashed_link_speaks (map (λ h. h.items) (take (i + 1) c.args.hashes.now))) ls) (sym new)
                (no_more (hashed_link_speaks (map (λ h. h.items) (take (i + 1) c.args.hashes.now))) ls c.loop-hash.places.items
                (more_hashes ls c.args.hashes.now i x c.loop-hash.places.items [] (omega arith) c.hash-item.is c.loop-hash.invariant.at
                (subst (λ (h : List ℕ). AreAt (λ l. hashed_link_at_or_around l h) ls []) c.deref.ensures.value w.in_default.ensures.place)));
          }
    ]

pub returns-clause-places : goal.returns-clause-places
returns-clause-places c =
    subst (λ hs. AreAt (hashed_link_speaks (map (λ h. h.items) hs)) c.args.chain.now c.loop-hash.places.items) (take_all c.loop-hash.hash-index c.args.hashes.now (omega arith)) c.loop-hash.invariant.at
