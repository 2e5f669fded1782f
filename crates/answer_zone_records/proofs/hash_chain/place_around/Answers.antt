use Rattle.std.proofs.Common.{ℕ, ◌-◌, ◌<◌, [], ◌∷◌, length, sym, subst, arith}
use Rattle.answer_terms.specs.HashedLinks.{HashedLink, hashed_link_at_or_around}
use Rattle.answer_zone_records.specs.ChainPlaces.{AreAt}
use Rattle.answer_zone_records.proofs.Rounds.{around_at_end, around_at_place}
use Rattle.answer_zone_records.proofs.hash_chain.place_around.Goals as goal
use Rattle.answer_zone_records.proofs.hash_chain.place_around.Goals.{then-count-gt0, else-count-gt0}

pub returns-then-behind-gt0-clause-place : goal.returns-then-behind-gt0-clause-place
returns-then-behind-gt0-clause-place c =
    let n = c.count_up_to-count in
    let P : ℕ → Type 0 = λ k. AreAt (λ (l : HashedLink). hashed_link_at_or_around l c.args.hash.now) c.args.chain.now ((k - 1) ∷ []) in
    elim c.if-count-gt0.branch [
      | then-count-gt0 w ↦ subst P (sym w.behind-is) (around_at_place c.args.hash.now c.args.chain.now c.requires n.result n.ensures.bound n.ensures.cut w.if-count-gt0.true)
      | else-count-gt0 w ↦
          let some : 0 < length c.args.chain.now = omega (arith, c.if-behind-gt0.true, w.behind-is) in
          subst P (sym w.behind-is) (around_at_end c.args.hash.now c.args.chain.now c.requires n.result n.ensures.bound n.ensures.cut (omega (arith, w.if-count-gt0.false)) some)
    ]
