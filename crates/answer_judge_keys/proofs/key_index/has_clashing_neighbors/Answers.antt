use Rattle.std.proofs.Common.{◌≡◌, ◌-◌, ◌+◌, ◌||◌, suc, drop, get_or, sym, ap, ◌∙◌, arith, false, refl}
use Rattle.answer_terms.specs.EqualTags.{clashes}
use Rattle.answer_judge_keys.proofs.KeyClashes.{row, row_all, row_end, row_step}
use Rattle.answer_judge_keys.proofs.key_index.has_clashing_neighbors.Goals as goal

pub loop-place-init : goal.loop-place-init
loop-place-init c = (refl, omega arith)

pub returns-then-clashes : goal.returns-then-clashes
returns-then-clashes c =
    let ks = c.args.ranked.now in
    let i = c.loop-place.place in
    let e : i ≡ suc (i - 1) = omega (arith, c.loop-place.invariant.1) in
    let a = c.index-ranked-before.result in
    let b = c.index-ranked-place.result in
    let step = row_step ks (i - 1) a b (omega (arith, e, c.loop-place-test.true)) c.index-ranked-before.is (c.index-ranked-place.is ∙ ap (λ n. get_or ks n b) e) in
    sym (sym (row_all ks c.requires) ∙ sym c.loop-place.invariant.0 ∙ step ∙ ap (λ x. x || row (drop (suc (i - 1)) ks)) (sym c.clashes.ensures ∙ c.if-clashes.true))

pub loop-place-preserved : goal.loop-place-preserved
loop-place-preserved c =
    let ks = c.args.ranked.now in
    let i = c.loop-place.place in
    let e : i ≡ suc (i - 1) = omega (arith, c.loop-place.invariant.1) in
    let a = c.index-ranked-before.result in
    let b = c.index-ranked-place.result in
    let step = row_step ks (i - 1) a b (omega (arith, e, c.loop-place-test.true)) c.index-ranked-before.is (c.index-ranked-place.is ∙ ap (λ n. get_or ks n b) e) in
    let none : clashes a b ≡ false = sym c.clashes.ensures ∙ c.if-clashes.false in
    let same : i + 1 - 1 ≡ suc (i - 1) = omega (arith, e) in (
      ap (λ n. row (drop n ks)) same ∙ sym (step ∙ ap (λ x. x || row (drop (suc (i - 1)) ks)) none) ∙ c.loop-place.invariant.0,
      omega arith,
    )

pub returns : goal.returns
returns c =
    let ks = c.args.ranked.now in
    let i = c.loop-place.place in
    sym (sym (row_all ks c.requires) ∙ sym c.loop-place.invariant.0 ∙ row_end ks (i - 1) (omega (arith, c.loop-place-test.false, c.loop-place.invariant.1)))
