use Rattle.std.proofs.Common.{◌≡◌, ℕ, suc, ◌+◌, length, drop, ap, ◌∙◌, arith}
use Rattle.definitions.specs.Bitmap.{window_octets}
use Rattle.denial_bitmap.specs.Building.{window_len, windows_before}
use Rattle.denial_bitmap.proofs.Windows.{begins_inside, window_len-around, next_begins, next_begins_here}
use Rattle.denial_bitmap.proofs.builder.place_of.Goals as goal
use Rattle.denial_bitmap.proofs.builder.place_of.Goals.{then-len-gt0, else-len-gt0}

pub window_len-requires : goal.window_len-requires
window_len-requires c =
    let ts = c.requires.0 in
    omega (arith, c.loop-lower.invariant ts c.requires.1, begins_inside ts c.loop-lower.lower (omega (arith, c.loop-lower-test.true, c.ranges.number.fits)), ap length c.requires.1)

pub loop-lower-preserved : goal.loop-lower-preserved
loop-lower-preserved c ts e =
    let w : ℕ = c.loop-lower.lower in
    let at = c.loop-lower.invariant ts e in
    let len : c.window_len.result ≡ length (window_octets ts w) =
    c.window_len.ensures ∙ (λ i. window_len w (drop (at i) (e i))) ∙ window_len-around ts w (omega (arith, c.loop-lower-test.true, c.ranges.number.fits)) in
    let next : length (windows_before ts (suc w)) ≡ length (windows_before ts (w + 1)) = ap (λ k. length (windows_before ts k)) {x = suc w} {y = w + 1} (omega arith) in
    elim c.if-len-gt0.branch [
      | then-len-gt0 s ↦ omega (arith, s.place-is, at, len, c.from-len.ensures, next, next_begins ts w (omega (arith, s.if-len-gt0.true, len, c.from-len.ensures)))
      | else-len-gt0 s ↦ omega (arith, s.place-is, at, len, c.from-len.ensures, next, next_begins_here ts w (omega (arith, s.if-len-gt0.false, len, c.from-len.ensures)))
    ]

pub returns-clause-inside : goal.returns-clause-inside
returns-clause-inside c =
    let ts = c.requires.0 in
    omega (arith, c.loop-lower.invariant ts c.requires.1, begins_inside ts c.loop-lower.lower (omega (arith, c.loop-lower.auto.lower-end, c.ranges.number.fits)), ap length c.requires.1)
