use Rattle.std.proofs.Common.{◌≡◌, ℕ, ◌+◌, ◌-◌, length, drop, ap, ◌∙◌, arith}
use Rattle.std.specs.Prelude.{set}
use Rattle.std.proofs.lemmas.Result.{on_ok_weaker}
use Rattle.definitions.specs.Bitmap.{window_octets}
use Rattle.denial_bitmap.specs.Building.{window_len, inserted, zeros}
use Rattle.denial_bitmap.proofs.Windows.{begins_inside, window_len-around, window_inside, room_new, room_more, room_enough}
use Rattle.denial_bitmap.proofs.builder.make_room.Goals as goal

pub window_len-len-requires : goal.window_len-len-requires
window_len-len-requires g c =
    let p = c.requires.built.1 in
    omega (arith, ap length c.as_slice.ensures, ap length p.0, p.1, begins_inside c.requires.built.0 c.args.number c.ranges.number.fits)

pub returns-then-needed-len-clause-ok : goal.returns-then-needed-len-clause-ok
returns-then-needed-len-clause-ok g c ts p =
    let len : c.window_len-len.result ≡ length (window_octets ts c.args.number) =
    c.window_len-len.ensures ∙ (λ i. window_len c.args.number (drop (p.1 i) ((c.as_slice.ensures ∙ p.0) i))) ∙ window_len-around ts c.args.number c.ranges.number.fits in
    p.0 ∙ room_enough ts c.args.number c.args.needed c.ranges.number.fits c.requires.some (omega (arith, c.if-needed-len.true, len))

pub new_window-requires-clause-inside : goal.new_window-requires-clause-inside
new_window-requires-clause-inside g c =
    let p = c.requires.built.1 in
    omega (arith, ap length p.0, p.1, begins_inside c.requires.built.0 c.args.number c.ranges.number.fits)

pub returns-then-len-eq0-clause-ok : goal.returns-then-len-eq0-clause-ok
returns-then-len-eq0-clause-ok g c ts p =
    let w : ℕ = c.args.number in
    let n : ℕ = c.args.needed in
    let place : ℕ = c.args.place in
    let len : c.window_len-len.result ≡ length (window_octets ts w) =
    c.window_len-len.ensures ∙ (λ i. window_len w (drop (p.1 i) ((c.as_slice.ensures ∙ p.0) i))) ∙ window_len-around ts w c.ranges.number.fits in
    on_ok_weaker c.new_window.result
    (λ e. e ∙ ap (λ xs. set (set (inserted xs place (zeros (2 + n))) place w) (place + 1) n) p.0
    ∙ room_new ts w n place c.ranges.number.fits p.1 (omega (arith, len, c.if-len-eq0.true)))
    c.new_window.ensures.ok

pub longer_window-requires-clause-inside : goal.longer_window-requires-clause-inside
longer_window-requires-clause-inside g c =
    let ts = c.requires.built.0 in
    let p = c.requires.built.1 in
    let len : c.window_len-len.result ≡ length (window_octets ts c.args.number) =
    c.window_len-len.ensures ∙ (λ i. window_len c.args.number (drop (p.1 i) ((c.as_slice.ensures ∙ p.0) i))) ∙ window_len-around ts c.args.number c.ranges.number.fits in
    omega (arith, ap length p.0, p.1, len, window_inside ts c.args.number c.ranges.number.fits (omega (arith, len, c.if-len-eq0.false)))

pub returns-clause-ok : goal.returns-clause-ok
returns-clause-ok g c ts p =
    let w : ℕ = c.args.number in
    let n : ℕ = c.args.needed in
    let place : ℕ = c.args.place in
    let len : c.window_len-len.result ≡ length (window_octets ts w) =
    c.window_len-len.ensures ∙ (λ i. window_len w (drop (p.1 i) ((c.as_slice.ensures ∙ p.0) i))) ∙ window_len-around ts w c.ranges.number.fits in
    on_ok_weaker c.longer_window.result
    (λ e. e ∙ (λ i. set (inserted (p.0 i) (place + 2 + len i) (zeros (n - len i))) (place + 1) n)
    ∙ room_more ts w n place c.ranges.number.fits p.1 (omega (arith, len, c.if-len-eq0.false)) (omega (arith, len, c.if-needed-len.false)))
    c.longer_window.ensures.ok
