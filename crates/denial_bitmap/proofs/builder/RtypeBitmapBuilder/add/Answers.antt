use Rattle.std.proofs.Common.{◌≡◌, ℕ, ◌∷◌, ◌+◌, ◌/◌, ◌%◌, length, ap, ◌∙◌, arith}
use Rattle.std.specs.Prelude.{set, slice_index}
use Rattle.denial_bitmap.specs.Building.{with_bit, windows_before}
use Rattle.denial_bitmap.specs.Padding.{roomy}
use Rattle.denial_bitmap.proofs.Windows.{bit_written, room_inside}
use Rattle.denial_bitmap.proofs.builder.RtypeBitmapBuilder.add.Goals as goal

pub set_bit-requires-clause-inside : goal.set_bit-requires-clause-inside
set_bit-requires-clause-inside g c =
    let ts = c.self.invariant.0 in
    let is = c.self.invariant.1 in
    let at = c.place_of-place.ensures.value ts (c.as_slice.ensures ∙ is) in
    let room = c.in_ok-make_room.ensures.ok ts (is, at) in
    omega (arith, at, c.from.ensures, ap length room, room_inside ts (c.to_int.result / 256) (c.to_int-2.result % 256 / 8 + 1))

pub invariant_of-self-2 : goal.invariant_of-self-2
invariant_of-self-2 g c =
    let ts = c.self.invariant.0 in
    let t : ℕ = c.args.rtype in
    let is = c.self.invariant.1 in
    let at = c.place_of-place.ensures.value ts (c.as_slice.ensures ∙ is) in
    let room = c.in_ok-make_room.ensures.ok ts (is, at) in
    let place : ℕ = c.place_of-place.result + 2 + c.from.result in
    let bit : c.to_int-2.result % 256 % 8 ≡ t % 8 = omega (arith, c.to_int-2.ensures) in
    let room_of : roomy ts (c.to_int.result / 256) (c.to_int-2.result % 256 / 8 + 1) ≡ roomy ts (t / 256) (t % 256 / 8 + 1) = λ i. roomy ts (c.to_int.ensures i / 256) (c.to_int-2.ensures i % 256 / 8 + 1) in (
      t ∷ ts,
      c.set_bit.ensures ∙ (λ i. set ((room ∙ room_of) i) place (with_bit (slice_index ((room ∙ room_of) i) place) (bit i)))
          ∙ bit_written ts t place (omega (arith, c.to_int.ensures, c.to_int.type_inv)) (omega (arith, at, c.from.ensures, c.to_int-2.ensures, ap (λ n. length (windows_before ts (n / 256))) c.to_int.ensures)),
    )

pub returns-clause-ok : goal.returns-clause-ok
returns-clause-ok g c ts e =
    let t : ℕ = c.args.rtype in
    let is = c.self.view_is ∙ e in
    let at = c.place_of-place.ensures.value ts (c.as_slice.ensures ∙ is) in
    let room = c.in_ok-make_room.ensures.ok ts (is, at) in
    let place : ℕ = c.place_of-place.result + 2 + c.from.result in
    let bit : c.to_int-2.result % 256 % 8 ≡ t % 8 = omega (arith, c.to_int-2.ensures) in
    let room_of : roomy ts (c.to_int.result / 256) (c.to_int-2.result % 256 / 8 + 1) ≡ roomy ts (t / 256) (t % 256 / 8 + 1) = λ i. roomy ts (c.to_int.ensures i / 256) (c.to_int-2.ensures i % 256 / 8 + 1) in
    c.set_bit.ensures ∙ (λ i. set ((room ∙ room_of) i) place (with_bit (slice_index ((room ∙ room_of) i) place) (bit i)))
    ∙ bit_written ts t place (omega (arith, c.to_int.ensures, c.to_int.type_inv)) (omega (arith, at, c.from.ensures, c.to_int-2.ensures, ap (λ n. length (windows_before ts (n / 256))) c.to_int.ensures))
