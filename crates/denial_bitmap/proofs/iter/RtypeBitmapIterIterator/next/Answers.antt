use Rattle.std.proofs.Common.{◌++◌, map, ap, sym, ◌∙◌, ◌+◌, ◌*◌}
use Rattle.definitions.specs.Windows.{split}
use Rattle.definitions.proofs.PlainBitmaps.{is_bitmap-first}
use Rattle.denial_bitmap.specs.Types.{types_in}
use Rattle.denial_bitmap.proofs.Stepping.{types-first}
use Rattle.denial_bitmap.proofs.iter.RtypeBitmapIterIterator.next.Goals as goal

pub loop-bit-preserved : goal.loop-bit-preserved
loop-bit-preserved c =
    let s = split c.in-Ok.window.number c.in-Ok.window.octets.now c.in-Ok.behind.now in
    let rest = sym (is_bitmap-first c.loop-bit.self-inside.rest.now s c.in-Ok.ensures.ok) ∙ c.loop-bit.invariant.bitmap in
    record {
      left = sym (types-first c.loop-bit.self-inside.rest.now s c.in-Ok.ensures.ok rest)
          ∙ ap (λ bits. map (λ k. c.loop-bit.self-inside.window.number * 256 + k) bits ++ types_in c.loop-bit.self-inside.rest.now) (sym c.in_default.ensures.none) ∙ c.loop-bit.invariant.left;
      few = c.in-Ok.ensures.few;
      bitmap = rest;
    }
