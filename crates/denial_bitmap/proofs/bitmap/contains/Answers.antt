use Rattle.std.proofs.Common.{ℕ, ◌/◌, cond, sym, ap, ◌∙◌}
use Rattle.std.proofs.lemmas.Bool.{ne_eqb}
use Rattle.definitions.specs.Bitmap.{bitmap_has, bit_in}
use Rattle.definitions.specs.Windows.{split}
use Rattle.definitions.proofs.PlainBitmaps.{is_bitmap-first, bitmap_has-first}
use Rattle.denial_bitmap.proofs.bitmap.contains.Goals as goal

pub loop-window-preserved : goal.loop-window-preserved
loop-window-preserved c =
    let t : ℕ = c.args.rtype in
    let s = split c.in-Ok.window.number c.in-Ok.window.octets.now c.in-Ok.behind.now in
    let rest = sym (is_bitmap-first c.loop-window.rest.now s c.in-Ok.ensures.ok) ∙ c.loop-window.invariant.bitmap in
    let other = ne_eqb c.in-Ok.window.number (t / 256) (λ e. c.if-from-to_int.false (c.from.ensures ∙ e ∙ ap (λ j. j / 256) (sym c.to_int.ensures))) in
    record {
      same = c.loop-window.invariant.same ∙ bitmap_has-first c.loop-window.rest.now s t c.in-Ok.ensures.ok rest
          ∙ ap (λ b. cond b (bit_in c.in-Ok.window.octets.now t) (bitmap_has c.in-Ok.behind.now t)) other;
      bitmap = rest;
    }
