use Rattle.std.proofs.Common.{ℕ, ◌/◌, cond, eq-eqb, sym, ap, ◌∙◌}
use Rattle.std.proofs.lemmas.Bool.{ne_eqb}
use Rattle.definitions.specs.Bitmap.{bitmap_has, bit_in}
use Rattle.definitions.specs.Windows.{split}
use Rattle.definitions.proofs.PlainBitmaps.{bitmap_has-broken, bitmap_has-first}
use Rattle.definitions.proofs.reference.bitmap.+bitmap_has.Goals as goal

pub returns-then-not-is_bitmap : goal.returns-then-not-is_bitmap
returns-then-not-is_bitmap t c =
    sym (bitmap_has-broken c.args.octets.now (split c.in-Some.number c.in-Some.window.now c.in-Some.behind.now) c.args.rtype (sym c.in-Some.ensures.value) (sym c.is_bitmap.ensures ∙ c.if-not-is_bitmap.true))

pub returns-then-from-rtype : goal.returns-then-from-rtype
returns-then-from-rtype t c =
    let rtype : ℕ = c.args.rtype in
    let first = bitmap_has-first c.args.octets.now (split c.in-Some.number c.in-Some.window.now c.in-Some.behind.now) rtype (sym c.in-Some.ensures.value) (sym c.is_bitmap.ensures ∙ c.if-not-is_bitmap.false) in
    let same = eq-eqb c.in-Some.number (rtype / 256) (sym c.from.ensures ∙ c.if-from-rtype.true) in
    c.bit_in.ensures ∙ sym (first ∙ ap (λ b. cond b (bit_in c.in-Some.window.now rtype) (bitmap_has c.in-Some.behind.now rtype)) same)

pub returns : goal.returns
returns t c =
    let rtype : ℕ = c.args.rtype in
    let first = bitmap_has-first c.args.octets.now (split c.in-Some.number c.in-Some.window.now c.in-Some.behind.now) rtype (sym c.in-Some.ensures.value) (sym c.is_bitmap.ensures ∙ c.if-not-is_bitmap.false) in
    let other = ne_eqb c.in-Some.number (rtype / 256) (λ e. c.if-from-rtype.false (c.from.ensures ∙ e)) in
    c.bitmap_has.ensures ∙ sym (first ∙ ap (λ b. cond b (bit_in c.in-Some.window.now rtype) (bitmap_has c.in-Some.behind.now rtype)) other)
