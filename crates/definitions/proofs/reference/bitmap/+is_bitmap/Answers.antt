use Rattle.std.proofs.Common.{sym, ◌∙◌}
use Rattle.definitions.proofs.PlainBitmaps.{is_bitmap-first}
use Rattle.definitions.proofs.reference.bitmap.+is_bitmap.Goals as goal

pub returns-in-Some : goal.returns-in-Some
returns-in-Some t c = c.is_bitmap.ensures ∙ sym (is_bitmap-first c.args.octets.now _ (sym c.in-Some.ensures.value))
