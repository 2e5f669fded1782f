use Rattle.std.proofs.Common.{◌∙◌}
use Rattle.definitions.specs.Windows.{split}
use Rattle.definitions.proofs.PlainBitmaps.{is_bitmap-first}
use Rattle.denial_bitmap.proofs.Breaking.{behind_window}
use Rattle.denial_bitmap.proofs.bitmap.check.Goals as goal

pub loop-rest-preserved : goal.loop-rest-preserved
loop-rest-preserved c =
    let s = split c.in_ok-behind.field-0-0.number c.in_ok-behind.field-0-0.octets.now c.in_ok-behind.behind.now in
    record {
      same = c.loop-rest.invariant.same ∙ is_bitmap-first c.loop-rest.rest.now s c.in_ok-behind.ensures.ok;
      fault = λ e b. c.loop-rest.invariant.fault e (behind_window c.loop-rest.rest.now s e c.in_ok-behind.ensures.ok b);
    }
