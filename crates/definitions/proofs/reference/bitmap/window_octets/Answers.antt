use Rattle.std.proofs.Common.{ap, ◌∙◌}
use Rattle.definitions.specs.Bitmap.{trimmed, window_size}
use Rattle.definitions.proofs.reference.bitmap.window_octets.Goals as goal

pub returns : goal.returns
unfolding window_size
returns c = c.trim.ensures ∙ ap trimmed c.in_ok-octets.ensures
