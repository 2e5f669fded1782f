use Rattle.std.proofs.Common.{[], sym, ◌∙◌}
use Rattle.denial_bitmap.proofs.Windows.{no_types}
use Rattle.denial_bitmap.proofs.builder.RtypeBitmapBuilder.with_builder.Goals as goal

pub invariant_of-result : goal.invariant_of-result
invariant_of-result g c = ([], c.requires ∙ sym no_types)

pub returns : goal.returns
returns g c = c.requires ∙ sym no_types
