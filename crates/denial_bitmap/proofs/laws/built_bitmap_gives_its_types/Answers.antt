use Rattle.denial_bitmap.proofs.InOrder.{gives_types_in_order}
use Rattle.denial_bitmap.proofs.laws.built_bitmap_gives_its_types.Goals as goal

pub returns : goal.returns
returns c = gives_types_in_order
