use Rattle.denial_bitmap.proofs.Windows.{no_types}
use Rattle.denial_bitmap.proofs.laws.no_types_are_no_octets.Goals as goal

pub returns : goal.returns
returns c = no_types
