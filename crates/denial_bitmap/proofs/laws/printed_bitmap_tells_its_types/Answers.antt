use Rattle.denial_bitmap.proofs.Told.{texts_tell_types}
use Rattle.denial_bitmap.proofs.laws.printed_bitmap_tells_its_types.Goals as goal

pub returns : goal.returns
returns c = texts_tell_types
