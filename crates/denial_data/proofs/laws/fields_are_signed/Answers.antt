use Rattle.denial_data.proofs.Sizes.{signed_over}
use Rattle.denial_data.proofs.laws.fields_are_signed.Goals as goal

pub returns : goal.returns
returns c = signed_over
