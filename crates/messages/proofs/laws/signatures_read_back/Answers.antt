use Rattle.std.proofs.Common.{refl}
use Rattle.messages.proofs.MessageSignatures.{signature_here}
use Rattle.messages.proofs.laws.signatures_read_back.Goals as goal

pub returns : goal.returns
returns c = λ f signature before behind r are few start size. signature_here _ f signature behind r are few (record { front = before; whole = refl; place = start }) size
