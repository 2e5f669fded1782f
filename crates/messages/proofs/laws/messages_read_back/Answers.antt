use Rattle.std.proofs.Common.{refl}
use Rattle.messages.proofs.MessageWhole.{message_here}
use Rattle.messages.proofs.laws.messages_read_back.Goals as goal

pub returns : goal.returns
returns c = λ flags asked answers authority is are. message_here _ flags asked answers authority refl is are
