-- What comes of the making of a message.
use Rattle.std.specs.Prelude.{◌≡◌, ℕ, ◌<◌, Bool, true, length, Option, Result, Ok, Err}
use Rattle.messages.specs.Message.{Asked}
use Rattle.answer_publisher.specs.declared.fault.AnswerFault.{AnswerFault}
use Rattle.server_signatures.specs.Table.{missing}
use Rattle.server_signatures.specs.declared.answering.Signed.{Signed}
use Rattle.server_signatures.specs.declared.answering.Signed.TheVariants.{Message, Missing}
use Rattle.server_answers.specs.Responding.{IsFault, IsMessage, Serving, TellsAllowed, inputs_for, latest_with, may_answer}

-- a message, with the greatest second noted; what is missing, where signatures are wanted; or why there is none: that the question is not
-- allowed exactly where that is so
abbrev pub Makes : Serving → Asked → Bool → Bool → Option ℕ → Option ℕ → Result Signed AnswerFault → Type 0
Makes s asked keys dnssec_ok old new (Ok (Message m)) = IsMessage s asked keys dnssec_ok m.items × (new ≡ latest_with old s.at keys) × (may_answer s.world.zone.apex asked keys ≡ true)
Makes s asked keys dnssec_ok old new (Ok (Missing v)) =
    (dnssec_ok ≡ true) × (v.items ≡ missing s.table (inputs_for s asked keys)) × (0 < length v.items) × (new ≡ old) × (may_answer s.world.zone.apex asked keys ≡ true)
Makes s asked keys dnssec_ok old new (Err f) = IsFault s asked keys dnssec_ok f × (new ≡ old) × TellsAllowed s.world.zone.apex asked keys f
