-- A message that was read, as a walk sees it.
use Rattle.std.specs.Cow.{cow_slice_items}
use Rattle.messages.specs.Questions.{asked_of}
use Rattle.evidence_laws.specs.Given.{Message}
use Rattle.resolution_octets.specs.declared.received.ReadMessage.{ReadMessage}

abbrev pub message_of : ReadMessage → Message
message_of m = record { zone = m.zone; asked = asked_of m.question; octets = cow_slice_items m.octets }
