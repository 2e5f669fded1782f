-- Messages that are there are found.
use Rattle.std.specs.Prelude.{◌≡◌, ℕ, true, false, List, Some, Contains}
use Rattle.definitions.specs.Name.{Name}
use Rattle.evidence_laws.specs.Given.{Given, Message, message_of}
use Rattle.resolution_walk.specs.Wanted.{lacks}
use Rattle.walk_laws.specs.Loop.{with_messages}

-- One that is there is found under its question, or another one of that question. What is found stays found behind more messages; and where
-- nothing is, the first of these is that answers.
pub record MessagesAreFound : Type 0 where
  pub there : (e : Given) (m : Message) → Contains e.messages m → lacks e m.zone m.asked.name m.asked.rtype ≡ false
  pub stays : (e : Given) (ms : List Message) (zone name : Name) (t : ℕ) (octets : List ℕ) → message_of e zone name t ≡ Some octets → message_of (with_messages e ms) zone name t ≡ Some octets
  pub added : (e : Given) (ms : List Message) (zone name : Name) (t : ℕ) → lacks e zone name t ≡ true → message_of (with_messages e ms) zone name t ≡ message_of (record e { messages = ms }) zone name t
