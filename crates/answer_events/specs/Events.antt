-- What the conditions of a simulation speak of.
use Rattle.std.specs.Prelude.{ℕ, length}
use Rattle.answer_events.specs.declared.event.Event.{Event}
use Rattle.answer_events.specs.declared.event.Act.{Act}
use Rattle.answer_events.specs.declared.event.Act.TheVariants.{Key}
use Rattle.answer_events.specs.declared.event.KeyCall.{KeyCall}
use Rattle.answer_events.specs.declared.event.KeyCall.TheVariants.{AddKeyKsk, AddKeyZsk, AddKeyCsk, AddPublicKey}

-- the octets of the key that a call adds, 0 for other calls
abbrev pub added_by_call : KeyCall → ℕ
added_by_call (AddKeyKsk key) = length key.public_key.items
added_by_call (AddKeyZsk key) = length key.public_key.items
added_by_call (AddKeyCsk key) = length key.public_key.items
added_by_call (AddPublicKey pubref algorithm key at_hand) = length key.items
added_by_call _ = 0

abbrev pub added_by_act : Act → ℕ
added_by_act (Key call) = added_by_call call
added_by_act _ = 0

-- the octets of the key that an event adds, 0 for other events: at most 65,531 fit a DNSKEY record's data (RFC 4034, 2.1)
abbrev pub added_octets : Event → ℕ
added_octets e = added_by_act e.act
