-- What an unreadable line is refused for, and which refusals are want of memory.
use Rattle.std.specs.Prelude.{Bool, true, false}
use Rattle.answer_zone_records.specs.declared.fault.ZoneFault.{ZoneFault}
use Rattle.answer_zone_records.specs.declared.fault.ZoneFault.TheVariants as zone
use Rattle.answer_publisher_keys.specs.declared.fault.KeyFault.{KeyFault}
use Rattle.answer_publisher_keys.specs.declared.fault.KeyFault.TheVariants as key
use Rattle.answer_publisher.specs.declared.fault.ReplaceFault.{ReplaceFault}
use Rattle.answer_publisher.specs.declared.fault.ReplaceFault.TheVariants as replace
use Rattle.session_grammar.specs.declared.line_error.LineError.{LineError}
use Rattle.session_grammar.specs.declared.line_error.LineError.TheVariants as error
use Rattle.server_zone.specs.declared.refusals.Refusal.{Refusal}
use Rattle.server_zone.specs.declared.refusals.Refusal.TheVariants as refusal

abbrev pub refusal_of_line : LineError → Refusal
refusal_of_line (error.Unreadable fault) = refusal.Unreadable fault
refusal_of_line error.Memory = refusal.Memory

-- ---- want of memory

-- for a zone of records, for its replacement, for a call on its keys
abbrev pub is_zone_memory : ZoneFault → Bool
is_zone_memory zone.Memory = true
is_zone_memory _ = false

abbrev pub is_replace_memory : ReplaceFault → Bool
is_replace_memory replace.TooSoon = false
is_replace_memory (replace.Zone f) = is_zone_memory f

abbrev pub is_key_memory : KeyFault → Bool
is_key_memory key.Memory = true
is_key_memory _ = false

-- memory ran out, wherever it was wanted
abbrev pub is_memory : Refusal → Bool
is_memory refusal.Memory = true
is_memory (refusal.Zone f) = is_zone_memory f
is_memory (refusal.Key f) = is_key_memory f
is_memory (refusal.Replace f) = is_replace_memory f
is_memory _ = false
