-- What the lines of a journal say behind that of its zone.
use Rattle.std.specs.Prelude.{ℕ, Bool, true, false, List, Option, Some, None, if◌then◌else◌}
use Rattle.std.specs.Str.{is_utf8}
use Rattle.answer_events.specs.Calls.{Call, call_of}
use Rattle.answer_events.specs.Events.{added_by_call}
use Rattle.answer_events.specs.HandedRr.{HandedRr, handed_of}
use Rattle.session_grammar.specs.Grammar.{◌>>=◌, ActLine, EventLine, KeyCall, Replace, ShowDs, ShowDnskey, ShowCds, ShowCdnskey, Ask, Judge, JudgeBytes, event_line, record_line, replacement_line}
use Rattle.session_grammar.specs.Lines.{is_passed_over}
use Rattle.session_grammar.specs.Sessions.{fields_of, is_record_line, is_replacement_line}
use Rattle.server_zone.specs.declared.line.Line.{Line}
use Rattle.server_zone.specs.declared.line.Line.TheVariants as line

-- nothing; a record; a replacement at a moment; a call on the keys at a moment; what else a session has
pub data StateLine : Type 0 where
  Nothing : StateLine
  Added : HandedRr → StateLine
  Replaced : ℕ → StateLine
  Called : ℕ → Call → StateLine
  Other : StateLine

abbrev pub act_kind : ℕ → ActLine → StateLine
act_kind at (KeyCall c) = Called at c
act_kind at (Replace rs) = Other
act_kind at ShowDs = Other
act_kind at ShowDnskey = Other
act_kind at ShowCds = Other
act_kind at ShowCdnskey = Other
act_kind at (Ask q) = Other
act_kind at (Judge ds dnskey answer) = Other
act_kind at (JudgeBytes ds dnskey answer q) = Other

abbrev pub event_kind : EventLine → StateLine
event_kind e = act_kind e.at e.act

-- a line by its fields
abbrev pub fields_line : List (List ℕ) → Option StateLine
fields_line fields =
    if is_record_line fields then (record_line fields >>= λ r. Some (Added r))
    else if is_replacement_line fields then (replacement_line fields >>= λ at. Some (Replaced at))
    else (event_line fields >>= λ e. Some (event_kind e))

-- a line behind that of the zone; None where it can't be read there
abbrev pub state_line : List ℕ → Option StateLine
state_line text = if is_passed_over text then Some Nothing else if is_utf8 text then fields_line (fields_of text) else None

-- whether it is an event
abbrev pub is_event : StateLine → Bool
is_event Nothing = false
is_event (Added r) = false
is_event (Replaced at) = true
is_event (Called at c) = true
is_event Other = true

-- what the code reads
abbrev pub line_view : Line → StateLine
line_view line.Nothing = Nothing
line_view (line.Record r) = Added (handed_of r)
line_view (line.Replacement at) = Replaced at
line_view (line.Call c at) = Called at (call_of c)
line_view line.Other = Other

-- the octets of the key that a line adds, 0 for other lines
abbrev pub added_in : Line → ℕ
added_in (line.Call c at) = added_by_call c
added_in _ = 0
