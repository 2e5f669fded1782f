-- What the code's readings of lines give, beside the grammar.
use Rattle.std.specs.Prelude.{◌≡◌, ℕ, false, List, map, Option, Some, None, Result, Ok, Err}
use Rattle.std.specs.Borrow.{Bor}
use Rattle.std.specs.Option.{option_map}
use Rattle.answer_events.specs.Questions.{asked_of}
use Rattle.answer_terms.specs.ModeView.{mode_of}
use Rattle.answer_events.specs.Calls.{call_of}
use Rattle.answer_events.specs.declared.event.Event.{Event}
use Rattle.answer_events.specs.declared.event.Act.{Act}
use Rattle.answer_events.specs.declared.event.Act.TheVariants as act
use Rattle.session_grammar.specs.declared.line_error.LineError.{LineError}
use Rattle.session_grammar.specs.declared.line_error.LineError.TheVariants.{Unreadable, Memory}
use Rattle.session_grammar.specs.declared.session.SessionError.{SessionError}
use Rattle.session_grammar.specs.declared.session.SessionError.TheVariants as session_error
use Rattle.session_grammar.specs.declared.reading.Reading.{Reading}
use Rattle.session_grammar.specs.declared.zone.Zone.{Zone}
use Rattle.definitions.specs.Name.{Name}
use Rattle.plain.specs.Soa.{soa_octets, soa_canonical}
use Rattle.plain.specs.declared.soa.Soa.{Soa}
use Rattle.plain.specs.declared.zone_data.ZoneRecordData.{ZoneRecordData}
use Rattle.answer_events.specs.HandedRr.{handed_of, is_unknown, written_of, canonical_of}
use Rattle.session_grammar.specs.Grammar.{ZoneLine, ActLine, EventLine, DataField, KeyCall, Replace, ShowDs, ShowDnskey, ShowCds, ShowCdnskey, Ask, Judge, JudgeBytes}
use Rattle.session_grammar.specs.Sessions.{Lines, session_of}

-- What a reading returned, seen by view, is what the grammar reads; it is refused where the grammar reads nothing.
abbrev pub Reads : {X Y : Type 0} → (X → Y) → Result X LineError → Option Y → Type 0
Reads view (Ok x) read = read ≡ Some (view x)
Reads view (Err (Unreadable fault)) read = read ≡ None
Reads view (Err Memory) read = Unit {0}

-- fields, as their octets
abbrev pub texts : List (Bor (List ℕ)) → List (List ℕ)
texts fields = map (λ f. f.now) fields

abbrev pub zone_view : Zone → ZoneLine
zone_view z = record { apex = z.apex; mode = mode_of z.mode; limit = z.limit; life = z.life }

abbrev pub act_view : Act → ActLine
act_view (act.Key c) = KeyCall (call_of c)
act_view (act.Replace records) = Replace (map handed_of records.items)
act_view act.ShowDs = ShowDs
act_view act.ShowDnskey = ShowDnskey
act_view act.ShowCds = ShowCds
act_view act.ShowCdnskey = ShowCdnskey
act_view (act.Ask q) = Ask (asked_of q)
act_view (act.Judge ds dnskey answer) = Judge ds dnskey answer
act_view (act.JudgeBytes ds dnskey answer q) = JudgeBytes ds dnskey.items answer.items (asked_of q)

abbrev pub event_view : Event → EventLine
event_view e = record { at = e.at; act = act_view e.act }

abbrev pub soa_view : Soa Name → DataField
soa_view s = record { is_unknown = false; written = soa_octets (λ n. n) s; bytes = soa_canonical (λ n. n) s }

abbrev pub data_view : {O : Type 0} → ZoneRecordData O Name → DataField
data_view d = record { is_unknown = is_unknown d; written = written_of d; bytes = canonical_of d }

-- a session that was read so far
abbrev pub session_view : Reading → Lines
session_view r = record {
  zone = option_map zone_view r.zone;
  records = map handed_of r.records.items;
  events = map event_view r.events.items;
  gathered = map handed_of r.gathered.items;
}

-- the first line that can't be read, counted from 1 on, or want of memory
abbrev pub IsSessionError : List ℕ → SessionError → Type 0
IsSessionError input (session_error.Line n fault) = session_of input ≡ Err n
IsSessionError input session_error.Memory = Unit {0}
