-- What the lines of a session say, field by field.
use Rattle.std.specs.Prelude.{ℕ, ◌+◌, ◌-◌, ◌*◌, ◌==◌, ◌&&◌, Bool, true, false, List, [], ◌∷◌, ◌++◌, length, take, drop, slice_get, codes, nat_le, nat_lt, if◌then◌else◌, Option, Some, None}
use Rattle.std.specs.List.{list_all, slice_split}
use Rattle.std.specs.Result.{result_ok}
use Rattle.std.specs.Str.{bytes_eq, chars}
use Rattle.definitions.specs.ZoneChain.{Mode, Nsec, Nsec3}
use Rattle.definitions.specs.Name.{Name, wire, low}
use Rattle.definitions.specs.Text.{name_of_text}
use Rattle.answer_events.specs.HandedRr.{HandedRr}
use Rattle.answer_events.specs.Calls.{Call, Add, Delete, Start, Report1, Wait1, Report2, Wait2, Finish}
use Rattle.answer_events.specs.Actions.{read_roll}
use Rattle.answer_events.specs.Message.{Asked, owner_at}
use Rattle.answer_events.specs.NameOctets.{name_of_octets}
use Rattle.answer_events.specs.RollType.{RollType}
use Rattle.answer_events.specs.declared.key_kind.KeyKind.{KeyKind}
use Rattle.answer_events.specs.declared.key_kind.KeyKind.TheVariants.{Ksk, Zsk, Csk, Include}
use Rattle.session_grammar.specs.Fields.{is_nothing, hex_field, key_field, is_reference}
use Rattle.session_grammar.specs.Numbers.{number_field}

infixl 10 ◌>>=◌
abbrev pub ◌>>=◌ : {A B : Type 0} → Option A → (A → Option B) → Option B
(Some x) >>= f = f x
None >>= f = None

-- ---- fields

-- a name as its text (RFC 1035, 5.1)
abbrev pub name_field : List ℕ → Option Name
name_field field = name_of_text (chars field)

abbrev pub reference_field : List ℕ → Option (List ℕ)
reference_field field = if is_reference field then Some field else None

-- references joined by commas
abbrev pub references_field : List ℕ → Option (List (List ℕ))
references_field field =
    if is_nothing field then Some []
    else let parts = slice_split (λ c. c == 44) field in if list_all is_reference parts then Some parts else None

abbrev pub roll_field : List ℕ → Option RollType
roll_field field = result_ok (read_roll field)

-- a life of at most 2^31 - 1 seconds (RFC 4034, 3.1.5)
abbrev pub life_field : List ℕ → Option ℕ
life_field field = do
  life ← number_field 32 field
  if nat_le life 2147483647 then Some life else None

-- ---- the zone's line: `zone APEX nsec LIMIT LIFE`, or `zone APEX nsec3 ITERATIONS SALT LIMIT LIFE`, or the same with
-- `nsec3optout`

-- a zone with its chain: the most iterations that are allowed, and the life of a signature in seconds
pub record ZoneLine : Type 0 where
  pub apex : Name
  pub mode : Mode
  pub limit : ℕ
  pub life : ℕ

abbrev pub zone_fields : List ℕ → List ℕ → List ℕ → List ℕ → List ℕ → Option ZoneLine
zone_fields word apex mode limit life =
    if bytes_eq word (codes "zone") && bytes_eq mode (codes "nsec") then (do
      name ← name_field apex
      most ← number_field 16 limit
      seconds ← life_field life
      Some (record { apex = name; mode = Nsec; limit = most; life = seconds }))
    else None

-- whether a chain of hashes opts out (RFC 5155, 6)
abbrev pub opt_out_field : List ℕ → Option Bool
opt_out_field field = if bytes_eq field (codes "nsec3") then Some false else if bytes_eq field (codes "nsec3optout") then Some true else None

-- a salt of at most 255 octets (RFC 5155, 3.1.4)
abbrev pub salt_field : List ℕ → Option (List ℕ)
salt_field field = do
  octets ← hex_field 255 field
  if nat_le (length octets) 255 then Some octets else None

abbrev pub hashed_fields : List ℕ → List ℕ → List ℕ → List ℕ → List ℕ → List ℕ → List ℕ → Option ZoneLine
hashed_fields word apex mode iterations salt limit life =
    if bytes_eq word (codes "zone") then (do
      optout ← opt_out_field mode
      name ← name_field apex
      times ← number_field 16 iterations
      octets ← salt_field salt
      most ← number_field 16 limit
      seconds ← life_field life
      Some (record { apex = name; mode = Nsec3 times octets optout; limit = most; life = seconds }))
    else None

abbrev pub zone_line : List (List ℕ) → Option ZoneLine
zone_line (word ∷ apex ∷ mode ∷ limit ∷ life ∷ []) = zone_fields word apex mode limit life
zone_line (word ∷ apex ∷ mode ∷ iterations ∷ salt ∷ limit ∷ life ∷ []) = hashed_fields word apex mode iterations salt limit life
zone_line _ = None

-- ---- events

-- what is done; a key that is added by a line is available, and a replacement is by the records that were gathered
pub data ActLine : Type 0 where
  KeyCall : Call → ActLine
  Replace : List HandedRr → ActLine
  ShowDs : ActLine
  ShowDnskey : ActLine
  ShowCds : ActLine
  ShowCdnskey : ActLine
  Ask : Asked → ActLine
  Judge : ℕ → ℕ → ℕ → ActLine
  JudgeBytes : ℕ → List ℕ → List ℕ → Asked → ActLine

-- an act at a moment, in nanoseconds
pub record EventLine : Type 0 where
  pub at : ℕ
  pub act : ActLine

-- a question of class IN
abbrev pub question_fields : List ℕ → List ℕ → Option Asked
question_fields owner rtype = do
  name ← name_field owner
  t ← number_field 16 rtype
  Some (record { name = name; rtype = t; class = 1 })

-- `ask NAME TYPE`
abbrev pub ask_line : List ℕ → List ℕ → Option ActLine
ask_line owner rtype = do
  q ← question_fields owner rtype
  Some (Ask q)

-- `judge DS DNSKEY ANSWER`, three places
abbrev pub judge_line : List ℕ → List ℕ → List ℕ → Option ActLine
judge_line ds dnskey answer = do
  d ← number_field 64 ds
  k ← number_field 64 dnskey
  a ← number_field 64 answer
  Some (Judge d k a)

-- `bytes DS HEX HEX NAME TYPE`, a place, and a DNSKEY message and an answer of at most 65,535 octets each
abbrev pub bytes_line : List ℕ → List ℕ → List ℕ → List ℕ → List ℕ → Option ActLine
bytes_line ds dnskey answer owner rtype = do
  d ← number_field 64 ds
  k ← hex_field 65535 dnskey
  a ← hex_field 65535 answer
  q ← question_fields owner rtype
  Some (JudgeBytes d k a q)

abbrev pub kind_field : List ℕ → Option KeyKind
kind_field field =
    if bytes_eq field (codes "ksk") then Some Ksk
    else if bytes_eq field (codes "zsk") then Some Zsk
    else if bytes_eq field (codes "csk") then Some Csk
    else if bytes_eq field (codes "include") then Some Include
    else None

-- `key KIND REF ALGORITHM BASE64`
abbrev pub key_line : List ℕ → List ℕ → List ℕ → List ℕ → Option ActLine
key_line kind pubref algorithm octets = do
  q ← reference_field pubref
  a ← number_field 8 algorithm
  o ← key_field octets
  k ← kind_field kind
  Some (KeyCall (Add k q None a o true))

-- `start ROLL OLD NEW`
abbrev pub start_line : List ℕ → List ℕ → List ℕ → Option ActLine
start_line roll old new = do
  r ← roll_field roll
  os ← references_field old
  ns ← references_field new
  Some (KeyCall (Start r os ns))

-- `report1 ROLL TTL`, `report2 ROLL TTL`
abbrev pub report_line : (RollType → ℕ → Call) → List ℕ → List ℕ → Option ActLine
report_line call roll ttl = do
  r ← roll_field roll
  t ← number_field 32 ttl
  Some (KeyCall (call r t))

-- `wait1 ROLL`, `wait2 ROLL`, `done ROLL`
abbrev pub roll_line : (RollType → Call) → List ℕ → Option ActLine
roll_line call roll = do
  r ← roll_field roll
  Some (KeyCall (call r))

-- `delete REF`
abbrev pub delete_line : List ℕ → Option ActLine
delete_line pubref = do
  q ← reference_field pubref
  Some (KeyCall (Delete q))

-- by how many fields stand before the moment
abbrev pub act_line1 : List ℕ → Option ActLine
act_line1 w = if bytes_eq w (codes "ds") then Some ShowDs else if bytes_eq w (codes "dnskey") then Some ShowDnskey else if bytes_eq w (codes "cds") then Some ShowCds else if bytes_eq w (codes "cdnskey") then Some ShowCdnskey else None

abbrev pub act_line2 : List ℕ → List ℕ → Option ActLine
act_line2 w a = if bytes_eq w (codes "wait1") then roll_line Wait1 a else if bytes_eq w (codes "wait2") then roll_line Wait2 a else if bytes_eq w (codes "done") then roll_line Finish a else if bytes_eq w (codes "delete") then delete_line a else None

abbrev pub act_line3 : List ℕ → List ℕ → List ℕ → Option ActLine
act_line3 w a b = if bytes_eq w (codes "ask") then ask_line a b else if bytes_eq w (codes "report1") then report_line Report1 a b else if bytes_eq w (codes "report2") then report_line Report2 a b else None

abbrev pub act_line4 : List ℕ → List ℕ → List ℕ → List ℕ → Option ActLine
act_line4 w a b c = if bytes_eq w (codes "judge") then judge_line a b c else if bytes_eq w (codes "start") then start_line a b c else None

abbrev pub act_line5 : List ℕ → List ℕ → List ℕ → List ℕ → List ℕ → Option ActLine
act_line5 w a b c d = if bytes_eq w (codes "key") then key_line a b c d else None

abbrev pub act_line6 : List ℕ → List ℕ → List ℕ → List ℕ → List ℕ → List ℕ → Option ActLine
act_line6 w a b c d e = if bytes_eq w (codes "bytes") then bytes_line a b c d e else None

-- an event's line but for its moment
abbrev pub act_line : List (List ℕ) → Option ActLine
act_line (w ∷ []) = act_line1 w
act_line (w ∷ a ∷ []) = act_line2 w a
act_line (w ∷ a ∷ b ∷ []) = act_line3 w a b
act_line (w ∷ a ∷ b ∷ c ∷ []) = act_line4 w a b c
act_line (w ∷ a ∷ b ∷ c ∷ d ∷ []) = act_line5 w a b c d
act_line (w ∷ a ∷ b ∷ c ∷ d ∷ e ∷ []) = act_line6 w a b c d e
act_line _ = None

-- an event's line: its moment in whole seconds stands last
abbrev pub event_line : List (List ℕ) → Option EventLine
event_line fields = do
  last ← slice_get fields (length fields - 1)
  seconds ← number_field 64 last
  act ← act_line (take (length fields - 1) fields)
  Some (record { at = seconds * 1000000000; act = act })

-- `replace`, but for its records: the moment
abbrev pub replacement_line : List (List ℕ) → Option ℕ
replacement_line (word ∷ moment ∷ []) = do
  seconds ← number_field 64 moment
  Some (seconds * 1000000000)
replacement_line _ = None

-- ---- records: `rr OWNER TTL CLASS TYPE HEX`

-- a record's data: whether they are of an unknown type, as spelled, and in canonical form
pub record DataField : Type 0 where
  pub is_unknown : Bool
  pub written : List ℕ
  pub bytes : List ℕ

-- one name (RFC 1035, 3.3.11)
abbrev pub ns_octets : List ℕ → Option DataField
ns_octets octets = do
  n ← name_of_octets octets
  Some (record { is_unknown = false; written = wire n; bytes = wire (low n) })

-- two names, and so many octets before the numbers
abbrev pub soa_field : List ℕ → Name → Name → ℕ → Option DataField
soa_field octets mname rname front =
    if front + 20 == length octets
    then Some (record { is_unknown = false; written = wire mname ++ wire rname ++ drop front octets; bytes = wire (low mname) ++ wire (low rname) ++ drop front octets })
    else None

-- two names without pointers, and five numbers of 32 bits (RFC 1035, 3.3.13)
abbrev pub soa_octets : List ℕ → Option DataField
soa_octets octets = do
  m ← result_ok (owner_at 0 octets 0)
  r ← result_ok (owner_at 0 octets m.1)
  soa_field octets m.0 r.0 r.1

abbrev pub data_octets : ℕ → List ℕ → Option DataField
data_octets t octets =
    if t == 6 then soa_octets octets
    else if t == 2 then ns_octets octets
    else if nat_lt 65535 (length octets) then None
    else Some (record { is_unknown = true; written = octets; bytes = octets })

abbrev pub record_fields : List ℕ → List ℕ → List ℕ → List ℕ → List ℕ → List ℕ → Option HandedRr
record_fields word owner ttl class rtype octets =
    if bytes_eq word (codes "rr") then (do
      name ← name_field owner
      seconds ← number_field 32 ttl
      c ← number_field 16 class
      t ← number_field 16 rtype
      o ← hex_field 65535 octets
      d ← data_octets t o
      Some (record { owner = name; class = c; ttl = seconds; rtype = t; is_unknown = d.is_unknown; written = d.written; bytes = d.bytes }))
    else None

abbrev pub record_line : List (List ℕ) → Option HandedRr
record_line (word ∷ owner ∷ ttl ∷ class ∷ rtype ∷ octets ∷ []) = record_fields word owner ttl class rtype octets
record_line _ = None
